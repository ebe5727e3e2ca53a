-- Every question lies strictly within what is held, so what is held lies within all that failed.
use Rattle.std.proofs.Common.{rules, ◌≡◌, ℕ, zero, suc, ◌<◌, ◌≤◌, Bool, true, false, ltb, ◌⊎◌, List, [], ◌∷◌, length, get_or, take, sym, refl, ap, ◌∙◌, subst, inl, inr, le_of_suc-le-suc, not-suc-le-zero, arith}
use Rattle.std.specs.List.{list_any}
use Rattle.std.proofs.lemmas.Bool.{and_from, ltb-true, lt-ltb, le-ltb, eq-eqb, both_ways, or_cases, or_left}
use Rattle.subset.specs.Parts.{same, some_of, has}
use Rattle.subset.proofs.Lists.{Row, row_from, row_get_or, those_in, those_out, has_append, has_get_or, has_those, has_every, every_has}
use Rattle.subset.proofs.Order.{row_has, same_is, must_false}
use Rattle.bisect.specs.Judge.{Judge, fails}
use Rattle.bisect.specs.Search.{keep, Pass, question, answered}
use Rattle.bisect.specs.Pass.{asked_of, Repeats, StrictlyWithin, before, Nested}
use Rattle.bisect.proofs.Keep.{above, keep_above, keep_has, above_row, above_above}

-- ---- what was asked
same_self : (q : List ℕ) → same q q ≡ true
unfolding same
same_self [] = refl
same_self (k ∷ ks) = and_from _ _ (eq-eqb k k refl) (same_self ks)

pub asked_new : (q : List ℕ) (qs : List (List ℕ)) → asked_of (q ∷ qs) q ≡ true
asked_new q qs = or_left (same q q) (list_any (same q) qs) (same_self q)

pub asked_more : (q p : List ℕ) (qs : List (List ℕ)) → asked_of qs q ≡ true → asked_of (p ∷ qs) q ≡ true
asked_more q p qs h = search rules

asked_cases : (q p : List ℕ) (qs : List (List ℕ)) → asked_of (p ∷ qs) q ≡ true → (q ≡ p) ⊎ (asked_of qs q ≡ true)
asked_cases q p qs h = elim (or_cases (same q p) (list_any (same q) qs) h) [ inl a ↦ inl (same_is q p a) | inr a ↦ inr a ]

asked_none : (q : List ℕ) → asked_of [] q ≡ true → ⊥
asked_none q h = both_ways _ refl h

-- ---- F is what is held, of what A was at the beginning
pub record Came (f : Judge) (A : List ℕ) (qs : List (List ℕ)) (F : List ℕ) : Type 0 where
  pub asked : (asked_of qs F ≡ true) ⊎ (F ≡ A)
  pub inside : (y : ℕ) → has F y ≡ true → has A y ≡ true
  pub nest : (q : List ℕ) → asked_of qs q ≡ true → fails f q ≡ true → (y : ℕ) → has F y ≡ true → has q y ≡ true
  pub repeats : Repeats f qs

pub came_known : (f : Judge) (A : List ℕ) → Came f A [] A
came_known f A = search rules

pub came_asked : (f : Judge) (A : List ℕ) → Came f A (A ∷ []) A
came_asked f A = record {
  asked = inr refl;
  inside = λ y h. h;
  nest = λ q h g y i. elim (asked_cases q A [] h) [ inl a ↦ rw a i | inr a ↦ absurd (asked_none q a) ];
  repeats = ((λ h. absurd (asked_none A h)), tt);
}

module _ (f : Judge) (A : List ℕ) (qs : List (List ℕ)) (F Q : List ℕ) (t : Came f A qs F) (strictly : StrictlyWithin Q F) where
  part : (y : ℕ) → has Q y ≡ true → has F y ≡ true
  part y h = has_every (has F) Q y strictly.0 h

  -- what would be asked a second time did not fail
  again : asked_of qs Q ≡ true → fails f Q ≡ false
  again h = search rules

  pub came_fails : fails f Q ≡ true → Came f A (Q ∷ qs) Q
  came_fails e = record {
    asked = inl (asked_new Q qs);
    inside = λ y h. t.inside y (part y h);
    nest = λ q h g y i. elim (asked_cases q Q qs h) [ inl a ↦ rw a i | inr a ↦ t.nest q a g y (part y i) ];
    repeats = (again, t.repeats);
  }

  pub came_stands : fails f Q ≡ false → Came f A (Q ∷ qs) F
  came_stands e = record {
    asked = elim t.asked [ inl a ↦ inl (asked_more F Q qs a) | inr a ↦ inr a ];
    inside = t.inside;
    nest = λ q h g y i. elim (asked_cases q Q qs h) [ inl a ↦ absurd (both_ways _ e (rw a at g)) | inr a ↦ t.nest q a g y i ];
    repeats = (again, t.repeats);
  }

-- ---- what a rising list has before its r-th
pub before_take : (b n : ℕ) (ks : List ℕ) (r : ℕ) → r < length ks → Row b n ks → before (get_or ks r 0) ks ≡ take r ks
before_take b n [] r h w = absurd (not-suc-le-zero h)
before_take b n (k ∷ ks) zero h w = those_out (λ z. ltb z k) k ks (le-ltb k k (omega arith)) ∙ none k ks (suc k) n (omega arith) w.2
  where
    none : (k : ℕ) (ks : List ℕ) (b n : ℕ) → k ≤ b → Row b n ks → before k ks ≡ []
    none k [] b n h w = refl
    none k (j ∷ ks) b n h w = rw (those_out (λ z. ltb z k) j ks (le-ltb j k (omega arith))) (none k ks (suc j) n (omega arith) w.2)
before_take b n (k ∷ ks) (suc r) h w =
    let g : suc k ≤ get_or ks r 0 = row_get_or (suc k) n ks r (le_of_suc-le-suc h) w.2 in
    rw (those_in (λ z. ltb z (get_or ks r 0)) k ks (lt-ltb k (get_or ks r 0) g))
    (ap {B = List ℕ} (λ l. k ∷ l) (before_take (suc k) n ks r (le_of_suc-le-suc h) w.2))

-- ---- a question lacks the part at its cut
pub keep_within : (n c r : ℕ) (ks : List ℕ) → c < r → r ≤ length ks → some_of n ks ≡ true → StrictlyWithin (keep c r ks) ks
keep_within n c r ks h l e =
    let x = get_or ks c 0 in
    let g : c < length ks = omega arith in (
      every_has (has ks) (keep c r ks) (keep_has c r ks),
      (
        x,
        has_get_or ks c g,
        must_false _ (λ w.
            elim (has_append (take c ks) (above r ks) x (rw (keep_above c r ks) at w)) [
              | inl a ↦ let q = has_those (λ z. ltb z x) ks x (subst (λ (l : List ℕ). has l x ≡ true) (sym (before_take 0 n ks c g (row_from n ks e))) a) in
                  omega (arith, ltb-true x x q.1)
              | inr a ↦ omega (arith, row_has (suc x) n (above (suc c) ks) x (above_row n c ks g e) (above_above (suc c) r ks x (omega arith) a))
            ]),
      ),
    )

pub nested : Nested
unfolding Nested
nested n c p sm l h = (keep_within n c p.at.row p.held h l sm, refl, refl)

-- what is held after an answer
pub came_answered : (n : ℕ) (f : Judge) (A : List ℕ) (qs : List (List ℕ)) (c : ℕ) (p : Pass) → c < p.at.row → p.at.row ≤ length p.held
    → some_of n p.held ≡ true → Came f A qs p.held → (b : Bool) → fails f (question c p) ≡ b → Came f A (question c p ∷ qs) (answered c p b).held
came_answered n f A qs c p h l sm t true e = came_fails f A qs p.held (question c p) t (keep_within n c p.at.row p.held h l sm) e
came_answered n f A qs c p h l sm t false e = came_stands f A qs p.held (question c p) t (keep_within n c p.at.row p.held h l sm) e
