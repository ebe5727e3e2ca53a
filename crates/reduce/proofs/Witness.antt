-- What the machine has asked, whatever its cuts are: what it holds lies within all that failed and was asked of, and each part that it tried was shown needed.
use Rattle.std.proofs.Common.{◌≡◌, ℕ, suc, ◌<◌, ◌≤◌, Bool, true, false, ltb, List, [], ◌∷◌, length, get_or, take, sym, refl, ap, subst, ◌∙◌, inl, inr, arith, take_all, take-suc}
use Rattle.std.proofs.lemmas.Bool.{ltb-false, eqb-false, cond_both}
use Rattle.subset.specs.Parts.{some_of, without, has}
use Rattle.subset.proofs.Lists.{has_append, has_cons, has_get_or, has_without, every_has, without_some}
use Rattle.subset.proofs.Order.{none_has, must_false}
use Rattle.bisect.specs.Judge.{Judge, fails}
use Rattle.bisect.specs.Pass.{StrictlyWithin}
use Rattle.bisect.specs.Search.{Pass, fresh, question, answered}
use Rattle.bisect.proofs.Keep.{above, above_all}
use Rattle.bisect.proofs.Nest.{asked_new, Came, came_fails, came_stands, came_answered}
use Rattle.bisect.proofs.Trace.{Stood, stood_more, Traced, traced_fresh, traced_answered}
use Rattle.reduce.specs.State.{State, idle, first, seek, try, over, calm, many, less, trial, go_on, next_by}
use Rattle.reduce.proofs.Stays.{Stays}

less_within : (i : ℕ) (ks : List ℕ) → i < length ks → StrictlyWithin (less i ks) ks
less_within i ks h =
    let x = get_or ks i 0 in (
      every_has (has ks) (less i ks) (λ y g. (has_without x ks y g).0),
      (x, has_get_or ks i h, must_false _ (λ g. eqb-false x x (has_without x ks x g).1 refl)),
    )

-- each of these parts was left out of ks, and that did not fail
abbrev Shown : Judge → List (List ℕ) → (ks js : List ℕ) → Type 0
Shown f qs ks js = (x : ℕ) → has js x ≡ true → Stood f qs (without x ks)

abbrev pub Seen : (n : ℕ) (f : Judge) (A : List ℕ) (qs : List (List ℕ)) → State → Type 0
Seen n f A qs idle = ⊥
Seen n f A qs (first ks) = ⊥
Seen n f A qs (seek p) = Came f A qs p.held × ((F : List ℕ) × (some_of n F ≡ true) × Traced f F qs p)
Seen n f A qs (try i ks) = Came f A qs ks × Shown f qs ks (take i ks)
Seen n f A qs (over ks) = Came f A qs ks × Shown f qs ks ks
Seen n f A qs calm = ⊥
Seen n f A qs many = ⊥

module _ (n : ℕ) (f : Judge) (A : List ℕ) (qs : List (List ℕ)) where
  seen_trial : (i : ℕ) (ks : List ℕ) → Came f A qs ks → Shown f qs ks (take i ks) → Seen n f A qs (trial i ks)
  unfolding trial
  seen_trial i ks t h =
      cond_both (ltb i (length ks)) (try i ks) (over ks) (Seen n f A qs) (λ e. (t, h)) (λ e. (t, λ x g. h x (rw (take_all i ks (ltb-false _ _ e)) g)))

  seen_go : (p : Pass) → Came f A qs p.held → (F : List ℕ) → some_of n F ≡ true → Traced f F qs p → Seen n f A qs (go_on p)
  unfolding go_on
  seen_go p t F sm w =
      cond_both (ltb 0 p.at.row) (seek p) (trial p.at.sure p.held) (Seen n f A qs) (λ e. (t, (F, sm, w))) (λ e.
      let e₁ : p.at.row ≡ 0 = omega (arith, ltb-false _ _ e) in
      let e₂ : above p.at.row p.held ≡ p.held = ap (λ (x : ℕ). above x p.held) e₁ ∙ above_all p.held in
      seen_trial p.at.sure p.held t (λ x g. w.trusted x (rw e₂ g)))

  pub seen_fresh : (ks : List ℕ) → some_of n ks ≡ true → Came f A qs ks → Seen n f A qs (go_on (fresh ks))
  seen_fresh ks sm t = seen_go (fresh ks) t ks sm (traced_fresh n f ks sm qs)

-- after an answer
module _ (n : ℕ) (f : Judge) (A : List ℕ) (qs : List (List ℕ)) (k : ℕ) (cuts : Pass → ℕ) where
  pub seen_seek : (p : Pass) → p.at.lo ≤ cuts p → cuts p < p.at.row → Stays n f k (seek p) → Seen n f A qs (seek p)
      → (b : Bool) → fails f (question (cuts p) p) ≡ b → Seen n f A (question (cuts p) p ∷ qs) (next_by cuts (seek p) b)
  unfolding next_by
  seen_seek p low high (l, w, z) (t, (F, sm, u)) b e =
      let c = cuts p in
      seen_go n f A (question c p ∷ qs) (answered c p b) (came_answered n f A qs c p high w.sized.high w.some t b e) F sm
      (traced_answered n f F sm qs c p low high w u b e).1

  pub seen_try : (i : ℕ) (ks : List ℕ) → Stays n f k (try i ks) → Seen n f A qs (try i ks)
      → (b : Bool) → fails f (less i ks) ≡ b → Seen n f A (less i ks ∷ qs) (next_by cuts (try i ks) b)
  unfolding next_by
  seen_try i ks (l, w, z) (t, u) true e =
      seen_fresh n f A (less i ks ∷ qs) (less i ks) (without_some (get_or ks i 0) n ks w.some) (came_fails f A qs ks (less i ks) t (less_within i ks l) e)
  seen_try i ks (l, w, z) (t, u) false e =
      let x = get_or ks i 0 in
      let Q = less i ks in
      seen_trial n f A (Q ∷ qs) (suc i) ks (came_stands f A qs ks Q t (less_within i ks l) e)
      (λ y h. elim (has_append (take i ks) (x ∷ []) y (rw (take-suc ks i 0 l) at h)) [
        | inl a ↦ stood_more f Q qs _ (u y a)
        | inr a ↦ elim (has_cons x [] y a) [ inl q ↦ subst (λ (z : ℕ). Stood f (Q ∷ qs) (without z ks)) (sym q) (asked_new Q qs, e) | inr q ↦ absurd (none_has y q) ]
      ])
