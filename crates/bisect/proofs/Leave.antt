-- Steps of the loops that test whether parts rise, and that copy all but one.
use Rattle.std.proofs.Common.{◌≡◌, ℕ, Bool, true, false, zero, suc, ◌+◌, ◌-◌, ◌≤◌, cond, inl, inr, length-drop, take_all, not, eqb, ltb, List, [], ◌∷◌, ◌++◌, length, get_or, take, drop, sym, refl, ap, ◌∙◌, not-suc-le-zero, arith}
use Rattle.std.specs.List.{IsAllAdjacentAnswer, position, position_or_len}
use Rattle.std.proofs.Math.Bool.{and-false}
use Rattle.std.proofs.lemmas.Bool.{not_from_false}
use Rattle.subset.specs.Parts.{rising, without}
use Rattle.std.proofs.lemmas.Bool.{and_parts, ltb-true, eqb-true, cases_lt, cases_Bool, lt-ltb}
use Rattle.std.proofs.lemmas.List.Quantifiers.{position-Some}
use Rattle.std.specs.Prelude.{Some, None, Option}
use Rattle.subset.proofs.Lists.{Row, without_at, those_in}

next : (x : ℕ) (ks : List ℕ) (k d : ℕ) → get_or (x ∷ ks) (suc k + 1) d ≡ get_or ks (k + 1) d
next x ks k d = ap (λ n. get_or (x ∷ ks) n d) (let e : suc k + 1 ≡ suc (k + 1) = omega arith in e)

-- what std says of each part and the next, as `rising` says it
pub rising_answer : (ks : List ℕ) (r : Bool) → IsAllAdjacentAnswer (λ x y b. b ≡ ltb x y) ks r → r ≡ rising ks
unfolding rising
rising_answer [] true h = refl
rising_answer [] false (k, l, h) = absurd (not-suc-le-zero l)
rising_answer (x ∷ []) true h = refl
rising_answer (x ∷ []) false (k, l, h) = absurd (omega (arith, l))
rising_answer (x ∷ y ∷ ys) true h =
    rw (← (h 0 0 (omega arith))) (rising_answer (y ∷ ys) true (λ k d l. rw (← (next x (y ∷ ys) k d)) (h (suc k) d (omega arith))))
rising_answer (x ∷ y ∷ ys) false (zero, l, h) = rw (← (h 0)) refl
rising_answer (x ∷ y ∷ ys) false (suc k, l, h) =
    rw (← (rising_answer (y ∷ ys) false (k, omega arith, λ d. rw (← (next x (y ∷ ys) k d)) (h d)))) (sym (and-false (ltb x y)))

-- what rises is a row
rising_row : (ks : List ℕ) → rising ks ≡ true → (n : ℕ) × Row 0 n ks
unfolding rising
rising_row [] h = (0, tt)
rising_row (k ∷ []) h = (suc k, (omega arith, omega arith, tt))
rising_row (k ∷ j ∷ ks) h =
    let (less, more) = and_parts _ _ h in
    let (n, w) = rising_row (j ∷ ks) more in
    let up = ltb-true k j less in
    (n, (omega arith, omega (arith, up, w.1), (up, w.1, w.2)))

abbrev at : ℕ → List ℕ → Option ℕ
at part ks = position (λ p. eqb p part) ks

-- without a part that stands at i, and without one that stands nowhere
pub left_at : (part : ℕ) (ks : List ℕ) (i : ℕ) → rising ks ≡ true → at part ks ≡ Some i → take i ks ++ take (length ks - (i + 1)) (drop (i + 1) ks) ≡ without part ks
left_at part ks i h e =
    let (l, found, _) = position-Some (λ p. eqb p part) ks i 0 e in
    let (n, w) = rising_row ks h in
    let rest : take (length ks - (i + 1)) (drop (i + 1) ks) ≡ drop (i + 1) ks = take_all _ _ (simp length-drop (omega arith)) in
    let next : i + 1 ≡ suc i = omega arith in
    ap (λ xs. take i ks ++ xs) rest ∙ rw (← (eqb-true _ _ found), next) (sym (without_at 0 n ks i l w))

pub left_all : (part : ℕ) (ks : List ℕ) → at part ks ≡ None → without part ks ≡ ks
left_all part ks e = go ks (full (position_or_len (λ p. eqb p part) ks) (length ks) e)
  where
    full : (i n : ℕ) → cond (ltb i n) (Some i) None ≡ None → n ≤ i
    full i n e = elim (cases_lt i n) [ inl l ↦ (let some = lt-ltb i n l in cc) | inr l ↦ l ]

    go : (ks : List ℕ) → length ks ≤ position_or_len (λ p. eqb p part) ks → without part ks ≡ ks
    go [] h = refl
    go (k ∷ ks) h = elim (cases_Bool (eqb k part)) [
      | inl e ↦ absurd (omega (arith, rw e at h))
      | inr e ↦ rw (those_in (λ j. not (eqb j part)) k ks (not_from_false _ e)) (ap (λ l. k ∷ l) (go ks (omega (arith, rw e at h))))
    ]
