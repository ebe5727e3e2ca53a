-- Laws of every, any, those and rising over lists of parts.
use Rattle.std.proofs.Common.{◌≡◌, ℕ, zero, suc, ◌<◌, ◌≤◌, Bool, true, false, cond, not, eqb, ◌⊎◌, List, [], ◌∷◌, ◌++◌, length, get_or, take, drop, sym, refl, ap, ◌∙◌, inl, inr, le_of_suc-le-suc, not-suc-le-zero, arith, length-append, take-append-drop}
use Rattle.std.specs.List.{filter, list_all}
use Rattle.std.proofs.lemmas.List.Folds.{list_all-append, list_any-append}
use Rattle.std.proofs.lemmas.List.Sums.{length-filter, count_by-le-length}
use Rattle.std.proofs.lemmas.Bool.{and_parts, and_from, ltb-true, lt-ltb, eqb-true, eqb-false, eq-eqb, ne_eqb, both_ways, cases_Bool, or_cases, or_left, or_right, not-true, not_from_true, not_from_false}
use Rattle.subset.specs.Parts.{rising, some_of, without, has, within, all_parts}

-- a rising row from b up, below n
abbrev pub Row : ℕ → ℕ → List ℕ → Type 0
Row b n [] = Unit {0}
Row b n (k ∷ ks) = (b ≤ k) × (k < n) × Row (suc k) n ks

pub row_lower : (a b n : ℕ) (ks : List ℕ) → a ≤ b → Row b n ks → Row a n ks
row_lower a b n [] h r = tt
row_lower a b n (k ∷ ks) h r = (omega arith, r.1, r.2)

pub row_from : (n : ℕ) (ks : List ℕ) → some_of n ks ≡ true → Row 0 n ks
unfolding rising
row_from n [] h = tt
row_from n (k ∷ []) h = (omega arith, ltb-true k n (and_parts _ _ h).0, tt)
row_from n (k ∷ j ∷ ks) h =
    let h₁ = and_parts _ _ h in
    let h₂ = and_parts _ _ h₁.0 in
    let h₃ = and_parts _ _ h₁.1 in
    let w = row_from n (j ∷ ks) (and_from _ _ h₂.1 h₃.1) in
    (omega arith, ltb-true k n h₃.0, (ltb-true k j h₂.0, w.1, w.2))

pub row_to : (b n : ℕ) (ks : List ℕ) → Row b n ks → some_of n ks ≡ true
unfolding rising
row_to b n [] r = refl
row_to b n (k ∷ []) r = and_from _ _ (lt-ltb k n r.1) refl
row_to b n (k ∷ j ∷ ks) r =
    let w = and_parts _ _ (row_to (suc k) n (j ∷ ks) r.2) in
    and_from _ _ (and_from _ _ (lt-ltb k j r.2.0) w.0) (and_from _ _ (lt-ltb k n r.1) w.1)

pub row_those : (p : ℕ → Bool) (b n : ℕ) (ks : List ℕ) → Row b n ks → Row b n (filter p ks)
row_those p b n [] r = tt
row_those p b n (k ∷ ks) r =
    elim (p k) as (λ v. Row b n (cond v (k ∷ filter p ks) (filter p ks)))
    [ true ↦ (r.0, r.1, row_those p (suc k) n ks r.2) | false ↦ row_lower b (suc k) n (filter p ks) (omega arith) (row_those p (suc k) n ks r.2) ]

pub row_drop : (c b n : ℕ) (ks : List ℕ) → Row b n ks → Row b n (drop c ks)
row_drop zero b n ks r = r
row_drop (suc c) b n [] r = tt
row_drop (suc c) b n (k ∷ ks) r = row_lower b (suc k) n (drop c ks) (omega arith) (row_drop c (suc k) n ks r.2)

pub row_keep : (c r b n : ℕ) (ks : List ℕ) → c ≤ r → Row b n ks → Row b n (take c ks ++ drop r ks)
row_keep zero r b n ks h w = row_drop r b n ks w
row_keep (suc c) zero b n ks h w = absurd (not-suc-le-zero h)
row_keep (suc c) (suc r) b n [] h w = tt
row_keep (suc c) (suc r) b n (k ∷ ks) h w = (w.0, w.1, row_keep c r (suc k) n ks (le_of_suc-le-suc h) w.2)

pub row_push : (b n m : ℕ) (ks : List ℕ) → b ≤ n → n < m → Row b n ks → Row b m (ks ++ n ∷ [])
row_push b n m [] l h r = (l, h, tt)
row_push b n m (k ∷ ks) l h r = (r.0, omega arith, row_push (suc k) n m ks r.1 h r.2)

pub row_all : (n : ℕ) → Row 0 n (all_parts n)
unfolding all_parts
row_all zero = tt
row_all (suc n) = row_push 0 n (suc n) (all_parts n) (omega arith) (omega arith) (row_all n)

-- every
pub every_append : {A : Type 0} (p : A → Bool) (xs ys : List A) → list_all p xs ≡ true → list_all p ys ≡ true → list_all p (xs ++ ys) ≡ true
every_append p xs ys a b = list_all-append p xs ys ∙ and_from _ _ a b

pub every_cons : {A : Type 0} (p : A → Bool) (x : A) (xs : List A) → p x ≡ true → list_all p xs ≡ true → list_all p (x ∷ xs) ≡ true
every_cons p x xs a b = and_from _ _ a b

pub every_at : {A : Type 0} (p : A → Bool) (xs : List A) (i : ℕ) (d : A) → list_all p xs ≡ true → i < length xs → p (get_or xs i d) ≡ true
every_at p [] i d h l = absurd (not-suc-le-zero l)
every_at p (x ∷ xs) zero d h l = (and_parts _ _ h).0
every_at p (x ∷ xs) (suc i) d h l = every_at p xs i d (and_parts _ _ h).1 (le_of_suc-le-suc l)

pub every_from : {A : Type 0} (p : A → Bool) (xs : List A) (d : A) → ((i : ℕ) → i < length xs → p (get_or xs i d) ≡ true) → list_all p xs ≡ true
every_from p [] d h = refl
every_from p (x ∷ xs) d h = and_from _ _ (h 0 (omega arith)) (every_from p xs d (λ i l. h (suc i) (omega arith)))

-- has
pub has_those : (p : ℕ → Bool) (ks : List ℕ) (y : ℕ) → has (filter p ks) y ≡ true → (has ks y ≡ true) × (p y ≡ true)
has_those p [] y h = absurd (both_ways _ refl h)
has_those p (k ∷ ks) y h = go (has_those p ks y) (p k) refl h
  where
    go : (ih : has (filter p ks) y ≡ true → (has ks y ≡ true) × (p y ≡ true)) (b : Bool) → p k ≡ b → has (cond b (k ∷ filter p ks) (filter p ks)) y ≡ true → (has (k ∷ ks) y ≡ true) × (p y ≡ true)
    go ih true e h = elim (or_cases _ _ h) [ inl a ↦ (or_left _ _ a, rw (eqb-true y k a) e) | inr a ↦ (or_right _ _ (ih a).0, (ih a).1) ]
    go ih false e h = (or_right _ _ (ih h).0, (ih h).1)

pub those_has : (p : ℕ → Bool) (ks : List ℕ) (y : ℕ) → has ks y ≡ true → p y ≡ true → has (filter p ks) y ≡ true
those_has p [] y h e = h
those_has p (k ∷ ks) y h e = go (those_has p ks y) (p k) refl
  where
    go : (ih : has ks y ≡ true → p y ≡ true → has (filter p ks) y ≡ true) (b : Bool) → p k ≡ b → has (cond b (k ∷ filter p ks) (filter p ks)) y ≡ true
    go ih true q = elim (or_cases (eqb y k) (has ks y) h) [ inl a ↦ or_left (eqb y k) (has (filter p ks) y) a | inr a ↦ or_right (eqb y k) (has (filter p ks) y) (ih a e) ]
    go ih false q = elim (or_cases (eqb y k) (has ks y) h) [ inl a ↦ absurd (both_ways (p k) q (rw (eqb-true y k a) at e)) | inr a ↦ ih a e ]

pub has_append : (xs ys : List ℕ) (y : ℕ) → has (xs ++ ys) y ≡ true → (has xs y ≡ true) ⊎ (has ys y ≡ true)
has_append xs ys y h = or_cases (has xs y) (has ys y) (sym (list_any-append (eqb y) xs ys) ∙ h)

pub has_left : (xs ys : List ℕ) (y : ℕ) → has xs y ≡ true → has (xs ++ ys) y ≡ true
has_left xs ys y h = list_any-append (eqb y) xs ys ∙ or_left (has xs y) (has ys y) h

pub has_right : (xs ys : List ℕ) (y : ℕ) → has ys y ≡ true → has (xs ++ ys) y ≡ true
has_right xs ys y h = list_any-append (eqb y) xs ys ∙ or_right (has xs y) (has ys y) h

pub has_head : (x : ℕ) (xs : List ℕ) → has (x ∷ xs) x ≡ true
has_head x xs = or_left (eqb x x) (has xs x) (eq-eqb x x refl)

pub has_tail : (x : ℕ) (xs : List ℕ) (y : ℕ) → has xs y ≡ true → has (x ∷ xs) y ≡ true
has_tail x xs y h = or_right (eqb y x) (has xs y) h

pub has_cons : (x : ℕ) (xs : List ℕ) (y : ℕ) → has (x ∷ xs) y ≡ true → (y ≡ x) ⊎ (has xs y ≡ true)
has_cons x xs y h = elim (or_cases (eqb y x) (has xs y) h) [ inl a ↦ inl (eqb-true y x a) | inr a ↦ inr a ]

pub has_take : (c : ℕ) (ks : List ℕ) (y : ℕ) → has (take c ks) y ≡ true → has ks y ≡ true
has_take c ks y h = rw (take-append-drop c ks) at (has_left (take c ks) (drop c ks) y h)

pub has_drop : (c : ℕ) (ks : List ℕ) (y : ℕ) → has (drop c ks) y ≡ true → has ks y ≡ true
has_drop c ks y h = rw (take-append-drop c ks) at (has_right (take c ks) (drop c ks) y h)

pub has_get_or : (ks : List ℕ) (i : ℕ) → i < length ks → has ks (get_or ks i 0) ≡ true
has_get_or [] i h = absurd (not-suc-le-zero h)
has_get_or (k ∷ ks) zero h = has_head k ks
has_get_or (k ∷ ks) (suc i) h = has_tail k ks (get_or ks i 0) (has_get_or ks i (le_of_suc-le-suc h))

pub every_has : (p : ℕ → Bool) (ks : List ℕ) → ((y : ℕ) → has ks y ≡ true → p y ≡ true) → list_all p ks ≡ true
every_has p [] h = refl
every_has p (k ∷ ks) h = and_from _ _ (h k (has_head k ks)) (every_has p ks (λ y e. h y (has_tail k ks y e)))

pub has_every : (p : ℕ → Bool) (ks : List ℕ) (y : ℕ) → list_all p ks ≡ true → has ks y ≡ true → p y ≡ true
has_every p [] y e h = absurd (both_ways _ refl h)
has_every p (k ∷ ks) y e h =
    elim (has_cons k ks y h) [ inl a ↦ rw a (and_parts _ _ e).0 | inr a ↦ has_every p ks y (and_parts _ _ e).1 a ]

-- leaving one out
pub has_without : (x : ℕ) (ks : List ℕ) (y : ℕ) → has (without x ks) y ≡ true → (has ks y ≡ true) × (eqb y x ≡ false)
has_without x ks y h = let w = has_those (λ j. not (eqb j x)) ks y h in (w.0, not-true (eqb y x) w.1)

pub without_has : (x : ℕ) (ks : List ℕ) (y : ℕ) → has ks y ≡ true → eqb y x ≡ false → has (without x ks) y ≡ true
without_has x ks y h e = those_has (λ j. not (eqb j x)) ks y h (not_from_false (eqb y x) e)

pub without_within : (x : ℕ) (ks js : List ℕ) → ((y : ℕ) → has ks y ≡ true → has js y ≡ true) → within (without x ks) (without x js) ≡ true
without_within x ks js h =
    every_has (has (without x js)) (without x ks) (λ y e. let w = has_without x ks y e in without_has x js y (h y w.0) w.1)

pub without_some : (x n : ℕ) (ks : List ℕ) → some_of n ks ≡ true → some_of n (without x ks) ≡ true
without_some x n ks h = row_to 0 n (without x ks) (row_those (λ j. not (eqb j x)) 0 n ks (row_from n ks h))

-- those p (k ∷ ks), by what p says of k
pub those_in : {A : Type 0} (p : A → Bool) (k : A) (ks : List A) → p k ≡ true → filter p (k ∷ ks) ≡ k ∷ filter p ks
those_in p k ks e = rw e

pub those_out : {A : Type 0} (p : A → Bool) (k : A) (ks : List A) → p k ≡ false → filter p (k ∷ ks) ≡ filter p ks
those_out p k ks e = rw e

pub length_those : (p : ℕ → Bool) (ks : List ℕ) → length (filter p ks) ≤ length ks
length_those p ks = omega (arith, length-filter p ks, count_by-le-length p ks)

pub length_without : (x : ℕ) (ks : List ℕ) → has ks x ≡ true → length (without x ks) < length ks
length_without x [] h = absurd (both_ways _ refl h)
length_without x (k ∷ ks) h =
    elim (cases_Bool (eqb k x)) [
      | inl e ↦ rw (those_out (λ j. not (eqb j x)) k ks (not_from_true _ e)) (omega (arith, length_those (λ j. not (eqb j x)) ks))
      | inr e ↦ rw (those_in (λ j. not (eqb j x)) k ks (not_from_false _ e))
          (elim (has_cons k ks x h) [ inl a ↦ absurd (eqb-false k x e (sym a)) | inr a ↦ omega (arith, length_without x ks a) ])
    ]

pub row_without : (x b n : ℕ) (ks : List ℕ) → x < b → Row b n ks → without x ks ≡ ks
row_without x b n [] h r = refl
row_without x b n (k ∷ ks) h r =
    rw (those_in (λ j. not (eqb j x)) k ks (not_from_false _ (ne_eqb k x (λ e. omega arith)))) (ap {B = List ℕ} (λ l. k ∷ l) (row_without x (suc k) n ks (omega arith) r.2))

pub row_get_or : (b n : ℕ) (ks : List ℕ) (i : ℕ) → i < length ks → Row b n ks → b ≤ get_or ks i 0
row_get_or b n [] i h r = absurd (not-suc-le-zero h)
row_get_or b n (k ∷ ks) zero h r = r.0
row_get_or b n (k ∷ ks) (suc i) h r = omega (arith, row_get_or (suc k) n ks i (le_of_suc-le-suc h) r.2)

pub without_at : (b n : ℕ) (ks : List ℕ) (i : ℕ) → i < length ks → Row b n ks → without (get_or ks i 0) ks ≡ take i ks ++ drop (suc i) ks
without_at b n [] i h r = absurd (not-suc-le-zero h)
without_at b n (k ∷ ks) zero h r =
    rw (those_out (λ j. not (eqb j k)) k ks (not_from_true _ (eq-eqb k k refl))) (row_without k (suc k) n ks (omega arith) r.2)
without_at b n (k ∷ ks) (suc i) h r =
    rw (those_in (λ j. not (eqb j (get_or ks i 0))) k ks (not_from_false _ (ne_eqb k (get_or ks i 0) (λ e. omega (arith, row_get_or (suc k) n ks i (le_of_suc-le-suc h) r.2)))))
    (ap {B = List ℕ} (λ l. k ∷ l) (without_at (suc k) n ks i (le_of_suc-le-suc h) r.2))

pub length_all : (n : ℕ) → length (all_parts n) ≡ n
unfolding all_parts
length_all zero = refl
length_all (suc n) = simp (length-append, length_all n) (omega arith)

pub row_wider : (b n m : ℕ) (ks : List ℕ) → n ≤ m → Row b n ks → Row b m ks
row_wider b n m [] h r = tt
row_wider b n m (k ∷ ks) h r = (r.0, omega arith, row_wider (suc k) n m ks h r.2)
