-- What each change of a subset does to the test of a part, and that it leaves a subset.
use Rattle.std.proofs.Common.{◌≡◌, ℕ, zero, suc, ◌<◌, ◌≤◌, Bool, true, false, not, ◌&&◌, ◌||◌, eqb, ltb, leb, ◌⊎◌, List, [], ◌∷◌, ◌++◌, length, take, drop, sym, refl, ap, ◌∙◌, ap₂, inl, inr, arith}
use Rattle.std.specs.List.{filter}
use mathlib.Core.Bool.{and-true, and-false}
use lib.Dec.{leb-suc-suc}
use Rattle.std.proofs.lemmas.Bool.{ltb-true, lt-ltb, le-ltb, le-leb, lt-leb, eq-eqb, ne_eqb, cases_Bool, cases_order, both_ways, and_parts, and_from}
use Rattle.std.proofs.lemmas.List.Folds.{list_any-append}
use Rattle.subset.specs.Parts.{all_parts, some_of, without, has}
use Rattle.subset.specs.Row.{with_part, cut_out, joined, rank}
use Rattle.subset.proofs.Lists.{Row, row_lower, row_from, row_to, row_those, row_keep, row_all, row_wider, has_those, those_has, those_in, those_out}
use Rattle.subset.proofs.Order.{row_has}

pub bool_ext : (a b : Bool) → (a ≡ true → b ≡ true) → (b ≡ true → a ≡ true) → a ≡ b
bool_ext true b f g = sym (f refl)
bool_ext false true f g = g refl
bool_ext false false f g = refl

pub has_cons : (x : ℕ) (xs : List ℕ) (q : ℕ) → has (x ∷ xs) q ≡ (eqb q x || has xs q)
has_cons x xs q = refl

pub has_none : (q : ℕ) → has [] q ≡ false
has_none q = refl

pub has_filtered : (f : ℕ → Bool) (ks : List ℕ) (q : ℕ) → has (filter f ks) q ≡ (has ks q && f q)
has_filtered f ks q =
    bool_ext (has (filter f ks) q) (has ks q && f q) (λ h. let w = has_those f ks q h in and_from _ _ w.0 w.1)
    (λ h. let w = and_parts (has ks q) (f q) h in those_has f ks q w.0 w.1)

pub has_all : (n q : ℕ) → has (all_parts n) q ≡ ltb q n
unfolding all_parts
has_all zero q = has_none q ∙ sym (le-ltb q 0 (omega arith))
has_all (suc n) q =
    list_any-append (eqb q) (all_parts n) (n ∷ []) ∙ ap₂ ◌||◌ (has_all n q) (has_cons n [] q ∙ ap (λ b. eqb q n || b) (has_none q)) ∙ go (cases_order q n)
  where
    go : (q ≡ n) ⊎ ((q < n) ⊎ (n < q)) → (ltb q n || (eqb q n || false)) ≡ ltb q (suc n)
    go (inl e) = rw (le-ltb q n (omega arith), eq-eqb q n e, lt-ltb q (suc n) (omega arith))
    go (inr (inl l)) = rw (lt-ltb q n l, lt-ltb q (suc n) (omega arith))
    go (inr (inr l)) = rw (le-ltb q n (omega arith), ne_eqb q n (omega arith), le-ltb q (suc n) (omega arith))

-- the parts below n that pass f
abbrev pub upto : (ℕ → Bool) → ℕ → List ℕ
upto f n = filter f (all_parts n)

pub has_upto : (f : ℕ → Bool) (n q : ℕ) → has (upto f n) q ≡ (ltb q n && f q)
has_upto f n q = has_filtered f (all_parts n) q ∙ ap (λ b. b && f q) (has_all n q)

pub has_joined : (n q : ℕ) (ks js : List ℕ) → has (joined n ks js) q ≡ (ltb q n && (has ks q || has js q))
has_joined n q ks js = has_upto (λ p. has ks p || has js p) n q

pub has_without : (p q : ℕ) (ks : List ℕ) → has (without p ks) q ≡ (has ks q && not (eqb q p))
has_without p q ks = has_filtered (λ j. not (eqb j p)) ks q

pub has_with : (p q : ℕ) (ks : List ℕ) → has (with_part p ks) q ≡ (eqb q p || has ks q)
has_with p q ks =
    list_any-append (eqb q) (filter (λ j. ltb j p) ks) (p ∷ filter (λ j. ltb p j) ks)
    ∙ ap₂ ◌||◌ (has_filtered (λ j. ltb j p) ks q) (has_cons p (filter (λ j. ltb p j) ks) q ∙ ap (λ b. eqb q p || b) (has_filtered (λ j. ltb p j) ks q))
    ∙ go (has ks q) (cases_order q p)
  where
    go : (h : Bool) → (q ≡ p) ⊎ ((q < p) ⊎ (p < q)) → ((h && ltb q p) || (eqb q p || (h && ltb p q))) ≡ (eqb q p || h)
    go true (inl e) = rw (le-ltb q p (omega arith), eq-eqb q p e)
    go false (inl e) = rw (eq-eqb q p e)
    go true (inr (inl l)) = rw (lt-ltb q p l, ne_eqb q p (omega arith))
    go true (inr (inr l)) = rw (le-ltb q p (omega arith), ne_eqb q p (omega arith), lt-ltb p q l)
    go false (inr (inl l)) = rw (ne_eqb q p (omega arith))
    go false (inr (inr l)) = rw (ne_eqb q p (omega arith))

-- ---- by rank
row_not : (b n : ℕ) (ks : List ℕ) (q : ℕ) → q < b → Row b n ks → has ks q ≡ false
row_not b n ks q l r = bool_ext (has ks q) false (λ h. absurd (omega (arith, row_has b n ks q r h))) (λ h. absurd (both_ways _ refl h))

none_below : (b n : ℕ) (ks : List ℕ) (q : ℕ) → q ≤ b → Row b n ks → rank ks q ≡ 0
none_below b n [] q l r = refl
none_below b n (k ∷ ks) q l r =
    ap length (those_out (λ j. ltb j q) k ks (le-ltb k q (omega arith))) ∙ none_below (suc k) n ks q (omega arith) r.2

rank_past : (k : ℕ) (ks : List ℕ) (q : ℕ) → k < q → rank (k ∷ ks) q ≡ suc (rank ks q)
rank_past k ks q l = ap length (those_in (λ j. ltb j q) k ks (lt-ltb k q l))

rank_first : (b n k : ℕ) (ks : List ℕ) (q : ℕ) → q ≤ k → Row b n (k ∷ ks) → rank (k ∷ ks) q ≡ 0
rank_first b n k ks q l r = none_below k n (k ∷ ks) q l (omega arith, r.1, r.2)

pub has_take : (b n k q : ℕ) (ks : List ℕ) → Row b n ks → has (take k ks) q ≡ (has ks q && ltb (rank ks q) k)
has_take b n zero q ks r = has_none q ∙ sym (ap (λ t. has ks q && t) (le-ltb (rank ks q) 0 (omega arith)) ∙ and-false (has ks q))
has_take b n (suc k) q [] r = has_none q ∙ sym (ap (λ t. t && ltb (rank [] q) (suc k)) (has_none q))
has_take b n (suc k) q (x ∷ ks) r =
    has_cons x (take k ks) q ∙ go (cases_order q x) (has_take (suc x) n k q ks r.2) ∙ sym (ap (λ t. t && ltb (rank (x ∷ ks) q) (suc k)) (has_cons x ks q))
  where
    go : (q ≡ x) ⊎ ((q < x) ⊎ (x < q)) → has (take k ks) q ≡ (has ks q && ltb (rank ks q) k)
        → (eqb q x || has (take k ks) q) ≡ ((eqb q x || has ks q) && ltb (rank (x ∷ ks) q) (suc k))
    go (inl e) ih = rw (eq-eqb q x e, rank_first b n x ks q (omega arith) r, lt-ltb 0 (suc k) (omega arith))
    go (inr (inl l)) ih = rw (ne_eqb q x (omega arith), ih, row_not (suc x) n ks q (omega arith) r.2)
    go (inr (inr l)) ih = rw (ne_eqb q x (omega arith), ih, rank_past x ks q l) (ap (λ t. has ks q && t) (sym (leb-suc-suc (suc (rank ks q)) k)))

pub has_drop : (b n k q : ℕ) (ks : List ℕ) → Row b n ks → has (drop k ks) q ≡ (has ks q && leb k (rank ks q))
has_drop b n zero q ks r = sym (ap (λ t. has ks q && t) (le-leb 0 (rank ks q) (omega arith)) ∙ and-true (has ks q))
has_drop b n (suc k) q [] r = has_none q ∙ sym (ap (λ t. t && leb (suc k) (rank [] q)) (has_none q))
has_drop b n (suc k) q (x ∷ ks) r =
    go (cases_order q x) (has_drop (suc x) n k q ks r.2) ∙ sym (ap (λ t. t && leb (suc k) (rank (x ∷ ks) q)) (has_cons x ks q))
  where
    go : (q ≡ x) ⊎ ((q < x) ⊎ (x < q)) → has (drop k ks) q ≡ (has ks q && leb k (rank ks q))
        → has (drop k ks) q ≡ ((eqb q x || has ks q) && leb (suc k) (rank (x ∷ ks) q))
    go (inl e) ih = rw (ih, row_not (suc x) n ks q (omega arith) r.2, eq-eqb q x e, rank_first b n x ks q (omega arith) r, lt-leb (suc k) 0 (omega arith))
    go (inr (inl l)) ih = rw (ih, row_not (suc x) n ks q (omega arith) r.2, ne_eqb q x (omega arith))
    go (inr (inr l)) ih = rw (ih, ne_eqb q x (omega arith), rank_past x ks q l) (ap (λ t. has ks q && t) (sym (leb-suc-suc k (rank ks q))))

pub has_cut : (n a b q : ℕ) (ks : List ℕ) → some_of n ks ≡ true → has (cut_out a b ks) q ≡ (has ks q && (ltb (rank ks q) a || leb b (rank ks q)))
has_cut n a b q ks s =
    list_any-append (eqb q) (take a ks) (drop b ks) ∙ ap₂ ◌||◌ (has_take 0 n a q ks (row_from n ks s)) (has_drop 0 n b q ks (row_from n ks s)) ∙ go (has ks q)
  where
    go : (h : Bool) → ((h && ltb (rank ks q) a) || (h && leb b (rank ks q))) ≡ (h && (ltb (rank ks q) a || leb b (rank ks q)))
    go true = refl
    go false = refl

-- ---- subsets
row_below : (b n p : ℕ) (ks : List ℕ) → Row b n ks → Row b p (filter (λ j. ltb j p) ks)
row_below b n p [] r = tt
row_below b n p (k ∷ ks) r =
    elim (cases_Bool (ltb k p)) [
      | inl e ↦ rw (those_in (λ j. ltb j p) k ks e) (r.0, ltb-true k p e, row_below (suc k) n p ks r.2)
      | inr e ↦ rw (those_out (λ j. ltb j p) k ks e) (row_lower b (suc k) p (filter (λ j. ltb j p) ks) (omega arith) (row_below (suc k) n p ks r.2))
    ]

row_above : (b n p : ℕ) (ks : List ℕ) → Row b n ks → Row (suc p) n (filter (λ j. ltb p j) ks)
row_above b n p [] r = tt
row_above b n p (k ∷ ks) r =
    elim (cases_Bool (ltb p k)) [
      | inl e ↦ rw (those_in (λ j. ltb p j) k ks e) (ltb-true p k e, r.1, row_those (λ j. ltb p j) (suc k) n ks r.2)
      | inr e ↦ rw (those_out (λ j. ltb p j) k ks e) (row_above (suc k) n p ks r.2)
    ]

row_splice : (b p n : ℕ) (xs ys : List ℕ) → b ≤ p → p < n → Row b p xs → Row (suc p) n ys → Row b n (xs ++ p ∷ ys)
row_splice b p n [] ys l h r s = (l, h, s)
row_splice b p n (x ∷ xs) ys l h r s = (r.0, omega (arith, r.1), row_splice (suc x) p n xs ys r.1 h r.2 s)

pub some_of_with : (n p : ℕ) (ks : List ℕ) → p < n → some_of n ks ≡ true → some_of n (with_part p ks) ≡ true
some_of_with n p ks h s =
    let r = row_from n ks s in
    row_to 0 n (with_part p ks)
    (row_splice 0 p n (filter (λ j. ltb j p) ks) (filter (λ j. ltb p j) ks) (omega arith) h (row_below 0 n p ks r) (row_above 0 n p ks r))

pub some_of_cut : (n a b : ℕ) (ks : List ℕ) → a ≤ b → some_of n ks ≡ true → some_of n (cut_out a b ks) ≡ true
some_of_cut n a b ks h s = row_to 0 n (cut_out a b ks) (row_keep a b 0 n ks h (row_from n ks s))

pub some_of_those : (n : ℕ) (f : ℕ → Bool) (ks : List ℕ) → some_of n ks ≡ true → some_of n (filter f ks) ≡ true
some_of_those n f ks s = row_to 0 n (filter f ks) (row_those f 0 n ks (row_from n ks s))

pub some_of_all : (n m : ℕ) → n ≤ m → some_of m (all_parts n) ≡ true
some_of_all n m h = row_to 0 m (all_parts n) (row_wider 0 n m (all_parts n) h (row_all n))

pub some_of_upto : (f : ℕ → Bool) (n m : ℕ) → n ≤ m → some_of m (upto f n) ≡ true
some_of_upto f n m h = some_of_those m f (all_parts n) (some_of_all n m h)
