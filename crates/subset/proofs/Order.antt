-- Subsets are known by their members.
use Rattle.std.proofs.Common.{◌≡◌, ℕ, suc, ◌≤◌, Bool, true, false, ltb, List, [], ◌∷◌, sym, refl, ◌∙◌, subst, ap₂, inl, inr, arith}
use Rattle.std.proofs.lemmas.Bool.{and_parts, and_from, eqb-true, eq-eqb, ltb-true, both_ways}
use Rattle.subset.specs.Parts.{same, some_of, has}
use Rattle.subset.proofs.Lists.{Row, row_from, has_cons, has_head, has_tail, has_every}

-- a Bool that is not true is false
pub must_false : (b : Bool) → (b ≡ true → ⊥) → b ≡ false
must_false true h = absurd (h refl)
must_false false h = refl

pub none_has : (x : ℕ) → has [] x ≡ true → ⊥
none_has x h = both_ways _ refl h

pub row_has : (b n : ℕ) (ks : List ℕ) (x : ℕ) → Row b n ks → has ks x ≡ true → b ≤ x
row_has b n [] x r h = absurd (none_has x h)
row_has b n (k ∷ ks) x r h = elim (has_cons k ks x h) [ inl e ↦ omega arith | inr g ↦ omega (arith, row_has (suc k) n ks x r.2 g) ]

pub same_is : (xs bs : List ℕ) → same xs bs ≡ true → xs ≡ bs
unfolding same
same_is [] [] h = refl
same_is [] (b ∷ bs) h = absurd (both_ways _ refl h)
same_is (a ∷ xs) [] h = absurd (both_ways _ refl h)
same_is (a ∷ xs) (b ∷ bs) h =
    ap₂ (λ x ys. x ∷ ys) (eqb-true a b (and_parts _ _ h).0) (same_is xs bs (and_parts _ _ h).1)

-- rising rows with the same members are the same
pub same_members : (b n : ℕ) (js ks : List ℕ) → Row b n js → Row b n ks
    → ((x : ℕ) → has js x ≡ true → has ks x ≡ true) → ((x : ℕ) → has ks x ≡ true → has js x ≡ true) → same js ks ≡ true
unfolding same
same_members b n [] [] r w f g = refl
same_members b n [] (k ∷ ks) r w f g = absurd (none_has k (g k (has_head k ks)))
same_members b n (j ∷ js) [] r w f g = absurd (none_has j (f j (has_head j js)))
same_members b n (j ∷ js) (k ∷ ks) r w f g =
    let e : j ≡ k = omega (arith, low js k j r.2 (g k (has_head k ks)), low ks j k w.2 (f j (has_head j js))) in
    and_from _ _ (eq-eqb j k e)
    (same_members (suc j) n js ks r.2 (subst (λ (x : ℕ). Row (suc x) n ks) (sym e) w.2)
    (λ x h. rest js ks j k e r.2 x h (f x (has_tail j js x h))) (λ x h. rest ks js k j (sym e) w.2 x h (g x (has_tail k ks x h))))
  where
    low : (ls : List ℕ) (x l : ℕ) → Row (suc l) n ls → has (l ∷ ls) x ≡ true → l ≤ x
    low ls x l r h = elim (has_cons l ls x h) [ inl q ↦ omega arith | inr q ↦ omega (arith, row_has (suc l) n ls x r q) ]

    rest : (ls ms : List ℕ) (l m : ℕ) → l ≡ m → Row (suc l) n ls → (x : ℕ) → has ls x ≡ true → has (m ∷ ms) x ≡ true → has ms x ≡ true
    rest ls ms l m e r x h k = elim (has_cons m ms x k) [ inl q ↦ absurd (omega (arith, row_has (suc l) n ls x r h)) | inr q ↦ q ]

pub subsets_same : (n : ℕ) (js ks : List ℕ) → some_of n js ≡ true → some_of n ks ≡ true → ((x : ℕ) → has js x ≡ has ks x) → js ≡ ks
subsets_same n js ks sj sk h =
    same_is js ks (same_members 0 n js ks (row_from n js sj) (row_from n ks sk) (λ x g. sym (h x) ∙ g) (λ x g. h x ∙ g))

pub past : (n : ℕ) (ks : List ℕ) (x : ℕ) → n ≤ x → some_of n ks ≡ true → has ks x ≡ false
past n ks x l s = must_false (has ks x) (λ h. omega (arith, ltb-true x n (has_every (λ k. ltb k n) ks x (and_parts _ _ s).1 h)))
