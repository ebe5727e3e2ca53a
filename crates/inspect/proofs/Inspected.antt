-- What the steps of an inspection rest on.
use Rattle.std.proofs.Common.{◌≡◌, ℕ, suc, ◌+◌, ◌<◌, ◌≤◌, Bool, true, leb, List, [], ◌∷◌, length, take, Some, Option, sym, ap, ◌∙◌, subst, inl, inr, arith}
use Rattle.std.proofs.lemmas.Bool.{and_parts, le-leb, lt-ltb, le-ltb, cases_eq, cases_lt}
use Rattle.subset.specs.Parts.{all_parts, some_of, rising, has}
use Rattle.subset.specs.Row.{members}
use Rattle.subset.specs.Says.{After, Told, room}
use Rattle.subset.proofs.Lists.{Row, row_from, has_head, has_tail, length_all}
use Rattle.subset.proofs.Order.{past, subsets_same}
use Rattle.subset.proofs.Changes.{has_all, some_of_all}
use Rattle.judges.proofs.Shown.{told}

-- a subset has no more parts than there are
row_length : (b n : ℕ) (ks : List ℕ) → b ≤ n → Row b n ks → b + length ks ≤ n
row_length b n [] h r = omega arith
row_length b n (k ∷ ks) h r = omega (arith, row_length (suc k) n ks r.1 r.2)

pub subset_length : (n : ℕ) (ks : List ℕ) → some_of n ks ≡ true → (rising ks ≡ true) × (length ks ≤ n)
subset_length n ks s = ((and_parts _ _ s).0, omega (arith, row_length 0 n ks (omega arith) (row_from n ks s)))

-- all parts, by a row of words that was filled with them
pub told_all : (n : ℕ) (ws₀ ws row : List ℕ) (r : Option ℕ) (row₁ : List ℕ) → n ≤ 4096 → 4096 ≤ length row → length ws ≤ 64
    → After (leb n 4096) ws₀ (all_parts n) ws → Told (room ws row) (members ws) row r row₁
    → (r ≡ Some n) × (take n row₁ ≡ all_parts n) × (n ≤ length row₁)
told_all n ws₀ ws row r row₁ few long short after t =
    let holds = subst (λ (x : Bool). After x ws₀ (all_parts n) ws) (le-leb n 4096 few) after in
    let are : members ws ≡ all_parts n = holds.left in
    let many : length (members ws) ≡ n = ap length are ∙ length_all n in
    let (e, o, l) = told ws row r row₁ short (omega arith) t in
    (e ∙ ap Some many, ap (λ k. take k row₁) (sym many) ∙ o ∙ are, omega arith)

-- a subset of n parts that has n has all
full_has : (b n : ℕ) (ks : List ℕ) (x : ℕ) → Row b n ks → b ≤ n → n ≤ b + length ks → b ≤ x → x < n → has ks x ≡ true
full_has b n [] x r h g l m = absurd (omega arith)
full_has b n (k ∷ ks) x r h g l m =
    let e : k ≡ b = omega (arith, row_length (suc k) n ks r.1 r.2) in
    elim (cases_eq x k) [
      | inl q ↦ subst (λ (y : ℕ). has (k ∷ ks) y ≡ true) (sym q) (has_head k ks)
      | inr q ↦ has_tail k ks x (full_has (suc k) n ks x r.2 r.1 (omega arith) (omega arith) m)
    ]

pub subset_all : (n : ℕ) (ks : List ℕ) → some_of n ks ≡ true → length ks ≡ n → ks ≡ all_parts n
subset_all n ks s e =
    subsets_same n ks (all_parts n) s (some_of_all n n (omega arith)) (λ x. elim (cases_lt x n) [
      | inl l ↦ full_has 0 n ks x (row_from n ks s) (omega arith) (omega arith) (omega arith) l ∙ sym (has_all n x ∙ lt-ltb x n l)
      | inr l ↦ past n ks x l s ∙ sym (has_all n x ∙ le-ltb x n l)
    ])
