-- The lowest set bit of a word, and what is left without it.
use Rattle.std.proofs.Common.{◌≡◌, ℕ, zero, suc, ◌+◌, ◌-◌, ◌/◌, ◌%◌, ◌^◌, ◌<◌, ◌≤◌, Bool, true, false, not, ◌&&◌, ◌||◌, eqb, ◌⊎◌, List, [], ◌∷◌, ◌++◌, length, take, drop, set, sym, refl, ap, ◌∙◌, subst, ap₂, inl, inr, append_assoc, add-one, arith, length-drop, drop-drop, take-suc-set, take_at, drop-set-lt}
use mathlib.Core.Bool.{and-true, and-false}
use lib.Dec.{eqb-suc-suc, eqb-suc-zero}
use lib.Bits.{bit_and}
use lib.Count.{count_trailing_zeros, under}
use lib.Seq.{drop-append-add}
use borrow.Author.Numbers.{trailing_lt}
use Rattle.std.proofs.lemmas.Bool.{eq-eqb, ne_eqb, cases_lt, cases_eq, cases_order, both_ways}
use Rattle.subset.specs.Parts.{some_of, has}
use Rattle.subset.specs.Row.{digit, bit, members}
use Rattle.subset.specs.Says.{laid}
use Rattle.subset.proofs.Lists.{Row, row_from, row_to, has_head}
use Rattle.subset.proofs.Order.{subsets_same}
use Rattle.subset.proofs.Changes.{has_cons, has_none}
use Rattle.subset.proofs.Digits.{digit_zero, digit_suc, digit_none, digit_and}
use Rattle.subset.proofs.Words.{has_members, some_of_members, bit_past}
use Rattle.subset.proofs.Blocks.{bit_one}

-- bit t of w is the lowest that is set, and `w & (w - 1)` clears it
pub record Lowest (w t : ℕ) : Type 0 where
  pub on : digit w t ≡ true
  pub off : (b : ℕ) → b < t → digit w b ≡ false
  pub less : (b : ℕ) → (digit w b && digit (w - 1) b) ≡ (digit w b && not (eqb b t))

and_same : (b : Bool) → (b && b) ≡ (b && true)
and_same true = refl
and_same false = refl

low_odd : (w : ℕ) → w % 2 ≡ 1 → Lowest w 0
low_odd w e =
    record {
      on = digit_zero w ∙ ap (λ x. eqb x 1) e;
      off = λ b l. absurd (omega arith);
      less = go;
    }
  where
    go : (b : ℕ) → (digit w b && digit (w - 1) b) ≡ (digit w b && not (eqb b 0))
    go zero = ap (λ x. digit w 0 && x) (digit_zero (w - 1) ∙ ap (λ x. eqb x 1) (let z : (w - 1) % 2 ≡ 0 = omega arith in z))
    go (suc b) =
        ap (λ x. digit w (suc b) && x)
        (digit_suc (w - 1) b ∙ ap (λ x. digit x b) (let z : (w - 1) / 2 ≡ w / 2 = omega arith in z) ∙ sym (digit_suc w b))
        ∙ and_same (digit w (suc b)) ∙ ap (λ x. digit w (suc b) && not x) (sym (eqb-suc-zero b))

low_even : (w t : ℕ) → 0 < w → w % 2 ≡ 0 → Lowest (w / 2) t → Lowest w (suc t)
low_even w t pos e h = record { on = digit_suc w t ∙ h.on; off = down; less = go }
  where
    even : digit w 0 ≡ false
    even = digit_zero w ∙ ap (λ x. eqb x 1) e

    down : (b : ℕ) → b < suc t → digit w b ≡ false
    down zero l = even
    down (suc b) l = digit_suc w b ∙ h.off b (omega arith)

    go : (b : ℕ) → (digit w b && digit (w - 1) b) ≡ (digit w b && not (eqb b (suc t)))
    go zero = ap (λ x. x && digit (w - 1) 0) even ∙ sym (ap (λ x. x && not (eqb 0 (suc t))) even)
    go (suc b) =
        ap₂ ◌&&◌ (digit_suc w b) (digit_suc (w - 1) b ∙ ap (λ x. digit x b) (let z : (w - 1) / 2 ≡ w / 2 - 1 = omega arith in z))
        ∙ h.less b ∙ ap₂ (λ x y. x && not y) (sym (digit_suc w b)) (sym (eqb-suc-suc b t))

pub lowest : (k w : ℕ) → 0 < w → w < 2 ^ k → Lowest w (count_trailing_zeros k w)
unfolding count_trailing_zeros
lowest zero w pos h = absurd (omega arith)
lowest (suc k) w pos h = go (cases_eq (w % 2) 0) (λ p. lowest k (w / 2) p (omega arith))
  where
    go : (w % 2 ≡ 0) ⊎ (w % 2 ≡ 0 → ⊥) → (0 < w / 2 → Lowest (w / 2) (count_trailing_zeros k (w / 2))) → Lowest w (under (w % 2) (count_trailing_zeros k (w / 2)))
    go (inl e) ih = subst (λ d. Lowest w (under d (count_trailing_zeros k (w / 2)))) (sym e) (low_even w (count_trailing_zeros k (w / 2)) pos e (ih (omega arith)))
    go (inr d) ih = let e : w % 2 ≡ 1 = omega arith in subst (λ d. Lowest w (under d (count_trailing_zeros k (w / 2)))) (sym e) (low_odd w e)

-- ---- the members of one word
pub has_word : (w b : ℕ) → b < 64 → has (members (w ∷ [])) b ≡ digit w b
has_word w b l = has_members (w ∷ []) b ∙ bit_one w b l

-- a rising list whose members are all at least b
row_raised : (a b n : ℕ) (ks : List ℕ) → Row a n ks → ((x : ℕ) → has ks x ≡ true → b ≤ x) → Row b n ks
row_raised a b n [] r h = tt
row_raised a b n (k ∷ ks) r h = (h k (has_head k ks), r.1, r.2)

module _ (w : ℕ) (pos : 0 < w) (small : w < 2 ^ 64) where
  abbrev t : ℕ
  t = count_trailing_zeros 64 w

  abbrev rest : ℕ
  rest = bit_and w (w - 1)

  low : Lowest w t
  low = lowest 64 w pos small

  lt : t < 64
  lt = trailing_lt 64 w pos small

  rest_bit : (q : ℕ) → q < 64 → has (members (rest ∷ [])) q ≡ (digit w q && not (eqb q t))
  rest_bit q l = has_word rest q l ∙ digit_and w (w - 1) q ∙ low.less q

  above : (q : ℕ) → has (members (rest ∷ [])) q ≡ true → suc t ≤ q
  above q h = go (cases_lt q 64)
    where
      go : (q < 64) ⊎ (64 ≤ q) → suc t ≤ q
      go (inr l) = omega (arith, lt)
      go (inl l) = pick (cases_order q t)
        where
          pick : (q ≡ t) ⊎ ((q < t) ⊎ (t < q)) → suc t ≤ q
          pick (inl e) = absurd (both_ways _ (rest_bit q l ∙ ap (λ b. digit w q && not b) (eq-eqb q t e) ∙ and-false (digit w q)) h)
          pick (inr (inl m)) = absurd (both_ways _ (rest_bit q l ∙ ap (λ b. b && not (eqb q t)) (low.off q m)) h)
          pick (inr (inr m)) = m

  some_first : some_of 64 (t ∷ members (rest ∷ [])) ≡ true
  some_first =
      row_to 0 64 (t ∷ members (rest ∷ []))
      (omega arith, lt, row_raised 0 (suc t) 64 (members (rest ∷ [])) (row_from 64 (members (rest ∷ [])) (some_of_members (rest ∷ []) 1 refl)) above)

  -- the lowest member, and then those of what is left
  pub lowest_first : members (w ∷ []) ≡ t ∷ members (rest ∷ [])
  lowest_first =
      subsets_same 64 (members (w ∷ [])) (t ∷ members (rest ∷ [])) (some_of_members (w ∷ []) 1 refl) some_first
      (λ q. go q (cases_lt q 64) ∙ sym (has_cons t (members (rest ∷ [])) q))
    where
      inside : (q : ℕ) → q < 64 → (q ≡ t) ⊎ (q ≡ t → ⊥) → has (members (w ∷ [])) q ≡ (eqb q t || has (members (rest ∷ [])) q)
      inside q l (inl e) =
          has_word w q l ∙ ap (digit w) e ∙ low.on ∙ sym (ap (λ b. b || has (members (rest ∷ [])) q) (eq-eqb q t e))
      inside q l (inr d) =
          has_word w q l ∙ sym (and-true (digit w q)) ∙ ap (λ b. digit w q && not b) (sym (ne_eqb q t d)) ∙ sym (rest_bit q l)
          ∙ ap (λ b. b || has (members (rest ∷ [])) q) (sym (ne_eqb q t d))

      go : (q : ℕ) → (q < 64) ⊎ (64 ≤ q) → has (members (w ∷ [])) q ≡ (eqb q t || has (members (rest ∷ [])) q)
      go q (inl l) = inside q l (cases_eq q t)
      go q (inr l) =
          has_members (w ∷ []) q ∙ bit_past (w ∷ []) q l
          ∙ sym (ap₂ ◌||◌ (ne_eqb q t (omega (arith, lt))) (has_members (rest ∷ []) q ∙ bit_past (rest ∷ []) q l))

-- a word of 0 has none
pub none_of_zero : (w : ℕ) → w ≡ 0 → members (w ∷ []) ≡ []
none_of_zero w e =
    subsets_same 64 (members (w ∷ [])) [] (some_of_members (w ∷ []) 1 refl) (row_to 0 64 [] tt)
    (λ q. has_members (w ∷ []) q ∙ go q (cases_lt q 64) ∙ sym (has_none q))
  where
    go : (q : ℕ) → (q < 64) ⊎ (64 ≤ q) → bit (w ∷ []) q ≡ false
    go q (inl l) = bit_one w q l ∙ ap (λ v. digit v q) e ∙ digit_none q
    go q (inr l) = bit_past (w ∷ []) q l

-- before all of ks are taken away one is left, and it goes next
pub some_left : (w k : ℕ) (ks : List ℕ) → members (w ∷ []) ≡ drop k ks → k < length ks → 0 < w
some_left w k ks e l = go (cases_eq w 0)
  where
    go : (w ≡ 0) ⊎ (w ≡ 0 → ⊥) → 0 < w
    go (inl z) = absurd (omega (arith, ap length (none_of_zero w z), ap length e, length-drop k ks))
    go (inr d) = omega arith

pub next_left : (w k : ℕ) (ks : List ℕ) → w < 2 ^ 64 → members (w ∷ []) ≡ drop k ks → k < length ks → members (bit_and w (w - 1) ∷ []) ≡ drop (k + 1) ks
next_left w k ks small e l = ap (drop 1) (sym (lowest_first w (some_left w k ks e l) small) ∙ e) ∙ drop-drop 1 k ks

-- ---- members written one after the other
pub laid_more : (out : List ℕ) (n v : ℕ) (ys : List ℕ) → n < length out → laid (set out n v) (n + 1) ys ≡ laid out n (v ∷ ys)
laid_more out n v ys h =
    ap₂ (λ xs zs. xs ++ (ys ++ zs)) (ap (λ k. take k (set out n v)) (add-one n) ∙ take-suc-set out n v h)
    (drop-set-lt (n + 1 + length ys) out n v (omega arith) ∙ ap (λ k. drop k out) (let z : n + 1 + length ys ≡ n + suc (length ys) = omega arith in z))
    ∙ append_assoc (take n out) (v ∷ []) (ys ++ drop (n + suc (length ys)) out)

-- ys behind the n numbers xs that were written before
pub laid_behind : (out₀ xs ys : List ℕ) (n : ℕ) → n ≡ length xs → laid (xs ++ drop n out₀) n ys ≡ (xs ++ ys) ++ drop (n + length ys) out₀
laid_behind out₀ xs ys n e =
    ap₂ (λ us vs. us ++ (ys ++ vs)) (take_at xs (drop n out₀) n (sym e))
    (ap (λ k. drop (k + length ys) (xs ++ drop n out₀)) e ∙ drop-append-add xs (drop n out₀) (length ys) ∙ drop-drop (length ys) n out₀)
    ∙ sym (append_assoc xs ys (drop (n + length ys) out₀))
