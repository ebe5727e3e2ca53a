-- Rows of words, their bits and their members.
use Rattle.std.proofs.Common.{◌≡◌, ℕ, zero, suc, ◌+◌, ◌-◌, ◌*◌, ◌/◌, ◌%◌, ◌^◌, ◌<◌, ◌≤◌, Bool, true, false, not, ◌&&◌, ◌||◌, eqb, ltb, ◌⊎◌, List, [], ◌∷◌, length, get_or, set, replicate, sym, refl, ap, ◌∙◌, ap₂, inl, inr, arith, length-set, get_or-set_other, get_or-set_same}
use mathlib.Core.Bool.{and-true, and-false, or_comm}
use lib.Bits.{bit_and, bit_or, or_lt, and_le_l}
use lib.ListN.{length-replicate}
use Rattle.std.proofs.lemmas.List.FromFn.{length-map-range_with_len, get_or-map-range_with_len, fill_by_all}
use Rattle.std.proofs.lemmas.List.{get_or_past, get_or-replicate, set_past}
use Rattle.std.proofs.lemmas.Bool.{lt-ltb, ltb-true, eq-eqb, ne_eqb, cases_eq, cases_lt, and_parts, both_ways}
use Rattle.subset.specs.Parts.{all_parts, some_of, without, has}
use Rattle.subset.specs.Row.{digit, bit, members, word_by, words_by, words_of, with_part}
use Rattle.subset.specs.Says.{Holds, After}
use Rattle.subset.specs.Laws.{all_small}
use Rattle.subset.proofs.Lists.{length_those, length_all}
use Rattle.subset.proofs.Order.{subsets_same, past}
use Rattle.subset.proofs.Changes.{has_none, has_upto, has_with, has_without, some_of_upto, some_of_with, some_of_those}
use Rattle.subset.proofs.Digits.{digit_none, digit_and, digit_or, digit_pow, digit_turned, digit_ext, digit_number, number_lt}

-- every word has 64 bits
abbrev pub Small : List ℕ → Type 0
Small ws = (i : ℕ) → get_or ws i 0 < 2 ^ 64

pub small_from : (ws : List ℕ) → all_small ws ≡ true → Small ws
unfolding all_small
small_from [] h i = omega arith
small_from (w ∷ ws) h zero = ltb-true w 18446744073709551616 (and_parts (ltb w 18446744073709551616) (all_small ws) h).0
small_from (w ∷ ws) h (suc i) = small_from ws (and_parts (ltb w 18446744073709551616) (all_small ws) h).1 i

pub small_to : (ws : List ℕ) → Small ws → all_small ws ≡ true
unfolding all_small
small_to [] h = refl
small_to (w ∷ ws) h = ap₂ ◌&&◌ (lt-ltb w 18446744073709551616 (h 0)) (small_to ws (λ i. h (suc i)))

-- ---- the members
pub bit_past : (ws : List ℕ) (p : ℕ) → 64 * length ws ≤ p → bit ws p ≡ false
unfolding bit
bit_past ws p h = ap (λ w. digit w (p % 64)) (get_or_past ws (p / 64) 0 (omega arith)) ∙ digit_none (p % 64)

pub has_members : (ws : List ℕ) (p : ℕ) → has (members ws) p ≡ bit ws p
unfolding members
has_members ws p = has_upto (bit ws) (64 * length ws) p ∙ go (cases_lt p (64 * length ws))
  where
    go : (p < 64 * length ws) ⊎ (64 * length ws ≤ p) → (ltb p (64 * length ws) && bit ws p) ≡ bit ws p
    go (inl l) = ap (λ b. b && bit ws p) (lt-ltb p (64 * length ws) l)
    go (inr l) = ap (λ b. ltb p (64 * length ws) && b) (bit_past ws p l) ∙ and-false (ltb p (64 * length ws)) ∙ sym (bit_past ws p l)

pub some_of_members : (ws : List ℕ) (n : ℕ) → length ws ≡ n → some_of (64 * n) (members ws) ≡ true
unfolding members
some_of_members ws n e = some_of_upto (bit ws) (64 * length ws) (64 * n) (omega arith)

pub members_le : (ws : List ℕ) → length (members ws) ≤ 64 * length ws
unfolding members
members_le ws = omega (arith, length_those (bit ws) (all_parts (64 * length ws)), length_all (64 * length ws))

-- ---- the encoding
pub length_words : (n : ℕ) (ks : List ℕ) → length (words_of n ks) ≡ n
unfolding words_of words_by
length_words n ks = length-map-range_with_len (word_by (has ks)) 0 n

pub bit_words : (n : ℕ) (ks : List ℕ) (p : ℕ) → p < 64 * n → bit (words_of n ks) p ≡ has ks p
unfolding words_of words_by word_by bit
bit_words n ks p h =
    ap (λ w. digit w (p % 64)) (get_or-map-range_with_len (word_by (has ks)) 0 n (p / 64) (p / 64) 0 (omega arith) (omega arith))
    ∙ digit_number (λ b. has ks (p / 64 * 64 + b)) 64 (p % 64) (omega arith) ∙ ap (has ks) (let e : p / 64 * 64 + p % 64 ≡ p = omega arith in e)

pub small_words : (n : ℕ) (ks : List ℕ) → Small (words_of n ks)
unfolding words_of words_by word_by
small_words n ks i = go (cases_lt i n)
  where
    go : (i < n) ⊎ (n ≤ i) → get_or (words_of n ks) i 0 < 2 ^ 64
    go (inl l) = rw (get_or-map-range_with_len (word_by (has ks)) 0 n i i 0 l (omega arith)) (number_lt (λ b. has ks (i * 64 + b)) 64)
    go (inr l) = rw (get_or_past (words_of n ks) i 0 (omega (arith, length_words n ks))) (omega arith)

-- a row is known by its bits
words_known : (ws ks : List ℕ) (n : ℕ) → length ws ≡ n → Small ws → ((p : ℕ) → p < 64 * n → bit ws p ≡ has ks p) → ws ≡ words_of n ks
unfolding words_of words_by word_by bit
words_known ws ks n e small h =
    fill_by_all (word_by (has ks)) ws n 0 e (λ k l.
    digit_ext 64 (get_or ws k 0) (word_by (has ks) k) (small k) (number_lt (λ b. has ks (k * 64 + b)) 64) (λ i m.
    ap₂ (λ j b. digit (get_or ws j 0) b) (let q : k ≡ (k * 64 + i) / 64 = omega arith in q) (let q : i ≡ (k * 64 + i) % 64 = omega arith in q)
    ∙ h (k * 64 + i) (omega arith) ∙ sym (digit_number (λ b. has ks (k * 64 + b)) 64 i m)))

-- ---- everything goes through the test: a row whose bits are those of a subset holds that subset
pub holds : (ws ks : List ℕ) (n : ℕ) → length ws ≡ n → Small ws → some_of (64 * n) ks ≡ true → ((p : ℕ) → p < 64 * n → bit ws p ≡ has ks p) → Holds ws n ks
holds ws ks n e small s h =
    record {
      row = words_known ws ks n e small h;
      left = subsets_same (64 * n) (members ws) ks (some_of_members ws n e) s (λ p. has_members ws p ∙ go p (cases_lt p (64 * n)));
    }
  where
    go : (p : ℕ) → (p < 64 * n) ⊎ (64 * n ≤ p) → bit ws p ≡ has ks p
    go p (inl l) = h p l
    go p (inr l) = bit_past ws p (omega arith) ∙ sym (past (64 * n) ks p l s)

pub done : (b : Bool) (ws ks ws₁ : List ℕ) → b ≡ true → Holds ws₁ (length ws) ks → After b ws ks ws₁
done true ws ks ws₁ e h = h
done false ws ks ws₁ e h = absurd (both_ways _ refl e)

pub members_words : (n : ℕ) (ks : List ℕ) → some_of (64 * n) ks ≡ true → members (words_of n ks) ≡ ks
members_words n ks s = (holds (words_of n ks) ks n (length_words n ks) (small_words n ks) s (bit_words n ks)).left

pub words_members : (ws : List ℕ) (n : ℕ) → length ws ≡ n → Small ws → words_of n (members ws) ≡ ws
words_members ws n e small = sym (words_known ws (members ws) n e small (λ p l. sym (has_members ws p)))

pub same_members : (vs ws : List ℕ) → length vs ≡ length ws → Small vs → Small ws → members vs ≡ members ws → vs ≡ ws
same_members vs ws e sv sw h =
    sym (words_members vs (length vs) refl sv) ∙ ap₂ words_of e h ∙ words_members ws (length ws) refl sw

pub words_none : (n : ℕ) → words_of n [] ≡ replicate n 0
unfolding bit
words_none n =
    sym (words_known (replicate n 0) [] n (length-replicate {A = ℕ} n 0) (λ i. small i (cases_lt i n)) (λ p l.
    ap (λ w. digit w (p % 64)) (get_or-replicate {A = ℕ} n (p / 64) 0 0 (omega arith)) ∙ digit_none (p % 64) ∙ sym (has_none p)))
  where
    small : (i : ℕ) → (i < n) ⊎ (n ≤ i) → get_or {A = ℕ} (replicate n 0) i 0 < 2 ^ 64
    small i (inl l) = rw (get_or-replicate {A = ℕ} n i 0 0 l) (omega arith)
    small i (inr l) = rw (get_or_past {X = ℕ} (replicate n 0) i 0 (omega (arith, length-replicate {A = ℕ} n 0))) (omega arith)

-- ---- one word written
pub small_set : (ws : List ℕ) (i v : ℕ) → Small ws → v < 2 ^ 64 → Small (set ws i v)
small_set ws i v small h j = go (cases_eq j i) (cases_lt i (length ws))
  where
    go : (j ≡ i) ⊎ (j ≡ i → ⊥) → (i < length ws) ⊎ (length ws ≤ i) → get_or (set ws i v) j 0 < 2 ^ 64
    go (inl e) (inl l) = rw (e, get_or-set_same ws i v 0 l) h
    go (inl e) (inr l) = rw (set_past ws i v l) (small j)
    go (inr d) k = rw (get_or-set_other ws i j v 0 d) (small j)

bit_set_same : (ws : List ℕ) (i v q : ℕ) → i < length ws → q / 64 ≡ i → bit (set ws i v) q ≡ digit v (q % 64)
unfolding bit
bit_set_same ws i v q h e = rw (e, get_or-set_same ws i v 0 h)

bit_set_other : (ws : List ℕ) (i v q : ℕ) → (q / 64 ≡ i → ⊥) → bit (set ws i v) q ≡ bit ws q
unfolding bit
bit_set_other ws i v q d = rw (get_or-set_other ws i (q / 64) v 0 d)

same_place : (q p : ℕ) → q / 64 ≡ p / 64 → eqb (q % 64) (p % 64) ≡ eqb q p
same_place q p e = go (cases_eq q p)
  where
    go : (q ≡ p) ⊎ (q ≡ p → ⊥) → eqb (q % 64) (p % 64) ≡ eqb q p
    go (inl s) = eq-eqb (q % 64) (p % 64) (omega arith) ∙ sym (eq-eqb q p s)
    go (inr d) = ne_eqb (q % 64) (p % 64) (omega arith) ∙ sym (ne_eqb q p d)

-- with bit p % 64 of word p / 64 set, and cleared
module _ (ws : List ℕ) (small : Small ws) (p m : ℕ) (h : p < 64 * length ws) (mask : m ≡ 2 ^ (p % 64)) (low : m < 2 ^ 64) where
  mask_digit : (q : ℕ) → q / 64 ≡ p / 64 → digit m (q % 64) ≡ eqb q p
  mask_digit q e = ap (λ x. digit x (q % 64)) mask ∙ digit_pow (p % 64) (q % 64) ∙ same_place q p e

  abbrev set_word : ℕ
  set_word = bit_or (get_or ws (p / 64) 0) m

  abbrev clear_word : ℕ
  clear_word = bit_and (get_or ws (p / 64) 0) (18446744073709551615 - m)

  apart : (q : ℕ) → (q / 64 ≡ p / 64 → ⊥) → eqb q p ≡ false
  apart q d = ne_eqb q p (λ e. d (ap (λ x. x / 64) e))

  bit_put : (q : ℕ) → (q / 64 ≡ p / 64) ⊎ (q / 64 ≡ p / 64 → ⊥) → bit (set ws (p / 64) set_word) q ≡ (eqb q p || bit ws q)
  unfolding bit
  bit_put q (inl e) =
      bit_set_same ws (p / 64) set_word q (omega arith) e ∙ digit_or (get_or ws (p / 64) 0) m (q % 64)
      ∙ ap₂ ◌||◌ (ap (λ i. digit (get_or ws i 0) (q % 64)) (sym e)) (mask_digit q e) ∙ or_comm (bit ws q) (eqb q p)
  bit_put q (inr d) = bit_set_other ws (p / 64) set_word q d ∙ ap (λ b. b || bit ws q) (sym (apart q d))

  bit_out : (q : ℕ) → (q / 64 ≡ p / 64) ⊎ (q / 64 ≡ p / 64 → ⊥) → bit (set ws (p / 64) clear_word) q ≡ (bit ws q && not (eqb q p))
  unfolding bit
  bit_out q (inl e) =
      bit_set_same ws (p / 64) clear_word q (omega arith) e ∙ digit_and (get_or ws (p / 64) 0) (18446744073709551615 - m) (q % 64)
      ∙ ap₂ ◌&&◌ (ap (λ i. digit (get_or ws i 0) (q % 64)) (sym e))
      (digit_turned 64 m (18446744073709551615 - m) (q % 64) (omega arith) (omega arith) ∙ ap not (mask_digit q e))
  bit_out q (inr d) = bit_set_other ws (p / 64) clear_word q d ∙ sym (ap (λ b. bit ws q && not b) (apart q d) ∙ and-true (bit ws q))

  pub put_holds : Holds (set ws (p / 64) set_word) (length ws) (with_part p (members ws))
  put_holds =
      holds (set ws (p / 64) set_word) (with_part p (members ws)) (length ws) (length-set ws (p / 64) set_word)
      (small_set ws (p / 64) set_word small (or_lt 64 (get_or ws (p / 64) 0) m (small (p / 64)) low))
      (some_of_with (64 * length ws) p (members ws) h (some_of_members ws (length ws) refl))
      (λ q l. bit_put q (cases_eq (q / 64) (p / 64)) ∙ sym (has_with p q (members ws) ∙ ap (λ b. eqb q p || b) (has_members ws q)))

  pub out_holds : Holds (set ws (p / 64) clear_word) (length ws) (without p (members ws))
  out_holds =
      holds (set ws (p / 64) clear_word) (without p (members ws)) (length ws) (length-set ws (p / 64) clear_word)
      (small_set ws (p / 64) clear_word small (omega (arith, and_le_l (get_or ws (p / 64) 0) (18446744073709551615 - m), small (p / 64))))
      (some_of_those (64 * length ws) (λ j. not (eqb j p)) (members ws) (some_of_members ws (length ws) refl))
      (λ q l. bit_out q (cases_eq (q / 64) (p / 64)) ∙ sym (has_without p q (members ws) ∙ ap (λ b. b && not (eqb q p)) (has_members ws q)))
