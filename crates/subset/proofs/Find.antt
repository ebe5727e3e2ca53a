-- The first member of a kind, found word by word.
use Rattle.std.proofs.Common.{Some, None, Ok, ◌≡◌, ℕ, suc, ◌+◌, ◌-◌, ◌*◌, ◌^◌, ◌<◌, ◌≤◌, min, ◌/◌, ◌%◌, Bool, true, false, not, ◌&&◌, eqb, ltb, leb, ◌⊎◌, List, [], ◌∷◌, ◌++◌, map, length, get_or, replicate, drop, sym, refl, ap, ◌∙◌, ap₂, inl, inr, append_assoc, arith}
use Rattle.std.specs.List.{filter, list_all, enumerate_from}
use lib.Bits.{bit_and, and_le_l}
use lib.Count.{count_trailing_zeros}
use lib.ListN.{length-map}
use lib.Seq.{drop-append-add, drop-append-le}
use borrow.Author.Numbers.{trailing_lt}
use Rattle.std.proofs.lemmas.List.{drop_all, drop-map, nil_from_length}
use Rattle.std.proofs.lemmas.List.Sums.{list_all-from_AllPass}
use Rattle.std.proofs.lemmas.List.Elements.{All-replicate}
use Rattle.std.proofs.lemmas.List.FromFn.{length-enumerate_from, get_or-enumerate_from}
use Rattle.std.proofs.lemmas.Bool.{lt-ltb, le-ltb, le-leb, lt-leb, eq-eqb, eqb-true, cases_lt, cases_eq, both_ways, and_parts, not-true, not-false}
use Rattle.subset.specs.Parts.{some_of, within, has}
use Rattle.subset.specs.Row.{digit, bit, members, words_of}
use Rattle.subset.specs.Says.{found}
use Rattle.subset.proofs.Lists.{Row, row_from, row_to, has_head, has_every, every_has, every_at, every_from}
use Rattle.subset.proofs.Lists as lists
use Rattle.subset.proofs.Order.{row_has, none_has}
use Rattle.subset.proofs.Changes.{bool_ext, upto, has_filtered, some_of_those}
use Rattle.subset.proofs.Digits.{digit_none, digit_and, digit_turned}
use Rattle.subset.proofs.Words.{Small, has_members, some_of_members, bit_past, words_none, members_words, words_members}
use Rattle.subset.proofs.Blocks.{bit_one, bit_block, digit_ones, upto_word, upto_more}
use Rattle.subset.proofs.Lowest.{Lowest, lowest, lowest_first, some_left}

-- ---- the head of a subset
pub found_first : (n : ℕ) (ks : List ℕ) (p : ℕ) → some_of n ks ≡ true → has ks p ≡ true → ((q : ℕ) → q < p → has ks q ≡ false) → Ok (Some p) ≡ found true ks
found_first n [] p s h k = absurd (none_has p h)
found_first n (x ∷ ks) p s h k =
    let r : Row 0 n (x ∷ ks) = row_from n (x ∷ ks) s in
    let low : p ≤ x = go (cases_lt x p) in
    ap (λ v. Ok (Some v)) (elim (lists.has_cons x ks p h) [ inl e ↦ e | inr g ↦ omega (arith, row_has (suc x) n ks p r.2 g) ])
  where
    go : (x < p) ⊎ (p ≤ x) → p ≤ x
    go (inl l) = absurd (both_ways _ (k x l) (has_head x ks))
    go (inr l) = l

pub found_none : (ks : List ℕ) → ((q : ℕ) → has ks q ≡ false) → Ok None ≡ found true ks
found_none [] h = refl
found_none (x ∷ ks) h = absurd (both_ways _ (h x) (has_head x ks))

-- ---- the first set bit of one of the words
-- word i has bits at places that pass f; the places before it have none
module _ (f : ℕ → Bool) (i w : ℕ) (small : w < 2 ^ 64) (pos : 0 < w) (here : (b : ℕ) → b < 64 → f (64 * i + b) ≡ digit w b) where
  abbrev place : ℕ
  place = 64 * i + count_trailing_zeros 64 w

  low : Lowest w (count_trailing_zeros 64 w)
  low = lowest 64 w pos small

  lt : count_trailing_zeros 64 w < 64
  lt = trailing_lt 64 w pos small

  pub place_on : f place ≡ true
  place_on = here (count_trailing_zeros 64 w) lt ∙ low.on

  pub place_first : ((q : ℕ) → q < 64 * i → f q ≡ false) → (q : ℕ) → q < place → f q ≡ false
  place_first before q l = go (cases_lt q (64 * i))
    where
      go : (q < 64 * i) ⊎ (64 * i ≤ q) → f q ≡ false
      go (inl m) = before q m
      go (inr m) =
          ap f (let z : q ≡ 64 * i + (q - 64 * i) = omega arith in z) ∙ here (q - 64 * i) (omega (arith, lt)) ∙ low.off (q - 64 * i) (omega arith)

-- where a word is 0, none of its places passes
pub word_none : (f : ℕ → Bool) (i w : ℕ) → w ≡ 0 → ((b : ℕ) → b < 64 → f (64 * i + b) ≡ digit w b) → ((q : ℕ) → q < 64 * i → f q ≡ false)
    → (q : ℕ) → q < 64 * (i + 1) → f q ≡ false
word_none f i w e here before q l = go (cases_lt q (64 * i))
  where
    go : (q < 64 * i) ⊎ (64 * i ≤ q) → f q ≡ false
    go (inl m) = before q m
    go (inr m) =
        ap f (let z : q ≡ 64 * i + (q - 64 * i) = omega arith in z) ∙ here (q - 64 * i) (omega arith) ∙ ap (λ v. digit v (q - 64 * i)) e ∙ digit_none (q - 64 * i)

-- ---- from a part on
abbrev pub from_on : List ℕ → ℕ → ℕ → Bool
from_on ws part q = bit ws q && leb part q

-- what is left of word i without the bits below the part
pub from_word : (ws : List ℕ) (part i m b : ℕ) → m ≡ 2 ^ min (part - 64 * i) 64 - 1 → m < 2 ^ 64 → b < 64
    → from_on ws part (64 * i + b) ≡ digit (bit_and (get_or ws i 0) (18446744073709551615 - m)) b
from_word ws part i m b e small l =
    ap₂ ◌&&◌ (bit_block ws i b l ∙ bit_one (get_or ws i 0) b l) (go (cases_lt b (min (part - 64 * i) 64)))
    ∙ sym (digit_and (get_or ws i 0) (18446744073709551615 - m) b ∙ ap (λ t. digit (get_or ws i 0) b && t) turned)
  where
    turned : digit (18446744073709551615 - m) b ≡ not (ltb b (min (part - 64 * i) 64))
    turned =
        digit_turned 64 m (18446744073709551615 - m) b (omega arith) l ∙ ap not (ap (λ v. digit v b) e ∙ digit_ones (min (part - 64 * i) 64) b)

    go : (b < min (part - 64 * i) 64) ⊎ (min (part - 64 * i) 64 ≤ b) → leb part (64 * i + b) ≡ not (ltb b (min (part - 64 * i) 64))
    go (inl k) = lt-leb part (64 * i + b) (omega arith) ∙ ap not (sym (lt-ltb b (min (part - 64 * i) 64) k))
    go (inr k) = le-leb part (64 * i + b) (omega arith) ∙ ap not (sym (le-ltb b (min (part - 64 * i) 64) k))

has_from : (ws : List ℕ) (part q : ℕ) → has (filter (leb part) (members ws)) q ≡ from_on ws part q
has_from ws part q = has_filtered (leb part) (members ws) q ∙ ap (λ b. b && leb part q) (has_members ws q)

pub from_found : (ws : List ℕ) (part p : ℕ) → from_on ws part p ≡ true → ((q : ℕ) → q < p → from_on ws part q ≡ false)
    → Ok (Some p) ≡ found true (filter (leb part) (members ws))
from_found ws part p on off =
    found_first (64 * length ws) (filter (leb part) (members ws)) p
    (some_of_those (64 * length ws) (leb part) (members ws) (some_of_members ws (length ws) refl))
    (has_from ws part p ∙ on) (λ q l. has_from ws part q ∙ off q l)

pub from_none : (ws : List ℕ) (part : ℕ) → ((q : ℕ) → q < 64 * length ws → from_on ws part q ≡ false) → Ok None ≡ found true (filter (leb part) (members ws))
from_none ws part off = found_none (filter (leb part) (members ws)) (λ q. has_from ws part q ∙ go q (cases_lt q (64 * length ws)))
  where
    go : (q : ℕ) → (q < 64 * length ws) ⊎ (64 * length ws ≤ q) → from_on ws part q ≡ false
    go q (inl l) = off q l
    go q (inr l) = ap (λ b. b && leb part q) (bit_past ws q l)

-- ---- at a rank
pub rank_found : (ws : List ℕ) (i rank left word : ℕ) → i < length ws → rank ≡ length (upto (bit ws) (64 * i)) + left
    → left < length (members (get_or ws i 0 ∷ [])) → word < 2 ^ 64 → members (word ∷ []) ≡ drop left (members (get_or ws i 0 ∷ []))
    → Ok (Some (64 * i + count_trailing_zeros 64 word)) ≡ found true (drop rank (members ws))
unfolding members
rank_found ws i rank left word h e high small rest =
    let xs : List ℕ = members (get_or ws i 0 ∷ []) in
    let ys : List ℕ = map (λ b. 64 * i + b) xs in
    let more : (zs : List ℕ) × (upto (bit ws) (64 * length ws) ≡ upto (bit ws) (64 * (i + 1)) ++ zs) =
    upto_more (bit ws) (64 * (i + 1)) (64 * length ws) (omega arith) in
    let fit : length ys ≡ length xs = length-map xs (λ b. 64 * i + b) in
    let pos : 0 < word = some_left word left xs rest high in
    sym (ap (λ ks. found true (drop rank ks))
    (more.1 ∙ ap (λ us. us ++ more.0) (upto_word ws i) ∙ append_assoc (upto (bit ws) (64 * i)) ys more.0)
    ∙ ap (λ k. found true (drop k (upto (bit ws) (64 * i) ++ (ys ++ more.0)))) e
    ∙ ap (found true) (drop-append-add (upto (bit ws) (64 * i)) (ys ++ more.0) left
    ∙ drop-append-le left ys more.0 (omega arith)
    ∙ ap (λ us. us ++ more.0) (drop-map (λ b. 64 * i + b) left xs ∙ ap (map (λ b. 64 * i + b)) (sym rest ∙ lowest_first word pos small))))

pub rank_none : (ws : List ℕ) (rank : ℕ) → length (members ws) ≤ rank → Ok None ≡ found true (drop rank (members ws))
rank_none ws rank h = ap (found true) (sym (drop_all rank (members ws) h))

-- ---- whether there is one at all, and whether all are in another row
zeros : (ws : List ℕ) → list_all (λ w. eqb w 0) ws ≡ true → ws ≡ replicate (length ws) 0
zeros [] h = refl
zeros (w ∷ ws) h = let e = and_parts _ _ h in ap₂ (λ v vs. v ∷ vs) (eqb-true w 0 e.0) (zeros ws e.1)

pub blank : (ws : List ℕ) → Small ws → list_all (λ w. eqb w 0) ws ≡ eqb (length (members ws)) 0
blank ws small = bool_ext _ _ there back
  where
    there : list_all (λ w. eqb w 0) ws ≡ true → eqb (length (members ws)) 0 ≡ true
    there h =
        eq-eqb (length (members ws)) 0
        (ap (λ vs. length (members vs)) (zeros ws h ∙ sym (words_none (length ws))) ∙ ap length (members_words (length ws) [] (row_to 0 (64 * length ws) [] tt)))

    back : eqb (length (members ws)) 0 ≡ true → list_all (λ w. eqb w 0) ws ≡ true
    back h =
        ap (list_all (λ w. eqb w 0))
        (sym (words_members ws (length ws) refl small) ∙ ap (words_of (length ws)) (nil_from_length (members ws) (eqb-true (length (members ws)) 0 h)) ∙ words_none (length ws))
        ∙ list_all-from_AllPass (λ w. eqb w 0) (replicate (length ws) 0) (All-replicate (λ w. eqb w 0 ≡ true) (length ws) 0 refl)

-- in one row and not in the other
abbrev pub out_of : (vs ws : List ℕ) → ℕ → Bool
out_of vs ws q = bit ws q && not (bit vs q)

pub out_word : (vs ws : List ℕ) (i b : ℕ) → get_or vs i 0 < 2 ^ 64 → b < 64 → out_of vs ws (64 * i + b) ≡ digit (bit_and (get_or ws i 0) (18446744073709551615 - get_or vs i 0)) b
out_word vs ws i b small l =
    ap₂ (λ x y. x && not y) (bit_block ws i b l ∙ bit_one (get_or ws i 0) b l) (bit_block vs i b l ∙ bit_one (get_or vs i 0) b l)
    ∙ sym (digit_and (get_or ws i 0) (18446744073709551615 - get_or vs i 0) b
    ∙ ap (λ t. digit (get_or ws i 0) b && t) (digit_turned 64 (get_or vs i 0) (18446744073709551615 - get_or vs i 0) b (omega arith) l))

not_within : (vs ws : List ℕ) (p : ℕ) → out_of vs ws p ≡ true → within (members ws) (members vs) ≡ true → ⊥
not_within vs ws p h g =
    let w = and_parts (bit ws p) (not (bit vs p)) h in
    both_ways _ (not-true (bit vs p) w.1) (sym (has_members vs p) ∙ has_every (has (members vs)) (members ws) p g (has_members ws p ∙ w.0))

-- what is left of word i without the bits of the other row's
abbrev only : List ℕ → ℕ × ℕ → ℕ
only vs p = bit_and p.1 (18446744073709551615 - get_or vs p.0 0)

pub within_words : (vs ws : List ℕ) → Small vs → Small ws → list_all (λ p. eqb (only vs p) 0) (enumerate_from 0 ws) ≡ within (members ws) (members vs)
within_words vs ws sv sw = bool_ext _ _ there back
  where
    here : (i b : ℕ) → b < 64 → out_of vs ws (64 * i + b) ≡ digit (only vs (i, get_or ws i 0)) b
    here i b l = out_word vs ws i b (sv i) l

    there : list_all (λ p. eqb (only vs p) 0) (enumerate_from 0 ws) ≡ true → within (members ws) (members vs) ≡ true
    there h =
        every_has (has (members vs)) (members ws) (λ q g. has_members vs q ∙ go q (sym (has_members ws q) ∙ g) (cases_lt q (64 * length ws)))
      where
        none : (i : ℕ) → i < length ws → only vs (i, get_or ws i 0) ≡ 0
        none i l =
            eqb-true (only vs (i, get_or ws i 0)) 0
            (ap (λ k. eqb (only vs (k, get_or ws i 0)) 0) (let z : i ≡ 0 + i = omega arith in z) ∙ sym (ap (λ p. eqb (only vs p) 0) (get_or-enumerate_from 0 ws i (0, 0) l))
            ∙ every_at (λ p. eqb (only vs p) 0) (enumerate_from 0 ws) i (0, 0) h (omega (arith, length-enumerate_from 0 ws)))

        go : (q : ℕ) → bit ws q ≡ true → (q < 64 * length ws) ⊎ (64 * length ws ≤ q) → bit vs q ≡ true
        go q g (inl l) =
            not-false (bit vs q)
            (ap (λ b. b && not (bit vs q)) (sym g) ∙ ap (out_of vs ws) (let z : q ≡ 64 * (q / 64) + q % 64 = omega arith in z)
            ∙ here (q / 64) (q % 64) (omega arith) ∙ ap (λ w. digit w (q % 64)) (none (q / 64) (omega arith)) ∙ digit_none (q % 64))
        go q g (inr l) = absurd (both_ways _ (bit_past ws q l) g)

    back : within (members ws) (members vs) ≡ true → list_all (λ p. eqb (only vs p) 0) (enumerate_from 0 ws) ≡ true
    back g =
        every_from (λ p. eqb (only vs p) 0) (enumerate_from 0 ws) (0, 0) (λ i l.
        ap (λ p. eqb (only vs p) 0) (get_or-enumerate_from 0 ws i (0, 0) (omega (arith, length-enumerate_from 0 ws)))
        ∙ ap (λ k. eqb (only vs (k, get_or ws i 0)) 0) (let z : 0 + i ≡ i = omega arith in z) ∙ eq-eqb (only vs (i, get_or ws i 0)) 0 (go i (cases_eq (only vs (i, get_or ws i 0)) 0)))
      where
        go : (i : ℕ) → (only vs (i, get_or ws i 0) ≡ 0) ⊎ (only vs (i, get_or ws i 0) ≡ 0 → ⊥) → only vs (i, get_or ws i 0) ≡ 0
        go i (inl e) = e
        go i (inr d) =
            let small : only vs (i, get_or ws i 0) < 2 ^ 64 = omega (arith, and_le_l (get_or ws i 0) (18446744073709551615 - get_or vs i 0), sw i) in
            absurd (not_within vs ws _ (place_on (out_of vs ws) i (only vs (i, get_or ws i 0)) small (omega arith) (here i)) g)
