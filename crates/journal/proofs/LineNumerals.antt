-- The digits of a number: no sign and no blank is among them, and they are read back.
use Rattle.std.proofs.Common.{rules, arith, ◌≡◌, ℕ, ◌-◌, ◌<◌, ◌^◌, Bool, true, false, not, List, [], ◌∷◌, ◌++◌, length, get_or, reverse, decimal, find, All, Ok, ◌==◌, ◌∙◌, ap, refl}
use Rattle.std.specs.Char.{is_ascii_digit}
use Rattle.std.specs.List.{list_all, prefix_len, suffix_len}
use Rattle.std.specs.Option.{option_map_or}
use Rattle.std.proofs.lemmas.Bool.{cond-false, lt-ltb}
use Rattle.std.proofs.lemmas.Bool.Decides.{nat_tests}
use Rattle.std.proofs.lemmas.Fmt.{decimal_nonempty, digits_decimal, digits_value-decimal}
use Rattle.std.proofs.lemmas.List.{get_or-reverse, length-reverse, reverse-append, take_all}
use Rattle.std.proofs.lemmas.List.Elements.{All-head, All-weaker}
use Rattle.std.proofs.lemmas.List.Sums.{AllPass-from_list_all, suffix_len_is}
use Rattle.std.proofs.lemmas.Str.Parse.{IsNumeralModel, numerals_by_fold}
use Rattle.dialog.specs.Reading.{bare_size, blank, number_from, text_size, trimmed}
use Rattle.journal.specs.Line.{skipped}

own : IsNumeralModel (λ ds. list_all is_ascii_digit ds ≡ true) (number_from 0)
own = numerals_by_fold _ (search rules) number_from (search rules)

-- each byte is a digit
pub digits_only : (n : ℕ) → n < 2 ^ 64 → All (λ b. is_ascii_digit b ≡ true) (decimal n)
digits_only n small = AllPass-from_list_all is_ascii_digit (decimal n) (digits_decimal own n small)

-- a digit is no other byte
no_blank : (b : ℕ) → is_ascii_digit b ≡ true → blank b ≡ false
no_blank b digit = grind (arith, nat_tests)

pub other_byte : (c b : ℕ) → is_ascii_digit c ≡ false → is_ascii_digit b ≡ true → (b == c) ≡ false
other_byte c b other digit = grind (arith, nat_tests)

-- ---- what has no blank is trimmed
prefix_len-none : (p : ℕ → Bool) (xs : List ℕ) → All (λ x. p x ≡ false) xs → prefix_len p xs ≡ 0
prefix_len-none p [] none = search rules
prefix_len-none p (x ∷ xs) none = cond-false (p x) _ _ (All-head (λ y. p y ≡ false) x xs none)

suffix_len-none : (p : ℕ → Bool) (xs : List ℕ) → All (λ x. p x ≡ false) xs → suffix_len p xs ≡ 0
suffix_len-none p xs none =
    let at_end = suffix_len_is p xs (length xs) 0 (omega arith) (λ k low high. absurd (omega arith)) (λ some. none (length xs - 1) 0 (omega arith)) in
    omega (arith, at_end)

trimmed_plain : (bs : List ℕ) → All (λ b. blank b ≡ false) bs → trimmed bs ≡ bs
trimmed_plain bs plain =
    rw (prefix_len-none blank bs plain, suffix_len-none blank bs plain) (take_all (length bs - 0) bs (omega arith))

-- ---- digits are read
bare_size-digits : (bs : List ℕ) → 0 < length bs → list_all is_ascii_digit bs ≡ true → number_from 0 bs < 2 ^ 64 → bare_size bs ≡ Ok (number_from 0 bs)
bare_size-digits [] some digits small = absurd (omega arith)
bare_size-digits (b ∷ bs) some digits small = rw (digits, lt-ltb (number_from 0 (b ∷ bs)) (2 ^ 64) small) refl

pub text_size-decimal : (n : ℕ) → n < 2 ^ 64 → text_size (decimal n) ≡ Ok n
text_size-decimal n small =
    let plain = trimmed_plain (decimal n) (All-weaker _ _ no_blank (decimal n) (digits_only n small)) in
    let said = digits_value-decimal own n small in
    ap bare_size plain
    ∙ bare_size-digits (decimal n) (decimal_nonempty n small) (digits_decimal own n small) (rw said small)
    ∙ ap (λ k. Ok k) said

-- ---- a line that ends with digits is not passed over
ends_so : (rs rest : List ℕ) → 0 < length rs → is_ascii_digit (get_or rs 0 0) ≡ true → option_map_or (λ b. b == 35) (find (λ b. not (blank b)) (rs ++ rest)) true ≡ false
ends_so [] rest some digit = absurd (omega arith)
ends_so (c ∷ rs) rest some digit = rw (no_blank c digit) (other_byte 35 c refl digit)

pub skipped-digits : (bs : List ℕ) (n : ℕ) → n < 2 ^ 64 → skipped (bs ++ decimal n) ≡ false
skipped-digits bs n small =
    let some = decimal_nonempty n small in
    let last : is_ascii_digit (get_or (reverse (decimal n)) 0 0) ≡ true = rw (get_or-reverse (decimal n) 0 0 some) (digits_only n small _ 0 (omega arith)) in
    rw (reverse-append bs (decimal n)) (ends_so (reverse (decimal n)) (reverse bs) (rw (length-reverse (decimal n)) some) last)
