-- What a line says. Lines are lists of bytes.
use Rattle.std.specs.Prelude.{ℕ, ◌+◌, ◌-◌, ◌*◌, ◌^◌, Bool, cond, ◌||◌, List, [], ◌∷◌, length, take, drop, Some, None, Option, Err, Result, ◌==◌, nat_lt}
use Rattle.std.specs.List.{list_all, prefix_len, suffix_len}
use Rattle.std.specs.Char.{is_ascii_digit}
use Rattle.std.specs.Option.{ok_or}
use Rattle.bisect.specs.declared.verdict.Verdict.{Verdict}
use Rattle.bisect.specs.declared.verdict.Verdict.TheVariants.{No, Yes, Unclear}
use Rattle.dialog.specs.declared.reading.SizeError.{SizeError}
use Rattle.dialog.specs.declared.reading.SizeError.TheVariants.{TooMany, NoNumber}

-- a blank, a tab or a carriage return
abbrev pub blank : ℕ → Bool
blank b = b == 32 || (b == 9 || b == 13)

-- without the blanks at both ends
abbrev pub trimmed : List ℕ → List ℕ
trimmed bs =
    let rest = drop (prefix_len blank bs) bs in
    take (length rest - suffix_len blank rest) rest

-- the answer that one byte gives: y, n or u
abbrev pub letter_verdict : ℕ → Option Verdict
letter_verdict b = cond (b == 121) (Some Yes) (cond (b == 110) (Some No) (cond (b == 117) (Some Unclear) None))

-- of a line without blanks at its ends
abbrev pub bare_verdict : List ℕ → Option Verdict
bare_verdict [] = None
bare_verdict (b ∷ []) = letter_verdict b
bare_verdict (b ∷ c ∷ bs) = None

abbrev pub line_verdict : List ℕ → Option Verdict
line_verdict bs = bare_verdict (trimmed bs)

-- the number that digits after the number n make with it
abbrev pub number_from : ℕ → List ℕ → ℕ
number_from n [] = n
number_from n (b ∷ bs) = number_from (n * 10 + (b - 48)) bs

-- the number, where 64 bits hold it
abbrev pub held : ℕ → Option ℕ
held n = cond (nat_lt n (2 ^ 64)) (Some n) None

abbrev pub bare_size : List ℕ → Result ℕ SizeError
bare_size [] = Err NoNumber
bare_size (b ∷ bs) = cond (list_all is_ascii_digit (b ∷ bs)) (ok_or (held (number_from 0 (b ∷ bs))) TooMany) (Err NoNumber)

abbrev pub text_size : List ℕ → Result ℕ SizeError
text_size bs = bare_size (trimmed bs)
