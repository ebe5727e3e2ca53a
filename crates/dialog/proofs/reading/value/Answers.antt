use Rattle.std.proofs.Common.{rules, arith, true, ◌≡◌, ◌<◌, ◌^◌, ℕ, Ok, Err, Result, ◌∙◌}
use Rattle.std.specs.Result.{OkIff, result_ok}
use Rattle.std.specs.List.{list_all}
use Rattle.std.specs.Char.{is_ascii_digit}
use Rattle.std.proofs.lemmas.Fmt.{IsAscii-from_digits}
use Rattle.std.proofs.lemmas.Str.{IsUtf8-from_ascii}
use Rattle.std.proofs.lemmas.Str.Parse.{IsNumeralModel, numerals_by_fold, parse_digits}
use Rattle.dialog.specs.Reading.{number_from, held}
use Rattle.dialog.proofs.reading.value.Goals as goal

own : IsNumeralModel (λ ds. list_all is_ascii_digit ds ≡ true) (number_from 0)
own = numerals_by_fold _ (search rules) number_from (search rules)

held_result : {E : Type 0} (r : Result ℕ E) (l n : ℕ) → 0 < l → OkIff r ((0 < l) × (n < 2 ^ 64)) n → result_ok r ≡ held n
held_result (Ok x) l n some h = grind arith
held_result (Err e) l n some h = grind arith

pub unwrap-requires : goal.unwrap-requires
unwrap-requires c =
    let text = IsUtf8-from_ascii _ (IsAscii-from_digits c.args.digits.now (own.to c.args.digits.now c.requires.digits)) in
    search (rules, text)

pub returns : goal.returns
returns c =
    let same : c.unwrap.result.now ≡ c.args.digits.now = search rules in
    let read = rw same at c.parse.ensures.value.0 in
    c.ok.ensures.value ∙ held_result _ _ _ c.requires.some (parse_digits own 64 c.args.digits.now c.parse.result read c.requires.digits)
