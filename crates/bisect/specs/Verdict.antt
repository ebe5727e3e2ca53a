-- The verdicts of a judge, and their numbers. Assumes nothing: these are definitions.
use Rattle.std.specs.Prelude.{ℕ, cond, Ok, Err, Result, ◌==◌}
use Rattle.bisect.specs.declared.verdict.NoVerdict.{NoVerdict}
use Rattle.bisect.specs.declared.verdict.Verdict.{Verdict}
use Rattle.bisect.specs.declared.verdict.Verdict.TheVariants.{No, Yes, Unclear}

abbrev pub number_of : Verdict → ℕ
number_of No = 0
number_of Yes = 1
number_of Unclear = 2

abbrev pub verdict_of : ℕ → Result Verdict NoVerdict
verdict_of n = cond (n == 0) (Ok No) (cond (n == 1) (Ok Yes) (cond (n == 2) (Ok Unclear) (Err (record { 0 = n }))))
