use Rattle.std.proofs.Common.{◌≡◌, ℕ, ◌/◌, ◌^◌, ◌<◌, get_or}
use Rattle.rig.specs.Digits.{digit}
use Rattle.rig.proofs.numerals.fill.Given as goal

abbrev pub invariant-loop-digit : goal.invariant-loop-digit
invariant-loop-digit l =
    (l.rest ≡ l.code / l.base ^ l.digit-index) × ((k : ℕ) → k < l.digit-index → get_or l.row k 0 ≡ digit l.base l.code k)
