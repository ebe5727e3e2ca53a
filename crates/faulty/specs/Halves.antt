-- The middle of a range, rounded down, as far as a number goes, and rounded up. Assumes nothing: these are definitions.
use Rattle.std.specs.Prelude.{ℕ, ◌+◌, ◌-◌, ◌/◌, ◌^◌, min}
use Rattle.faulty.specs.declared.ends.Range.{Range}

abbrev pub middle : Range → ℕ
middle s = min (s.lo + (s.hi - s.lo) / 2) (2 ^ 64 - 1)

abbrev pub upper : Range → ℕ
upper s = s.hi - (s.hi - s.lo) / 2
