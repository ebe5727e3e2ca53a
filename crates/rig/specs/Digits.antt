-- The digits of a number, the lowest first. Assumes nothing: these are definitions.
use Rattle.std.specs.Prelude.{◌≡◌, ℕ, ◌/◌, ◌%◌, ◌^◌, ◌<◌, List, length, slice_index}

abbrev pub digit : (base code k : ℕ) → ℕ
digit base code k = code / base ^ k % base

-- so many digits as the row is long
abbrev pub Digits : (base code : ℕ) → (row : List ℕ) → Type 0
Digits base code row = (k : ℕ) → k < length row → slice_index row k ≡ digit base code k
