-- One number for each subset, in a row. Assumes nothing: these are definitions.
use Rattle.std.specs.Prelude.{◌≡◌, ℕ, ◌+◌, ◌^◌, ◌<◌, true, List, [], ◌∷◌, slice_index}
use Rattle.subset.specs.Parts.{some_of}
use Rattle.bisect.specs.Judge.{Judge}

-- the place of a subset's number: part p counts 2^p
unfoldable pub index_of : List ℕ → ℕ
index_of [] = 0
index_of (p ∷ ks) = 2 ^ p + index_of ks

-- the number at its place, and 0 past the row's end
abbrev pub tabled : List ℕ → Judge
tabled numbers ks = slice_index numbers (index_of ks)

-- each subset of n parts has a place of its own among 2^n
unfoldable pub OwnPlace : Type 0
OwnPlace =
    (n : ℕ) (ks : List ℕ) → some_of n ks ≡ true →
    (index_of ks < 2 ^ n) × ((js : List ℕ) → some_of n js ≡ true → index_of ks ≡ index_of js → ks ≡ js)
