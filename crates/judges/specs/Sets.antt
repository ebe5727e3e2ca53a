-- Sets of parts, spelled in a row. Assumes nothing: these are definitions.
use Rattle.std.specs.Prelude.{ℕ, Bool, cond, List}
use Rattle.std.specs.List.{list_any}
use Rattle.subset.specs.Parts.{within}
use Rattle.bisect.specs.Judge.{Judge, Monotone}
use Rattle.judges.specs.Spelled.{lists_of}

-- ks has all of one of the sets
abbrev pub has_one : List ℕ → List ℕ → Bool
has_one row ks = list_any (λ set. within set ks) (lists_of row)

abbrev pub by_sets : List ℕ → Judge
by_sets row ks = cond (has_one row ks) 1 0

-- whatever contains what fails, fails
unfoldable pub SetsGrow : Type 0
SetsGrow = (row : List ℕ) (n : ℕ) → Monotone (by_sets row) n
