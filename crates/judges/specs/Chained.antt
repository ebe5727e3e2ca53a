-- Parts that need others. Assumes nothing: these are definitions.
use Rattle.std.specs.Prelude.{ℕ, Bool, cond, List, slice_index_or}
use Rattle.std.specs.List.{list_all}
use Rattle.subset.specs.Parts.{has}
use Rattle.bisect.specs.Judge.{Judge}

-- the part that p needs; past the row's end itself, and so nothing
abbrev pub need_of : List ℕ → ℕ → ℕ
need_of needs p = slice_index_or needs p p

-- what p needs is in ks
abbrev pub met : List ℕ → List ℕ → ℕ → Bool
met needs ks p = has ks (need_of needs p)

-- ks has what its parts need
abbrev pub all_met : List ℕ → List ℕ → Bool
all_met needs ks = list_all (met needs ks) ks

-- one can't tell where something needed is missing; else what another judge says
abbrev pub chained : List ℕ → Judge → Judge
chained needs f ks = cond (all_met needs ks) (f ks) 2
