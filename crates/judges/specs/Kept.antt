-- What a reducer promises of one run against a judge. Assumes nothing: these are definitions.
use Rattle.std.specs.Prelude.{◌≡◌, ℕ, ◌+◌, ◌*◌, ◌<◌, ◌≤◌, true, false, [], ◌∷◌, length}
use Rattle.std.specs.List.{list_all}
use Rattle.subset.specs.Parts.{all_parts, some_of}
use Rattle.bisect.specs.Judge.{Judge, fails, Least}
use Rattle.bisect.specs.Engine.{Ran, ran, told_sound, told_refused}
use Rattle.bisect.specs.Promise.{Lessened, Bounded}

-- where all together fail: a lean subset is left after not too many questions; and where failing grows after few, and nothing smaller within it fails
pub record Leaves (grows : Type 0) (n : ℕ) (f : Judge) (R : Ran) : Type 0 where
  pub lessened : Lessened n f R
  pub bounded : Bounded n f R
  pub few : grows → (length R.asked ≤ 14 * (length R.rest + 1)) × Least f n R.rest

-- THE PROMISES, kept by a run; `grows` says that failing is monotone
pub record Kept (grows : Type 0) (n : ℕ) (f : Judge) (R : Ran) : Type 0 where
  -- more than 4,096 parts are refused, and nothing is asked
  pub many : 4096 < n → R ≡ ran [] told_refused []
  -- where all together don't fail, it says so after that one question
  pub sound : n ≤ 4096 → fails f (all_parts n) ≡ false → R ≡ ran (all_parts n ∷ []) told_sound []
  pub left : n ≤ 4096 → fails f (all_parts n) ≡ true → Leaves grows n f R
  -- and it asks of nothing that isn't there
  pub there : list_all (some_of n) R.asked ≡ true
