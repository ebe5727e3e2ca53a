-- What the end of a run tells of the reducer's own run, as a whole. Assumes nothing: these are definitions.
use Rattle.std.specs.Prelude.{◌≡◌, ℕ, Bool, true, false, cond, List, [], length, take, ◌==◌, Some, None, Ok, Err, Result}
use Rattle.bisect.specs.Judge.{Judge, Monotone}
use Rattle.bisect.specs.Engine.{Ran, ran, run_of, told_left, told_sound, told_refused, still_asks}
use Rattle.reduce.specs.Own.{own}
use Rattle.reduce.specs.declared.Told.{Told}
use Rattle.reduce.specs.declared.Told.TheVariants as told
use Rattle.judges.specs.Kept.{Kept}
use Rattle.judges.specs.Driver.{Rests}
use Rattle.judges.specs.declared.driver.Ended.{Ended}
use Rattle.judges.specs.declared.driver.RunError.{RunError}
use Rattle.judges.specs.declared.driver.RunError.TheVariants.{TooMany, Unfit}

-- how a run that told this ended, and what it left of what stands in the row
abbrev pub end_told : Told → ℕ
end_told (told.Ask k) = still_asks
end_told (told.Rest k) = told_left
end_told told.Sound = told_sound
end_told told.TooMany = told_refused

abbrev pub rest_told : Told → List ℕ → List ℕ
rest_told (told.Ask k) out = []
rest_told (told.Rest k) out = take k out
rest_told told.Sound out = []
rest_told told.TooMany out = []

abbrev pub run_told : Told → List (List ℕ) → (out : List ℕ) → Ran
run_told r qs out = ran qs (end_told r) (rest_told r out)

-- a run as the end that tells it: what is left, and how many were asked
abbrev pub ended_as : Ran → Result Ended RunError
ended_as R =
    cond (R.end == told_left) (Ok (record { left = Some (length R.rest); asked = length R.asked }))
    (cond (R.end == told_sound) (Ok (record { left = None; asked = length R.asked })) (cond (R.end == told_refused) (Err TooMany) (Err Unfit)))

-- the end of a run of the reducer from its start: it is told just as it went, and keeps the promises in the judge's meaning; what is left stands in the row
pub record Tells (n : ℕ) (f : Judge) (out : List ℕ) (r : Result Ended RunError) (memory₁ out₁ : List ℕ) : Type 0 where
  pub acts : ℕ
  pub told : r ≡ ended_as (run_of acts n own f)
  pub kept : Kept (Monotone f n) n f (run_of acts n own f)
  pub row : take (length (run_of acts n own f).rest) out₁ ≡ (run_of acts n own f).rest
  pub rests : Rests n out memory₁ out₁

-- WHAT A RUN TELLS; where memory or row don't fit it tells that
abbrev pub RunTells : (fits : Bool) (n : ℕ) (f : Judge) (out : List ℕ) → Result Ended RunError → (memory₁ out₁ : List ℕ) → Type 0
RunTells true n f out r memory₁ out₁ = Tells n f out r memory₁ out₁
RunTells false n f out r memory₁ out₁ = r ≡ Err Unfit
