-- How a run of the reducer against a judge ends. Assumes nothing: these are definitions.
use Rattle.std.specs.Prelude.{◌≡◌, ℕ, ◌<◌, ◌≤◌, Bool, true, false, List, length, take, Some, None, Ok, Err, Result}
use Rattle.subset.specs.Parts.{all_parts}
use Rattle.bisect.specs.Judge.{Judge, fails, Monotone}
use Rattle.bisect.specs.Engine.{Ran}
use Rattle.reduce.specs.Own.{fault}
use Rattle.reduce.specs.declared.Refusal.TheVariants.{Unawaited}
use Rattle.judges.specs.Kept as kept
use Rattle.judges.specs.declared.driver.Ended.{Ended}
use Rattle.judges.specs.declared.driver.RunError.{RunError}
use Rattle.judges.specs.declared.driver.RunError.TheVariants.{TooMany, Unfit}

-- no run asks more: 7 n² + 20 n + 14 where n is 4,096
abbrev pub most : ℕ
most = 117522446

-- what a run that kept its promises left is told, and stands in the row
pub record Leaves (n : ℕ) (f : Judge) (r : Result Ended RunError) (out₁ : List ℕ) : Type 0 where
  pub run : Ran
  pub told : r ≡ Ok (record { left = Some (length run.rest); asked = length run.asked })
  pub row : take (length run.rest) out₁ ≡ run.rest
  pub keeps : kept.Leaves (Monotone f n) n f run

-- what memory and row hold then: too many parts leave the row as it was, and the memory awaits no answer
pub record Rests (n : ℕ) (out memory₁ out₁ : List ℕ) : Type 0 where
  pub many : 4096 < n → out₁ ≡ out
  pub long : length out₁ ≡ length out
  pub idle : fault memory₁ ≡ Some Unawaited

-- the end by the number of parts and the judge's meaning
pub record Ends (n : ℕ) (f : Judge) (out : List ℕ) (r : Result Ended RunError) (memory₁ out₁ : List ℕ) : Type 0 where
  pub many : 4096 < n → r ≡ Err TooMany
  pub sound : n ≤ 4096 → fails f (all_parts n) ≡ false → r ≡ Ok (record { left = None; asked = 1 })
  pub left : n ≤ 4096 → fails f (all_parts n) ≡ true → Leaves n f r out₁
  pub rests : Rests n out memory₁ out₁

-- HOW A RUN ENDS; a memory or a row that doesn't fit is refused, and nothing changes
abbrev pub RunSays : (fits : Bool) (n : ℕ) (f : Judge) (memory out : List ℕ) → Result Ended RunError → (memory₁ out₁ : List ℕ) → Type 0
RunSays true n f memory out r memory₁ out₁ = Ends n f out r memory₁ out₁
RunSays false n f memory out r memory₁ out₁ = (r ≡ Err Unfit) × (memory₁ ≡ memory) × (out₁ ≡ out)
