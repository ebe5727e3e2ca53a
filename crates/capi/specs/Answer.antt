-- What a step tells, in two numbers. Assumes nothing: these are definitions.
use Rattle.std.specs.Prelude.{◌≡◌, ℕ, List, Ok, Err, Result}
use Rattle.reduce.specs.Entry.{StepSays}
use Rattle.reduce.specs.declared.Event.{Event}
use Rattle.reduce.specs.declared.Refusal.{Refusal}
use Rattle.reduce.specs.declared.Refusal.TheVariants.{Unfit, Torn, Unawaited}
use Rattle.reduce.specs.declared.Told.{Told}
use Rattle.reduce.specs.declared.Told.TheVariants.{Ask, Rest, Sound, TooMany}
use Rattle.capi.specs.declared.Answer.{Answer}

abbrev pub numbers : (kind number : ℕ) → Answer
numbers kind number = record { kind = kind; number = number }

abbrev pub number_of : Refusal → ℕ
number_of Unfit = 0
number_of Torn = 1
number_of Unawaited = 2

-- each answer of the reducer has numbers of its own
abbrev pub answer : Result Told Refusal → Answer
answer (Ok (Ask k)) = numbers 0 k
answer (Ok (Rest k)) = numbers 1 k
answer (Ok Sound) = numbers 2 0
answer (Ok TooMany) = numbers 3 0
answer (Err e) = numbers 4 (number_of e)

-- WHAT A STEP TELLS IN TWO NUMBERS: they are those of an answer that the reducer's own contract allows
abbrev pub Says : Result Event Refusal → (memory out : List ℕ) → Answer → (memory₁ out₁ : List ℕ) → Type 0
Says ev memory out a memory₁ out₁ = (r : Result Told Refusal) × (a ≡ answer r) × StepSays ev memory out r memory₁ out₁
