-- How a step is told to the world outside. Assumes nothing: these are definitions.
use Rattle.std.specs.Prelude.{◌≡◌, ℕ, zero, suc, Bool, true, false, ◌&&◌, List, ◌++◌, length, drop, ◌==◌, Some, None, Option, Ok, Err, Result, nat_le, codes}
use Rattle.bisect.specs.Engine.{parts, said, Act, ask, left, sound, refused, Step}
use Rattle.bisect.specs.Engine as engine
use Rattle.reduce.specs.Own.{own, fault}
use Rattle.reduce.specs.declared.Event.{Event}
use Rattle.reduce.specs.declared.Event.TheVariants.{Parts, Said}
use Rattle.reduce.specs.declared.Refusal.{Refusal}
use Rattle.reduce.specs.declared.Refusal.TheVariants.{Unfit, Torn, Unawaited}
use Rattle.reduce.specs.declared.Told.{Told}
use Rattle.reduce.specs.declared.Told.TheVariants.{Ask, Rest, Sound, TooMany}

-- each act as the answer that tells it, with its subset in the lent row; what lies behind stays as it was
unfoldable pub ActTold : Act → Told → (out out₁ : List ℕ) → Type 0
ActTold (ask ks) t out out₁ = (t ≡ Ask (length ks)) × (out₁ ≡ ks ++ drop (length ks) out)
ActTold (left ks) t out out₁ = (t ≡ Rest (length ks)) × (out₁ ≡ ks ++ drop (length ks) out)
ActTold sound t out out₁ = (t ≡ Sound) × (out₁ ≡ out)
ActTold refused t out out₁ = (t ≡ TooMany) × (out₁ ≡ out)

abbrev pub Does : Step → Told → (memory₁ out out₁ : List ℕ) → Type 0
Does s t memory₁ out out₁ = (memory₁ ≡ s.memory) × ActTold s.act t out out₁

-- a step that isn't refused
abbrev pub Answers : Step → Result Told Refusal → (memory₁ out out₁ : List ℕ) → Type 0
Answers s (Ok t) memory₁ out out₁ = Does s t memory₁ out out₁
Answers s (Err e) memory₁ out out₁ = ⊥

-- a refusal changes nothing
abbrev pub Refuses : Refusal → (memory out : List ℕ) → Result Told Refusal → (memory₁ out₁ : List ℕ) → Type 0
Refuses e memory out r memory₁ out₁ = (r ≡ Err e) × (memory₁ ≡ memory) × (out₁ ≡ out)

-- an event as the engine is told it
abbrev pub event_of : Event → engine.Event
event_of (Parts n) = parts n
event_of (Said v) = said v

-- what is at fault with an event: with how many parts there are nothing
abbrev pub fault_of : (memory : List ℕ) → Event → Option Refusal
fault_of memory (Parts n) = None
fault_of memory (Said v) = fault memory

-- an event, by what is at fault with it
abbrev pub Heard : (fault : Option Refusal) → (memory : List ℕ) → Event → (out : List ℕ) → Result Told Refusal → (memory₁ out₁ : List ℕ) → Type 0
Heard None memory ev out r memory₁ out₁ = Answers (own.step memory (event_of ev)) r memory₁ out out₁
Heard (Some e) memory ev out r memory₁ out₁ = Refuses e memory out r memory₁ out₁

-- a memory of 72 numbers, and room for 4,096 numbers
abbrev pub fits : (memory out : List ℕ) → Bool
fits memory out = length memory == 72 && nat_le 4096 (length out)

-- WHAT A STEP DOES AT AN EVENT, and all that memory and row hold afterwards
abbrev pub Reacts : (fits : Bool) → (memory : List ℕ) → Event → (out : List ℕ) → Result Told Refusal → (memory₁ out₁ : List ℕ) → Type 0
Reacts true memory ev out r memory₁ out₁ = Heard (fault_of memory ev) memory ev out r memory₁ out₁
Reacts false memory ev out r memory₁ out₁ = Refuses Unfit memory out r memory₁ out₁

-- kind 0: so many parts; kind 1: what the judge said; there is no other
abbrev pub event : (kind number : ℕ) → Result Event Refusal
event zero number = Ok (Parts number)
event (suc zero) number = Ok (Said number)
event (suc (suc kind)) number = Err Unfit

-- WHAT A STEP TELLS, by its kind
abbrev pub StepSays : Result Event Refusal → (memory out : List ℕ) → Result Told Refusal → (memory₁ out₁ : List ℕ) → Type 0
StepSays (Ok ev) memory out r memory₁ out₁ = Reacts (fits memory out) memory ev out r memory₁ out₁
StepSays (Err e) memory out r memory₁ out₁ = Refuses e memory out r memory₁ out₁

-- why a step is refused, as it is printed
abbrev pub reason : Refusal → List ℕ
reason Unfit = codes "the memory or the row does not fit"
reason Torn = codes "no run leaves such a memory"
reason Unawaited = codes "no answer is awaited"
