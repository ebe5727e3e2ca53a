-- What is recorded of a run of any reducer. Assumes nothing: these are definitions.
use Rattle.std.specs.Prelude.{◌≡◌, ℕ, suc, ◌+◌, ◌<◌, ◌≤◌, ◌⊎◌, List, [], ◌∷◌, ◌++◌, reverse, length, take, drop, Some, None, Option, Ok, Err, Result, ◌≢◌}
use Rattle.std.specs.Borrow.{Bor}
use Rattle.bisect.specs.Judge.{Judge, Monotone}
use Rattle.reduce.specs.Entry.{Reacts, fits}
use Rattle.reduce.specs.declared.Event.{Event}
use Rattle.reduce.specs.declared.Event.TheVariants.{Parts, Said}
use Rattle.reduce.specs.declared.Refusal.{Refusal}
use Rattle.reduce.specs.declared.Told.{Told}
use Rattle.reduce.specs.declared.Told.TheVariants as told
use Rattle.inspect.specs.Inspector.{answer_of, question_of, Ending, left, sound, refused, unended, recorded}
use Rattle.judges.specs.Kept.{Kept}
use Rattle.judges.specs.Spelled.{spelled}
use Rattle.inspect.specs.declared.recorder.Machine.{Machine}

-- what is told of stands in a row of so many numbers
abbrev pub Roomy : Result Told Refusal → ℕ → Type 0
Roomy (Ok (told.Ask k)) room = k ≤ room
Roomy (Ok (told.Rest k)) room = k ≤ room
Roomy (Ok told.Sound) room = Unit {0}
Roomy (Ok told.TooMany) room = Unit {0}
Roomy (Err e) room = Unit {0}

-- what the reducer does at an event
abbrev pub Steps : List ℕ → Event → List ℕ → Result Told Refusal → List ℕ → Type 0
Steps m e m₁ r row = (out : List ℕ) × Reacts (fits m out) m e out r m₁ row

-- and with its memory
abbrev pub Does : Machine → Event → Machine → Result Told Refusal → List ℕ → Type 0
Does m e m₁ r row = Steps m.memory e m₁.memory r row

-- how a run ended, by what was told last and what stands in the row; one that can't go on has refused
abbrev pub end_by : Result Told Refusal → List ℕ → Ending
end_by (Ok (told.Ask k)) out = unended
end_by (Ok (told.Rest k)) out = left (take k out)
end_by (Ok told.Sound) out = sound
end_by (Ok told.TooMany) out = refused
end_by (Err e) out = refused

-- the question that was told, in the row; or it asks none
abbrev pub Asked : Result Told Refusal → List ℕ → Option (Bor (List ℕ)) → Type 0
Asked r out None = (k : ℕ) → r ≢ Ok (told.Ask k)
Asked r out (Some q) = (r ≡ Ok (told.Ask (length q.now))) × (take (length q.now) out ≡ q.now)

-- a dialogue between a reducer that does as `does` says and a judge f, from where `begun` holds: after these exchanges, the last first, it stands at t, has told r,
-- and so stands in the row; each question is what it told to ask, and each answer is what the judge says of it
unfoldable pub Dialogue : {S : Type 0} → (S → Event → S → Result Told Refusal → List ℕ → Type 0) → Judge → (begun : S → Result Told Refusal → List ℕ → Type 0) → List (List ℕ) → (t : S) → Result Told Refusal → List ℕ → Type 0
Dialogue does f begun [] t r row = begun t r row
Dialogue {S} does f begun (e ∷ es) t r row =
    (u : S) × (before : List ℕ) × Dialogue does f begun es u (Ok (told.Ask (length (question_of e)))) before
    × (take (length (question_of e)) before ≡ question_of e) × (answer_of e ≡ f (question_of e)) × does u (Said (answer_of e)) t r row

-- an exchange was written to the beginning of a row; or there is no room, and the row is as it was
abbrev pub WriteSays : (row : List ℕ) (answer : ℕ) (question : List ℕ) → Option ℕ → (row₁ : List ℕ) → Type 0
WriteSays row answer question None row₁ = (row₁ ≡ row) × (length row < 2 + length question)
WriteSays row answer question (Some end) row₁ =
    (end ≡ 2 + length question) × (end ≤ length row) × (row₁ ≡ suc (length question) ∷ answer ∷ (question ++ drop (2 + length question) row))

-- no more is recorded: so many questions were asked, or the next has no room
abbrev pub Stopped : Result Told Refusal → (asked limit used room : ℕ) → Type 0
Stopped (Ok (told.Ask k)) asked limit used room = (asked ≡ limit) ⊎ (room < used + (2 + k))
Stopped (Ok (told.Rest k)) asked limit used room = Unit {0}
Stopped (Ok told.Sound) asked limit used room = Unit {0}
Stopped (Ok told.TooMany) asked limit used room = Unit {0}
Stopped (Err e) asked limit used room = Unit {0}

-- WHAT IS RECORDED in the row is a dialogue, up to its end or where it was stopped; what was told last stands in the other row
pub record RecordSays {S : Type 0} (does : S → Event → S → Result Told Refusal → List ℕ → Type 0) (f : Judge) (s : S) (n limit : ℕ) (told : Result Told Refusal) (used : ℕ) (t : S) (row out : List ℕ) : Type 0 where
  pub exchanges : List (List ℕ)
  pub dialogue : Dialogue does f (does s (Parts n)) (reverse exchanges) t told out
  pub spells : take used row ≡ spelled exchanges
  pub used_low : used ≤ length row
  pub roomy : Roomy told (length out)
  pub few : length exchanges ≤ limit
  pub stopped : Stopped told (length exchanges) limit used (length row)

-- and the same of a transcript that holds rows of so many numbers
pub record TranscriptSays {S : Type 0} (does : S → Event → S → Result Told Refusal → List ℕ → Type 0) (f : Judge) (s : S) (n limit room wide : ℕ) (row : List ℕ) (e : Ending) (t : S) : Type 0 where
  pub exchanges : List (List ℕ)
  pub told : Result Told Refusal
  pub out : List ℕ
  pub dialogue : Dialogue does f (does s (Parts n)) (reverse exchanges) t told out
  pub spells : row ≡ spelled exchanges
  pub used : length row ≤ room
  pub end : e ≡ end_by told out
  pub long : length out ≡ wide
  pub roomy : Roomy told wide
  pub few : length exchanges ≤ limit
  pub stopped : Stopped told (length exchanges) limit (length row) room

-- THE REDUCER ITSELF: a dialogue with it that ended keeps the promises; so an inspection finds nothing, unless it is told falsely that failing is monotone
unfoldable pub ReducerKept : Type 0
ReducerKept =
    (f : Judge) (n : ℕ) (m : Machine) (exchanges : List (List ℕ)) (t : Machine) (r : Result Told Refusal) (row : List ℕ) → length m.memory ≡ 72 → 4096 ≤ length row
    → Dialogue Does f (Does m (Parts n)) (reverse exchanges) t r row → ((k : ℕ) → r ≢ Ok (told.Ask k))
    → Kept (Monotone f n) n f (recorded exchanges (end_by r row))
