-- What a trial shows. Assumes nothing: these are definitions.
use Rattle.std.specs.Prelude.{◌≡◌, ℕ, ◌<◌, Bool, cond, List, reverse, length, replicate, codes, Some, None, Ok, Err, Option, Result, Decides, ◌==◌}
use Rattle.bisect.specs.Judge.{Judge, Monotone}
use Rattle.bisect.specs.Engine.{Ran, run_of, told_left}
use Rattle.reduce.specs.Own.{own}
use Rattle.reduce.specs.declared.Event.{Event}
use Rattle.reduce.specs.declared.Event.TheVariants.{Parts}
use Rattle.reduce.specs.declared.Refusal.{Refusal}
use Rattle.reduce.specs.declared.Told.{Told}
use Rattle.inspect.specs.Inspector.{finding, Known, words}
use Rattle.judges.specs.Kept.{Kept}
use Rattle.judges.specs.Spelled.{spelled}
use Rattle.inspect.specs.Recorder.{Dialogue, Does, Stopped, end_by}
use Rattle.inspect.specs.declared.inspector.Finding.{Finding}
use Rattle.inspect.specs.declared.recorder.Machine.{Machine}
use Rattle.rig.specs.declared.desk.Shown.{Shown}
use Rattle.rig.specs.declared.desk.Wrong.{Wrong}
use Rattle.rig.specs.declared.desk.Wrong.TheVariants.{Broken, TooMany}

-- a machine is stopped after so many questions, or where so long a transcript has no room for the next exchange
abbrev pub most_questions : ℕ
most_questions = 5000

abbrev pub transcript_room : ℕ
transcript_room = 65536

-- what is found is what an inspection finds in a dialogue of the reducer with the judge, up to its end or where it was stopped
pub record Inspected {S : Type 0} (does : S → Event → S → Result Told Refusal → List ℕ → Type 0) (f : Judge) (s : S) (n : ℕ) (told : Bool) (r : Result (Unit {0}) Finding) (t : S) : Type 0 where
  pub exchanges : List (List ℕ)
  pub last : Result Told Refusal
  pub out : List ℕ
  pub dialogue : Dialogue does f (does s (Parts n)) (reverse exchanges) t last out
  pub stopped : Stopped last (length exchanges) most_questions (length (spelled exchanges)) transcript_room
  pub found : r ≡ finding told n f exchanges (end_by last out)

-- how many are left, where something is
abbrev pub left_of : Ran → Option ℕ
left_of R = cond (R.end == told_left) (Some (length R.rest)) None

-- what is shown of the reducer is its own run against the judge
pub record Shows (f : Judge) (n : ℕ) (told : Bool) (s : Shown) : Type 0 where
  pub acts : ℕ
  pub kept : Kept (Monotone f n) n f (run_of acts n own f)
  pub left : s.left ≡ left_of (run_of acts n own f)
  pub asked : s.asked ≡ length (run_of acts n own f).asked
  pub monotone : Decides s.monotone (Known told n f)

-- what was found in a dialogue of the reducer itself, begun with a memory of zeros, if anything was
pub record Found (f : Judge) (n : ℕ) (told : Bool) (r : Result (Unit {0}) Finding) : Type 0 where
  pub from : Machine
  pub to : Machine
  pub blank : from.memory ≡ replicate 72 0
  pub inspected : Inspected Does f from n told r to

-- it shows how the run went where an inspection finds nothing, and nothing where one does, or there are too many parts
abbrev pub Tried : Judge → ℕ → Bool → Result Shown Wrong → Type 0
Tried f n told (Ok s) = Shows f n told s × Found f n told (Ok tt)
Tried f n told (Err (Broken r)) = Found f n told (Err r)
Tried f n told (Err TooMany) = 4096 < n

-- what it prints where it shows nothing
abbrev pub complaint : Wrong → List ℕ
complaint (Broken r) = words r
complaint TooMany = codes "too many parts"
