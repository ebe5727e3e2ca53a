-- The reducer begun and told answers. A session is seen as a step: the reducer's memory, and what it does. Assumes nothing: these are definitions.
use Rattle.std.specs.Prelude.{◌≡◌, ℕ, ◌≤◌, List, take, length, Some, None, Option, Ok, Err, Result}
use Rattle.bisect.specs.Engine.{Act, ask, left, sound, refused, Step, parts, said}
use Rattle.reduce.specs.Own.{own}
use Rattle.reduce.specs.declared.Refusal.{Refusal}
use Rattle.reduce.specs.declared.Told.{Told}
use Rattle.reduce.specs.declared.Told.TheVariants.{Ask, Rest, Sound, TooMany}
use Rattle.session.specs.declared.Act as acts
use Rattle.session.specs.declared.Act.TheVariants as act

-- what is told, with its subset at the beginning of a row
abbrev pub act_told : Told → (row : List ℕ) → Act
act_told (Ask k) row = ask (take k row)
act_told (Rest k) row = left (take k row)
act_told Sound row = sound
act_told TooMany row = refused

-- the row has room for it
abbrev pub Room : Told → (row : List ℕ) → Type 0
Room (Ask k) row = k ≤ length row
Room (Rest k) row = k ≤ length row
Room Sound row = Unit {0}
Room TooMany row = Unit {0}

abbrev pub standing : (memory row : List ℕ) → Told → Step
standing memory row t = record { memory = memory; act = act_told t row }

-- begun with so many parts
abbrev pub begun : ℕ → Step
begun n = own.step own.start (parts n)

-- told an answer, by what is at fault with it: where nothing is, the reducer's next step, and else it stays
abbrev pub Hears : Option Refusal → Step → (answer : ℕ) → Result (Unit {0}) Refusal → Step → Type 0
Hears None s v r t = (r ≡ Ok tt) × (t ≡ own.step s.memory (said v))
Hears (Some e) s v r t = (r ≡ Err e) × (t ≡ s)

-- an act, as the engine has it
abbrev pub meant : acts.Act → Act
meant (act.Ask ks) = ask ks.now
meant (act.Left ks) = left ks.now
meant act.Sound = sound
meant act.TooMany = refused
