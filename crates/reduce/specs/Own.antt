-- The machine over its memory of 72 numbers: eight that say where it stands, and the 64 words of the subset it holds. Assumes nothing: these are definitions.
use Rattle.std.specs.Prelude.{ℕ, ◌-◌, Bool, cond, ◌&&◌, List, ◌∷◌, length, take, drop, replicate, ◌==◌, Some, None, Option, Ok, Err, Result, nat_le, nat_lt, slice_index}
use Rattle.subset.specs.Row.{members, words_of}
use Rattle.bisect.specs.Engine.{Event, parts, said, Act, refused, Step, Engine}
use Rattle.bisect.specs.Search.{place, pass}
use Rattle.bisect.specs.Stand.{sought, sane}
use Rattle.bisect.specs.declared.Search.{Search}
use Rattle.reduce.specs.State.{State, idle, first, seek, try, over, calm, many, next, begin, act_of}
use Rattle.reduce.specs.declared.Refusal.{Refusal}
use Rattle.reduce.specs.declared.Progress.{Progress}
use Rattle.reduce.specs.declared.Refusal.TheVariants.{Unfit, Torn, Unawaited}
use Rattle.reduce.specs.declared.Stage.{Stage}
use Rattle.reduce.specs.declared.Stage.TheVariants.{Idle, First, Seek, Trial}

-- ---- what a memory holds: the phase at 0, the number of parts at 1, the index of the part that is tried out at 4; where a pass stands at 2, 3, 5, 6 and 7;
-- and the words from 8 on
pub record Header : Type 0 where
  pub phase : ℕ
  pub size : ℕ
  pub index : ℕ

abbrev pub header : List ℕ → Header
header m = record { phase = slice_index m 0; size = slice_index m 1; index = slice_index m 4 }

abbrev pub row : List ℕ → List ℕ
row m = take 64 (drop 8 m)

abbrev pub held : List ℕ → List ℕ
held m = members (row m)

-- the memory that has just these numbers and words
abbrev pub headed : Header → Search → List ℕ → List ℕ
headed h s ws = h.phase ∷ h.size ∷ s.lo ∷ s.row ∷ h.index ∷ s.begun ∷ s.spent ∷ s.sure ∷ ws

-- and these members
abbrev pub kept : Header → Search → List ℕ → List ℕ
kept h s ks = headed h s (words_of 64 ks)

-- the phases: nothing is asked, it asked of all, a pass goes on, it asked of all but one
abbrev pub idle_at : Header
idle_at = record { phase = 0; size = 0; index = 0 }

abbrev pub first_at : ℕ → Header
first_at n = record { phase = 1; size = n; index = 0 }

abbrev pub seek_at : ℕ → Header
seek_at n = record { phase = 2; size = n; index = 0 }

abbrev pub try_at : ℕ → ℕ → Header
try_at n i = record { phase = 3; size = n; index = i }

-- no pass goes on
abbrev pub nowhere : Search
nowhere = place 0 0 0 0 0

-- where the machine stands
unfoldable pub standing : Header → Search → List ℕ → State
standing h s ks = cond (h.phase == 1) (first ks) (cond (h.phase == 2) (seek (pass s ks)) (cond (h.phase == 3) (try h.index ks) idle))

-- the memory of where it stands, of n parts, after one that held ks
unfoldable pub stored : (n : ℕ) (ks : List ℕ) → State → List ℕ
stored n ks idle = kept idle_at nowhere ks
stored n ks (first js) = kept (first_at n) nowhere js
stored n ks (seek p) = kept (seek_at n) p.at p.held
stored n ks (try i js) = kept (try_at n i) nowhere js
stored n ks (over js) = kept idle_at nowhere js
stored n ks calm = kept idle_at nowhere ks
stored n ks many = kept idle_at nowhere ks

-- ---- whether a run leaves such numbers beside k members
abbrev pub bare : Search → Bool
bare s = s.lo == 0 && (s.row == 0 && (s.begun == 0 && (s.spent == 0 && s.sure == 0)))

abbrev pub fine : Header → Search → ℕ → Bool
fine h s k =
    cond (h.phase == 0) (h.size == 0 && (h.index == 0 && bare s))
    (cond (h.phase == 1) (h.index == 0 && (bare s && (h.size == k && nat_le k 4096)))
    (cond (h.phase == 2) (h.index == 0 && sane s k h.size)
    (h.phase == 3 && (bare s && (nat_lt h.index k && (nat_le k h.size && nat_le h.size 4096))))))

-- where the machine stands, as the code has it, and beside the subset that is held
abbrev pub staged : Header → Search → Stage
staged h s = cond (h.phase == 0) Idle (cond (h.phase == 1) First (cond (h.phase == 2) (Seek s) (Trial h.index)))

unfoldable pub stage : List ℕ → Result Stage Refusal
stage m = cond (fine (header m) (sought m) (length (held m))) (Ok (staged (header m) (sought m))) (Err Torn)

abbrev pub stands : Stage → List ℕ → State
stands Idle ks = idle
stands First ks = first ks
stands (Seek s) ks = seek (pass s ks)
stands (Trial i) ks = try i ks

-- what is at fault with an answer: nothing, or no run leaves such numbers, or nothing was asked
unfoldable pub fault : List ℕ → Option Refusal
fault m = cond (fine (header m) (sought m) (length (held m))) (cond (slice_index m 0 == 0) (Some Unawaited) None) (Some Torn)

-- ---- a step, for every memory and every event; what is no memory of the machine's stays as it is
abbrev pub doing : List ℕ → Act → Step
doing m a = record { memory = m; act = a }

abbrev pub moved : (n : ℕ) (ks : List ℕ) → State → Step
moved n ks s = doing (stored n ks s) (act_of s)

-- where nothing is at fault, the first
abbrev pub faultless : Option Refusal → (s t : Step) → Step
faultless None s t = s
faultless (Some e) s t = t

unfoldable pub goes : List ℕ → Event → Step
goes m (parts n) = moved n (held m) (begin n)
goes m (said v) = faultless (fault m) (moved (slice_index m 1) (held m) (next (standing (header m) (sought m) (held m)) (v == 1))) (doing m refused)

unfoldable pub own : Engine
own = record { start = replicate 72 0; step = λ m ev. cond (length m == 72) (goes m ev) (doing m refused) }

-- ---- how far a run has come that awaits an answer: how many parts are still in, and how many of them were found needed
abbrev pub in_and_needed : ℕ → ℕ → Progress
in_and_needed k j = record { left = k; needed = j }

abbrev pub progressed : Result Stage Refusal → ℕ → Result Progress Refusal
progressed (Err e) k = Err e
progressed (Ok Idle) k = Err Unawaited
progressed (Ok First) k = Ok (in_and_needed k 0)
progressed (Ok (Seek s)) k = Ok (in_and_needed k (k - s.row))
progressed (Ok (Trial i)) k = Ok (in_and_needed k k)

abbrev pub progress : List ℕ → Result Progress Refusal
progress m = cond (length m == 72) (progressed (stage m) (length (held m))) (Err Unfit)
