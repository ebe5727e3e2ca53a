-- A journal taken up: the reducer is told what the journal tells, as long as each question is its own. Assumes nothing: these are definitions.
use Rattle.std.specs.Prelude.{ℕ, ◌+◌, ◌-◌, Bool, true, false, cond, not, List, ◌++◌, codes, decimal, length, take, drop, fold, Some, None, Option, Ok, Err, Result, ◌==◌, nat_eq}
use Rattle.std.specs.List.{enumerate_from, slice_split, suffix_len}
use Rattle.std.specs.Option.{ok_or, option_map_or}
use Rattle.std.specs.Cmp.Lexicographic.{pointwise}
use Rattle.bisect.specs.Engine.{Act, ask, left, sound, refused, Step, said}
use Rattle.bisect.specs.Verdict.{number_of}
use Rattle.bisect.specs.declared.verdict.Verdict.{Verdict}
use Rattle.reduce.specs.Own.{own, fault}
use Rattle.reduce.specs.declared.Refusal.{Refusal}
use Rattle.session.specs.Session.{begun}
use Rattle.journal.specs.Line.{heading_in, exchange_read, skipped, text_of}
use Rattle.journal.specs.declared.line.Fault.{Fault}
use Rattle.journal.specs.declared.line.Fault.TheVariants.{Version, Foreign}
use Rattle.journal.specs.declared.replay.Broken.{Broken}
use Rattle.journal.specs.declared.replay.Replayed.{Replayed}

-- ---- a text's lines: what stands behind the last newline was cut off
abbrev pub cut_off : List ℕ → ℕ
cut_off bs = suffix_len (λ b. not (b == 10)) bs

abbrev pub whole_lines : List ℕ → List ℕ
whole_lines bs = take (length bs - cut_off bs) bs

abbrev pub torn : List ℕ → List ℕ
torn bs = drop (length bs - cut_off bs) bs

-- ---- one line
-- what is asked
abbrev pub question_of : Act → Option (List ℕ)
question_of (ask ks) = Some ks
question_of (left ks) = None
question_of sound = None
question_of refused = None

abbrev pub faultless : Option Refusal → Bool
faultless None = true
faultless (Some e) = false

-- the question whose answer is awaited
abbrev pub awaited : Step → Option (List ℕ)
awaited s = cond (faultless (fault s.memory)) (question_of s.act) None

abbrev pub awaits : Step → List ℕ → Bool
awaits s ks = option_map_or (λ js. pointwise nat_eq js ks) (awaited s) false

-- the reducer told a verdict
abbrev pub told_verdict : Step → Verdict → Step
told_verdict s v = own.step s.memory (said (number_of v))

abbrev pub answered : Step → Result (List ℕ × Verdict) Fault → Result Step Fault
answered s (Err e) = Err e
answered s (Ok (ks, v)) = cond (awaits s ks) (Ok (told_verdict s v)) (Err Foreign)

abbrev pub gone_on : ℕ → Result Step Fault → Result Replayed Fault
gone_on n (Err e) = Err e
gone_on n (Ok s) = Ok (record { parts = n; session = s })

abbrev pub begun_by : Result ℕ Fault → Result Replayed Fault
begun_by (Err e) = Err e
begun_by (Ok n) = Ok (record { parts = n; session = begun n })

-- the first line that isn't skipped is the heading, each further one an exchange
abbrev pub by_line : Option Replayed → List ℕ → Result Replayed Fault
by_line None bs = begun_by (heading_in bs)
by_line (Some j) bs = gone_on j.parts (answered j.session (exchange_read j.parts bs))

-- what is printed of a line that is at fault
abbrev pub complaint : Broken → List ℕ
complaint b = codes "line " ++ decimal b.line ++ codes ": " ++ text_of b.fault

-- ---- all lines, with the number of the first that is at fault, counted from 1
abbrev pub at_line : ℕ → Result Replayed Fault → Result (Option Replayed) Broken
at_line number (Err e) = Err (record { line = number; fault = e })
at_line number (Ok j) = Ok (Some j)

abbrev pub numbered : Option Replayed → (number : ℕ) → List ℕ → Result (Option Replayed) Broken
numbered j number bs = cond (skipped bs) (Ok j) (at_line number (by_line j bs))

abbrev pub read_line : Result (Option Replayed) Broken → ℕ × List ℕ → Result (Option Replayed) Broken
read_line (Err b) l = Err b
read_line (Ok j) (i, bs) = numbered j (i + 1) bs

abbrev pub read_lines : List (List ℕ) → Result (Option Replayed) Broken
read_lines ls = fold read_line (Ok None) (enumerate_from 0 ls)

-- a journal with no heading is none
abbrev pub taken_up : Result (Option Replayed) Broken → Result Replayed Broken
taken_up (Err b) = Err b
taken_up (Ok j) = ok_or j (record { line = 1; fault = Version })

abbrev pub replayed : List ℕ → Result Replayed Broken
replayed bs = taken_up (read_lines (slice_split (λ b. b == 10) (whole_lines bs)))
