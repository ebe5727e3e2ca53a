-- What a journal promises. Assumes nothing: these are definitions.
use Rattle.std.specs.Prelude.{◌≡◌, ℕ, ◌^◌, ◌<◌, not, List, [], ◌∷◌, ◌++◌, map, length, filter, flat_map, Some, None, Option, Ok, Err, ◌==◌}
use Rattle.std.specs.List.{slice_split}
use Rattle.bisect.specs.Engine.{Step}
use Rattle.bisect.specs.declared.verdict.Verdict.{Verdict}
use Rattle.session.specs.Session.{begun}
use Rattle.journal.specs.Line.{IsOneLine, heading, heading_in, exchange_line, exchange_read, skipped}
use Rattle.journal.specs.Replay.{awaited, by_line, cut_off, question_of, replayed, told_verdict, whole_lines}
use Rattle.journal.specs.declared.line.Fault.{Fault}
use Rattle.journal.specs.declared.replay.Replayed.{Replayed}

-- ---- a run that is told these verdicts, as far as it asks: what was asked and answered, and where it then stands
abbrev pub exchanged : Option (List ℕ) → Verdict → List (List ℕ × Verdict) → List (List ℕ × Verdict)
exchanged None v es = []
exchanged (Some ks) v es = (ks, v) ∷ es

unfoldable pub exchanges : Step → List Verdict → List (List ℕ × Verdict)
exchanges s [] = []
exchanges s (v ∷ vs) = exchanged (awaited s) v (exchanges (told_verdict s v) vs)

abbrev pub went : Option (List ℕ) → (s t : Step) → Step
went None s t = s
went (Some ks) s t = t

unfoldable pub after : Step → List Verdict → Step
after s [] = s
after s (v ∷ vs) = went (awaited s) s (after (told_verdict s v) vs)

-- A RUN ALWAYS AWAITS THE ANSWER TO WHAT IT ASKS, so what is recorded is all that it asked
unfoldable pub AwaitsWhatItAsks : Type 0
AwaitsWhatItAsks = (n : ℕ) (vs : List Verdict) → awaited (after (begun n) vs) ≡ question_of (after (begun n) vs).act

-- ---- what is written of it
abbrev pub line : List ℕ → List ℕ
line bs = bs ++ (10 ∷ [])

abbrev pub journal_of : ℕ → List (List ℕ × Verdict) → List ℕ
journal_of n es = line (heading n) ++ flat_map (λ e. line (exchange_line e.0 e.1)) es

-- WHAT WAS WRITTEN OF A RUN LEADS BACK TO WHERE IT STOOD: its memory is just what it was, and it asks what it asked
unfoldable pub GoesOn : Type 0
GoesOn =
    (n : ℕ) (vs : List Verdict) → n < 2 ^ 64 → replayed (journal_of n (exchanges (begun n) vs)) ≡ Ok (record { parts = n; session = after (begun n) vs })

-- the lines that aren't skipped
abbrev pub lines_of : List ℕ → List (List ℕ)
lines_of bs = filter (λ l. not (skipped l)) (slice_split (λ b. b == 10) (whole_lines bs))

-- a text that tells how many parts there are, and then just what the reducer asks, each with a verdict
pub record Tells (bs : List ℕ) (j : Replayed) : Type 0 where
  pub first : List ℕ
  pub rest : List (List ℕ)
  pub lines : lines_of bs ≡ first ∷ rest
  pub parts : heading_in first ≡ Ok j.parts
  pub recorded : List (List ℕ × Verdict)
  pub read : map (exchange_read j.parts) rest ≡ map Ok recorded
  pub own : recorded ≡ exchanges (begun j.parts) (map (λ e. e.1) recorded)
  pub stands : j.session ≡ after (begun j.parts) (map (λ e. e.1) recorded)

-- ONLY WHAT THE REDUCER ASKS ITSELF IS TAKEN UP, AND ALL THAT TELLS JUST THAT
unfoldable pub OnlyItsOwn : Type 0
OnlyItsOwn = (bs : List ℕ) (j : Replayed) → (replayed bs ≡ Ok j → Tells bs j) × (Tells bs j → replayed bs ≡ Ok j)

-- THE FIRST LINE THAT IS AT FAULT IS NAMED, WITH ITS FAULT, whatever follows. A question that the reducer doesn't ask is such a line: then `by_line` gives `Err Foreign`
unfoldable pub NamesTheFirst : Type 0
NamesTheFirst =
    (bs : List ℕ) (j : Replayed) (l more : List ℕ) (e : Fault) → cut_off bs ≡ 0 → replayed bs ≡ Ok j → IsOneLine l → by_line (Some j) l ≡ Err e
    → replayed (bs ++ (line l ++ more)) ≡ Err (record { line = length (slice_split (λ b. b == 10) bs); fault = e })

-- WHAT WAS CUT OFF IN WRITING COUNTS AS NOT WRITTEN, also once it is ended with a blank, the sign and a newline
unfoldable pub CutOffIsNothing : Type 0
CutOffIsNothing = (bs : List ℕ) → (replayed (bs ++ (32 ∷ 35 ∷ 10 ∷ [])) ≡ replayed bs) × (replayed (whole_lines bs) ≡ replayed bs)
