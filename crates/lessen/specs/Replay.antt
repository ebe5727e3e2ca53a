-- The answers so far, as the lines of a file give them. Assumes nothing: these are definitions.
use Rattle.std.specs.Prelude.{◌≡◌, ℕ, ◌+◌, ◌-◌, cond, List, [], ◌∷◌, length, take, Some, None, Option, Result, MatchResult, ◌==◌, slice_index}
use Rattle.bisect.specs.Engine.{Step, said}
use Rattle.bisect.specs.Verdict.{number_of}
use Rattle.bisect.specs.declared.verdict.Verdict.{Verdict}
use Rattle.dialog.specs.Reading.{line_verdict}
use Rattle.reduce.specs.Own.{fault, own}
use Rattle.reduce.specs.declared.Refusal.{Refusal}
use Rattle.lessen.specs.declared.replay.Mishap.{Mishap}
use Rattle.lessen.specs.declared.replay.Mishap.TheVariants.{NoAnswer, Unasked}

-- a line without the newline that ends it
abbrev pub bare : List ℕ → List ℕ
bare l = cond (slice_index l (length l - 1) == 10) (take (length l - 1) l) l

abbrev pub answer : List ℕ → Option Verdict
answer l = line_verdict (bare l)

-- how the reducer stands after answers, and what was wrong with the first that it could not go on after
abbrev pub Outcome : Type 0
Outcome = Step × Option Mishap

-- goes on after the answer of the line at a place, where there is one and nothing is at fault with it
abbrev pub after : ℕ → Step → (Step → Outcome) → Option Verdict → Option Refusal → Outcome
after n s on None f = (s, Some (NoAnswer n))
after n s on (Some v) None = on (own.step s.memory (said (number_of v)))
after n s on (Some v) (Some e) = (s, Some (Unasked n))

-- from the line at a place on
abbrev pub heard_from : ℕ → Step → List (List ℕ) → Outcome
heard_from n s [] = (s, None)
heard_from n s (l ∷ ls) = after n s (λ t. heard_from (n + 1) t ls) (answer l) (fault s.memory)

-- what is told of it
abbrev pub Tells : Outcome → Result (Unit {0}) Mishap → Step → Type 0
Tells o r t = MatchResult r (λ _. o ≡ (t, None)) (λ e. o ≡ (t, Some e))
