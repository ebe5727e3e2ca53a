-- Worked examples of where the machine stands, of runs from any start, and of the table in Examples, whose rows must not hold of anything. Assumes nothing: these are definitions and statements.
use Rattle.std.specs.Prelude.{◌≡◌, ℕ, true, false, cond, List, [], ◌∷◌, length, drop, ◌==◌, Err}
use Rattle.bisect.specs.Judge.{Judge}
use Rattle.bisect.specs.Engine.{ask, left, refused, Step, ran, told_left}
use Rattle.bisect.specs.Pass.{asked_of}
use Rattle.bisect.specs.Search.{cut_of}
use Rattle.bisect.specs.Examples.{just, always, asked_times}
use Rattle.reduce.specs.State.{idle, over, calm, many, next, act_of}
use Rattle.reduce.specs.Own.{doing}
use Rattle.reduce.specs.Entry.{ActTold, Does, Answers, Refuses}
use Rattle.reduce.specs.declared.Refusal.TheVariants.{Unfit, Torn}
use Rattle.reduce.specs.declared.Told.TheVariants.{Ask, Rest, TooMany}
use Rattle.reduce.specs.Start.{Reduced, Few, asking_first, knowing}
use Rattle.reduce.specs.Examples.{says, is_lean, stands, runs, both, odd, transcript, holds}

-- where nothing is asked, nothing is done, and an answer changes nothing
pub record IdleExamples : Type 0 where
  pub idles : act_of idle ≡ refused
  pub stays : next idle true ≡ idle
  pub after_over : next (over (1 ∷ [])) true ≡ idle
  pub after_calm : next calm true ≡ idle
  pub after_many : next many true ≡ idle

-- what a row of the table does not hold of
pub record TableExamples : Type 0 where
  pub another_verdict : holds (says both (0 ∷ 1 ∷ []) 1) ≡ false
  pub odd_more : holds (says odd (1 ∷ 2 ∷ []) 1) ≡ false
  pub loose : holds (is_lean both (0 ∷ 1 ∷ 4 ∷ [])) ≡ false
  pub another_row : holds (stands both 6 (0 ∷ 1 ∷ 4 ∷ []) (1 ∷ []) (1 ∷ 4 ∷ [])) ≡ false
  pub another_needed : holds (stands both 6 (0 ∷ 1 ∷ 4 ∷ []) (0 ∷ []) (4 ∷ [])) ≡ false
  pub another_question : holds (stands both 6 (0 ∷ 1 ∷ 3 ∷ []) (0 ∷ []) (1 ∷ 4 ∷ [])) ≡ false
  pub another_transcript : holds (runs both 6 ((0 ∷ []) ∷ transcript) (1 ∷ 4 ∷ [])) ≡ false
  pub another_first : holds (runs both 6 ((0 ∷ []) ∷ drop 1 transcript) (1 ∷ 4 ∷ [])) ≡ false
  pub another_rest : holds (runs both 6 transcript (4 ∷ [])) ≡ false
  pub healthy : holds (runs (always 0) 1 ((0 ∷ []) ∷ []) []) ≡ false

-- runs from a start
abbrev pub alone : Judge
alone ks = cond (length ks == 1) 1 0

pub record StartExamples : Type 0 where
  pub asks : asked_of (asking_first cut_of 6 both 2 (0 ∷ 1 ∷ 4 ∷ [])).asked (0 ∷ 1 ∷ 4 ∷ []) ≡ true
  pub knows : asked_of (knowing cut_of 6 both 20 (0 ∷ 1 ∷ 4 ∷ [])).asked (0 ∷ 1 ∷ 4 ∷ []) ≡ false
  pub reduced : Reduced 1 (always 1) (0 ∷ []) (ran ([] ∷ []) told_left [])
  pub unasked : Reduced 1 (always 1) (0 ∷ []) (ran [] told_left []) → ⊥
  pub outside : Reduced 2 (just (1 ∷ [])) (0 ∷ []) (ran ((1 ∷ []) ∷ [] ∷ []) told_left (1 ∷ [])) → ⊥
  pub untried : Reduced 1 (just (0 ∷ [])) (0 ∷ []) (ran [] told_left (0 ∷ [])) → ⊥
  pub aside : Reduced 2 alone (0 ∷ 1 ∷ []) (ran ((1 ∷ []) ∷ [] ∷ (0 ∷ []) ∷ []) told_left (1 ∷ [])) → ⊥
  pub twice : Reduced 1 (just (0 ∷ [])) (0 ∷ []) (ran ([] ∷ (0 ∷ []) ∷ (0 ∷ []) ∷ []) told_left (0 ∷ [])) → ⊥
  -- of two parts, one question before it was known: 82; and nothing is left, 14
  pub few : Few 2 (just (1 ∷ [])) (0 ∷ 1 ∷ []) 1 (asked_times 82 [])
  pub more : Few 2 (just (1 ∷ [])) (0 ∷ 1 ∷ []) 1 (asked_times 83 []) → ⊥
  pub sharp : Few 2 (always 1) (0 ∷ 1 ∷ []) 1 (asked_times 14 [])
  pub blunt : Few 2 (always 1) (0 ∷ 1 ∷ []) 1 (asked_times 15 []) → ⊥

-- what a step that is told must not hold of: another memory, another row, another refusal
pub record StepExamples : Type 0 where
  pub asks : ActTold (ask (1 ∷ [])) (Ask 1) (7 ∷ 8 ∷ []) (1 ∷ 8 ∷ [])
  pub leaves : ActTold (left (1 ∷ [])) (Rest 1) (7 ∷ 8 ∷ []) (1 ∷ 8 ∷ [])
  pub asks_not : ActTold (left (1 ∷ [])) (Ask 1) (7 ∷ 8 ∷ []) (1 ∷ 8 ∷ []) → ⊥
  pub other_memory : Does (doing [] refused) TooMany (1 ∷ []) [] [] → ⊥
  pub other_row : Does (doing [] refused) TooMany [] [] (1 ∷ []) → ⊥
  pub not_refused : (s : Step) (memory₁ out out₁ : List ℕ) → Answers s (Err Torn) memory₁ out out₁ → ⊥
  pub memory_kept : Refuses Torn [] [] (Err Torn) (1 ∷ []) [] → ⊥
  pub row_kept : Refuses Torn [] [] (Err Torn) [] (1 ∷ []) → ⊥
  pub other_refusal : Refuses Torn [] [] (Err Unfit) [] [] → ⊥

unfoldable pub StateExamples : Type 0
StateExamples = IdleExamples × TableExamples × StartExamples × StepExamples
