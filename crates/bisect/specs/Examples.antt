-- Worked examples of the words that the promises are made of, the wrong beside the right. Assumes nothing: these are definitions and statements.
use Rattle.std.specs.Prelude.{◌≡◌, ℕ, ◌+◌, ◌-◌, ◌<◌, ◌≤◌, true, false, cond, ◌&&◌, List, [], ◌∷◌, map, length, replicate, ◌==◌, slice_index_or}
use Rattle.subset.specs.Parts.{same, all_parts, rising, some_of, has}
use Rattle.bisect.specs.Judge.{Judge, fails, lean, Monotone, Least, Decides}
use Rattle.bisect.specs.Engine.{Event, parts, said, Act, ask, left, sound, refused, Engine, Ran, ran, run_of, told_left, told_sound, told_refused, still_asks, strayed, Steady}
use Rattle.bisect.specs.Promise.{Lessened, Bounded, Few, Counts, Reduces, Whole, Sharp}
use Rattle.bisect.specs.Apart.{Decider, answers}
use Rattle.bisect.specs.Search.{Pass, place, pass, cut_of}
use Rattle.bisect.specs.Pass.{progress, pass_of, Inner, asked_of, Repeats, StrictlyWithin, before, beyond, Passed}

-- ---- judges
-- it fails what has 1 and 4; what is just js; what is a subset of so many parts
abbrev pub both : Judge
both ks = cond (has ks 1 && has ks 4) 1 0

abbrev pub just : List ℕ → Judge
just js ks = cond (same js ks) 1 0

abbrev pub any_of : ℕ → Judge
any_of n ks = cond (some_of n ks) 1 0

-- it says always the same
abbrev pub always : ℕ → Judge
always v ks = v

pub record JudgeExamples : Type 0 where
  pub no : fails (always 0) [] ≡ false
  pub yes : fails (always 1) [] ≡ true
  pub unclear : fails (always 2) [] ≡ false
  pub slim : lean both (1 ∷ 4 ∷ []) ≡ true
  pub loose : lean both (1 ∷ 3 ∷ 4 ∷ []) ≡ false
  pub healthy : lean both (1 ∷ []) ≡ false
  pub grows : Monotone both 5
  pub shrinks : Monotone (just (1 ∷ [])) 2 → ⊥
  -- only subsets of the n parts count
  pub unordered : Monotone (just (1 ∷ 0 ∷ [])) 2
  pub apart : Monotone (any_of 2) 2
  pub least : Least both 5 (1 ∷ 4 ∷ [])
  pub smaller : Least both 5 (1 ∷ 3 ∷ 4 ∷ []) → ⊥
  pub alone : (n x : ℕ) → Decides (Decider x) n x
  pub two : Decides both 5 1 → ⊥
  pub subsets : Decides (λ ks. cond (some_of 2 ks && has ks 0) 1 0) 2 0
  pub decider : answers (Decider 1) ((0 ∷ 2 ∷ []) ∷ (0 ∷ 1 ∷ []) ∷ []) ≡ 0 ∷ 1 ∷ []

-- ---- engines and their runs
-- it does this first, and that after any answer
abbrev pub first_then : Act → Act → Engine
first_then a b = record { start = 0 ∷ []; step = λ m ev. record { memory = 1 ∷ []; act = cond (slice_index_or m 0 0 == 0) a b } }

-- it asks of all parts, and tells the number that it hears as the part that is left
abbrev pub echoed : Event → Act
echoed (parts n) = ask (all_parts n)
echoed (said v) = left (v ∷ [])

abbrev pub echo : Engine
echo = record { start = []; step = λ m ev. record { memory = m; act = echoed ev } }

-- it only changes its memory
abbrev pub changing : (start : List ℕ) → (List ℕ → List ℕ) → Engine
changing m₀ g = record { start = m₀; step = λ m ev. record { memory = g m; act = refused } }

pub record RunExamples : Type 0 where
  pub ends : rising (told_left ∷ told_sound ∷ told_refused ∷ still_asks ∷ strayed ∷ []) ≡ true
  pub none : run_of 0 3 (first_then sound sound) both ≡ ran [] still_asks []
  pub asks : run_of 2 3 (first_then (ask (0 ∷ [])) (ask (2 ∷ []))) both ≡ ran ((2 ∷ []) ∷ (0 ∷ []) ∷ []) still_asks []
  pub leaves : run_of 2 3 (first_then (ask (0 ∷ [])) (left (2 ∷ []))) both ≡ ran ((0 ∷ []) ∷ []) told_left (2 ∷ [])
  pub calm : run_of 2 3 (first_then (ask (0 ∷ [])) sound) both ≡ ran ((0 ∷ []) ∷ []) told_sound []
  pub refuses : run_of 2 3 (first_then (ask (0 ∷ [])) refused) both ≡ ran ((0 ∷ []) ∷ []) told_refused []
  pub strays : run_of 2 3 (first_then (ask (0 ∷ [])) (ask (3 ∷ []))) both ≡ ran ((0 ∷ []) ∷ []) strayed []
  pub falls : run_of 2 3 (first_then (ask (0 ∷ [])) (ask (2 ∷ 1 ∷ []))) both ≡ ran ((0 ∷ []) ∷ []) strayed []
  pub hears : run_of 2 3 echo (λ ks. length ks + 7) ≡ ran ((0 ∷ 1 ∷ 2 ∷ []) ∷ []) told_left (10 ∷ [])
  pub longest : Steady (changing (replicate 65536 0) (λ m. m))
  pub too_long : Steady (changing (replicate 65537 0) (λ m. m)) → ⊥
  pub begins_with : Steady (changing (1 ∷ []) (λ m. m)) → ⊥
  pub longer : Steady (changing [] (λ m. 0 ∷ m)) → ⊥
  pub too_large : Steady (changing (0 ∷ []) (map (λ x. 18446744073709551616))) → ⊥

-- ---- the promises
-- a run that asked so often, and left ks
abbrev pub asked_times : ℕ → List ℕ → Ran
asked_times k ks = ran (replicate k []) told_left ks

pub record PromiseExamples : Type 0 where
  pub lessened : Lessened 2 (always 1) (ran [] told_left [])
  pub unended : Lessened 2 (always 1) (ran [] still_asks []) → ⊥
  pub loose : Lessened 2 (always 1) (ran [] told_left (0 ∷ [])) → ⊥
  pub outside : Lessened 2 (just (2 ∷ [])) (ran [] told_left (2 ∷ [])) → ⊥
  -- one part, 60 questions
  pub bounded : Bounded 1 (always 1) (asked_times 60 [])
  pub unbounded : Bounded 1 (always 1) (asked_times 61 []) → ⊥
  -- nothing is left, 15 questions
  pub few : Few 1 (always 1) (asked_times 15 [])
  pub more : Few 1 (always 1) (asked_times 16 []) → ⊥
  pub smaller : Few 1 (always 1) (asked_times 15 (0 ∷ [])) → ⊥
  -- two parts, 82 questions; and nothing is left, 14
  pub counted : Counts 2 (just (1 ∷ [])) (asked_times 82 [])
  pub uncounted : Counts 2 (just (1 ∷ [])) (asked_times 83 []) → ⊥
  pub sharp : Counts 2 (always 1) (asked_times 14 [])
  pub blunt : Counts 2 (always 1) (asked_times 15 []) → ⊥
  -- what an engine does that keeps them
  pub steady : (e : Engine) → Reduces e → Steady e
  pub many : (e : Engine) (n : ℕ) (f : Judge) → Reduces e → 4096 < n → (k : ℕ) × (run_of k n e f ≡ ran [] told_refused [])
  pub healthy : (e : Engine) (n : ℕ) (f : Judge) → Reduces e → n ≤ 4096 → fails f (all_parts n) ≡ false → (k : ℕ) × (run_of k n e f ≡ ran (all_parts n ∷ []) told_sound [])
  pub failing : (e : Engine) (n : ℕ) (f : Judge) → Reduces e → n ≤ 4096 → fails f (all_parts n) ≡ true → (k : ℕ) × Lessened n f (run_of k n e f) × Bounded n f (run_of k n e f)
  pub whole : (e : Engine) (n : ℕ) (f : Judge) → Whole e → n ≤ 4096 → fails f (all_parts n) ≡ true → (k : ℕ) × Lessened n f (run_of k n e f) × Few n f (run_of k n e f)
  pub whole_reduces : (e : Engine) → Whole e → Reduces e
  pub sharp_whole : (e : Engine) → Sharp e → Whole e

-- ---- a pass
pub record PassExamples : Type 0 where
  pub made : Inner cut_of
  pub lowest : Inner (λ p. p.at.lo)
  pub highest : Inner (λ p. p.at.row - 1)
  pub past : Inner (λ p. p.at.row) → ⊥
  pub below : Inner (λ p. 0) → ⊥
  pub asked : asked_of ((0 ∷ []) ∷ (1 ∷ []) ∷ []) (1 ∷ []) ≡ true
  pub unasked : asked_of ((0 ∷ []) ∷ (1 ∷ []) ∷ []) (0 ∷ 1 ∷ []) ≡ false
  pub again : Repeats (always 0) ((1 ∷ []) ∷ (1 ∷ []) ∷ [])
  pub once : Repeats (always 1) ((0 ∷ []) ∷ (1 ∷ []) ∷ [])
  pub twice : Repeats (always 1) ((0 ∷ []) ∷ (1 ∷ []) ∷ (1 ∷ []) ∷ []) → ⊥
  pub strictly : StrictlyWithin (1 ∷ []) (1 ∷ 2 ∷ [])
  pub evenly : StrictlyWithin (1 ∷ []) (1 ∷ []) → ⊥
  pub aside : StrictlyWithin (3 ∷ []) (1 ∷ 2 ∷ []) → ⊥
  pub below_two : before 2 (1 ∷ 2 ∷ 3 ∷ []) ≡ 1 ∷ []
  pub above_two : beyond 2 (1 ∷ 2 ∷ 3 ∷ []) ≡ 3 ∷ []
  pub asks_none : (pass_of (λ p. p.at.lo) (always 1) 2 (0 ∷ 1 ∷ [])).asked ≡ [] ∷ []
  pub keeps_none : (pass_of (λ p. p.at.lo) (always 1) 2 (0 ∷ 1 ∷ [])).now.held ≡ []

-- it fails each part that is alone
abbrev pub alone : Judge
alone ks = cond (length ks == 1) 1 0

-- a pass that has such a row, and holds ks
abbrev pub at_row : ℕ → List ℕ → Pass
at_row row ks = pass (place 0 row 2 1 0) ks

pub record PassedExamples : Type 0 where
  pub passed : Passed 2 (always 1) (0 ∷ 1 ∷ []) (progress (at_row 0 []) ([] ∷ []))
  pub unended : Passed 2 (always 1) (0 ∷ 1 ∷ []) (progress (at_row 1 []) ([] ∷ [])) → ⊥
  pub no_subset : Passed 1 (just (1 ∷ [])) (1 ∷ []) (progress (at_row 0 (1 ∷ [])) ([] ∷ [])) → ⊥
  pub outside : Passed 2 (just (1 ∷ [])) (0 ∷ []) (progress (at_row 0 (1 ∷ [])) ((1 ∷ []) ∷ [])) → ⊥
  pub healthy : Passed 2 (always 0) (0 ∷ []) (progress (at_row 0 []) ([] ∷ [])) → ⊥
  pub unasked : Passed 2 (always 1) (0 ∷ 1 ∷ []) (progress (at_row 0 []) []) → ⊥
  pub not_shown : Passed 2 (just (0 ∷ [])) (0 ∷ []) (progress (at_row 0 (0 ∷ [])) []) → ⊥
  pub aside : Passed 2 alone (0 ∷ 1 ∷ []) (progress (at_row 0 (1 ∷ [])) ((1 ∷ []) ∷ [] ∷ (0 ∷ []) ∷ [])) → ⊥
  pub again : Passed 2 (always 1) (0 ∷ 1 ∷ []) (progress (at_row 0 []) ([] ∷ [] ∷ [])) → ⊥
  -- of two parts, three questions
  pub slow : Passed 2 (always 1) (0 ∷ 1 ∷ []) (progress (at_row 0 []) ([] ∷ (0 ∷ []) ∷ (1 ∷ []) ∷ (0 ∷ 1 ∷ []) ∷ [])) → ⊥

unfoldable pub Examples : Type 0
Examples = JudgeExamples × RunExamples × PromiseExamples × PassExamples × PassedExamples
