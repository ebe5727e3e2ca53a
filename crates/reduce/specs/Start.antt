-- The machine from any start: any subset, asked of first or known to fail. Assumes nothing: these are definitions and statements.
use Rattle.std.specs.Prelude.{◌≡◌, ℕ, ◌+◌, ◌*◌, ◌<◌, ◌≤◌, true, false, ◌⊎◌, List, [], ◌∷◌, length}
use Rattle.subset.specs.Parts.{some_of, without, has, within}
use Rattle.bisect.specs.Judge.{Judge, fails, Monotone}
use Rattle.bisect.specs.Engine.{Ran, ran, told_sound}
use Rattle.bisect.specs.Machine.{plays}
use Rattle.bisect.specs.Pass.{Inner, asked_of, Repeats, StrictlyWithin}
use Rattle.bisect.specs.Promise.{Lessened}
use Rattle.bisect.specs.Search.{Pass, fresh, cut_of}
use Rattle.reduce.specs.State.{State, idle, first, seek, try, over, calm, many, less, go_on, next, reducing_by}

-- how a run from ks ends, which fail
pub record Reduced (n : ℕ) (f : Judge) (ks : List ℕ) (R : Ran) : Type 0 where
  pub lessened : Lessened n f R
  pub inside : within R.rest ks ≡ true
  -- the witness: what is left was asked of, unless it is ks, and so was each subset that lacks one part of it
  pub came : (asked_of R.asked R.rest ≡ true) ⊎ (R.rest ≡ ks)
  pub each : (x : ℕ) → has R.rest x ≡ true → (asked_of R.asked (without x R.rest) ≡ true) × (fails f (without x R.rest) ≡ false)
  -- nested: what is left lies within all that failed, and what was asked before did not fail
  pub nest : (q : List ℕ) → asked_of R.asked q ≡ true → fails f q ≡ true → within R.rest q ≡ true
  pub repeats : Repeats f R.asked

-- and so many questions are asked, c of them before it was known that ks fail
pub record Few (n : ℕ) (f : Judge) (ks : List ℕ) (c : ℕ) (R : Ran) : Type 0 where
  pub all : length R.asked ≤ c + (7 * (length ks * length ks) + 20 * length ks + 13)
  pub one : Monotone f n → length R.asked ≤ 14 * (length R.rest + 1)

-- a run from ks that asks of them first, and one that knows that they fail
abbrev pub asking_first : (cuts : Pass → ℕ) → ℕ → Judge → ℕ → List ℕ → Ran
asking_first cuts n f k ks = plays (reducing_by cuts) n f k (first ks) []

abbrev pub knowing : (cuts : Pass → ℕ) → ℕ → Judge → ℕ → List ℕ → Ran
knowing cuts n f k ks = plays (reducing_by cuts) n f k (go_on (fresh ks)) []

-- FROM ANY START, whatever the cuts are
unfoldable pub FromCuts : Type 0
FromCuts =
    (cuts : Pass → ℕ) → Inner cuts → (n : ℕ) (f : Judge) (ks : List ℕ) → length ks ≤ 4096 → some_of n ks ≡ true →
    (fails f ks ≡ false → asking_first cuts n f 2 ks ≡ ran (ks ∷ []) told_sound [])
    × (fails f ks ≡ true → (k : ℕ) × Reduced n f ks (asking_first cuts n f k ks) × (asked_of (asking_first cuts n f k ks).asked ks ≡ true))
    × (fails f ks ≡ true → (k : ℕ) × Reduced n f ks (knowing cuts n f k ks))

-- with the cuts that are made
unfoldable pub FromAny : Type 0
FromAny =
    (n : ℕ) (f : Judge) (ks : List ℕ) → length ks ≤ 4096 → some_of n ks ≡ true → fails f ks ≡ true →
    ((k : ℕ) × Reduced n f ks (asking_first cut_of n f k ks) × Few n f ks 1 (asking_first cut_of n f k ks))
    × ((k : ℕ) × Reduced n f ks (knowing cut_of n f k ks) × Few n f ks 0 (knowing cut_of n f k ks))

-- the subset that is held
abbrev pub current : State → List ℕ
current idle = []
current (first ks) = ks
current (seek p) = p.held
current (try i ks) = ks
current (over ks) = ks
current calm = []
current many = []

-- NESTED: a trial's question lies strictly within what is held; if it fails, it is what is held next, else that stays
unfoldable pub NestedTrial : Type 0
NestedTrial =
    (i : ℕ) (ks : List ℕ) → i < length ks →
    StrictlyWithin (less i ks) ks × (current (next (try i ks) true) ≡ less i ks) × (current (next (try i ks) false) ≡ ks)
