-- What a reducer promises, over every judge. Each is a statement, a type whose proof is owed. Assumes nothing.
use Rattle.std.specs.Prelude.{◌≡◌, ℕ, ◌+◌, ◌*◌, ◌<◌, ◌≤◌, true, false, List, [], ◌∷◌, length}
use Rattle.subset.specs.Parts.{same, all_parts, some_of, has}
use Rattle.bisect.specs.Judge.{Judge, fails, lean, Monotone, Least, Decides}
use Rattle.bisect.specs.Engine.{Engine, Ran, ran, run_of, told_left, told_sound, told_refused, Steady}

-- a run that ended with a lean subset of the n parts
pub record Lessened (n : ℕ) (f : Judge) (R : Ran) : Type 0 where
  pub done : R.end ≡ told_left
  pub some : some_of n R.rest ≡ true
  pub slim : lean f R.rest ≡ true

-- For every number of parts and every judge: more than 4,096 parts are refused and nothing is asked; if all together don't fail, "sound" is told after
-- that one question; else the run ends with a lean subset, and More holds of it. That a run ends so says also that it never asked of what isn't there.
unfoldable pub Demands : (ℕ → Judge → Ran → Type 0) → Engine → Type 0
Demands More e =
    Steady e
    × ((n : ℕ) (f : Judge) →
    (4096 < n → (k : ℕ) × (run_of k n e f ≡ ran [] told_refused []))
    × (n ≤ 4096 → fails f (all_parts n) ≡ false → (k : ℕ) × (run_of k n e f ≡ ran (all_parts n ∷ []) told_sound []))
    × (n ≤ 4096 → fails f (all_parts n) ≡ true → (k : ℕ) × Lessened n f (run_of k n e f) × More n f (run_of k n e f)))

-- at most so many questions, whatever the judge
abbrev pub Bounded : ℕ → Judge → Ran → Type 0
Bounded n f R = length R.asked ≤ 15 * (n + 1) * (n + 1)

-- and if failing is monotone, few for what is left, within which nothing smaller fails
abbrev pub Few : ℕ → Judge → Ran → Type 0
Few n f R = Monotone f n → (length R.asked ≤ 15 * (length R.rest + 1)) × Least f n R.rest

-- right for every judge
abbrev pub Reduces : Engine → Type 0
Reduces e = Demands Bounded e

-- THE WHOLE PROMISE: right for every judge, and with few questions for monotone ones
abbrev pub Whole : Engine → Type 0
Whole e = Demands (λ n f R. Bounded n f R × Few n f R) e

-- the sharp counts: what memories of later machines have room for
abbrev pub Counts : ℕ → Judge → Ran → Type 0
Counts n f R = (length R.asked ≤ 7 * (n * n) + 20 * n + 14) × (Monotone f n → length R.asked ≤ 14 * (length R.rest + 1))

-- right for every judge, with the sharp counts: the whole promise follows
abbrev pub Sharp : Engine → Type 0
Sharp e = Demands Counts e

-- If failing is monotone, nothing smaller within a lean subset fails.
unfoldable pub LeanLeast : Type 0
LeanLeast = (n : ℕ) (f : Judge) (ks : List ℕ) → Monotone f n → some_of n ks ≡ true → lean f ks ≡ true → Least f n ks

-- A part without which nothing fails is in every lean subset.
unfoldable pub NeededLeft : Type 0
NeededLeft = (f : Judge) (x : ℕ) (ks : List ℕ) → ((js : List ℕ) → fails f js ≡ true → has js x ≡ true) → lean f ks ≡ true → has ks x ≡ true

-- If one part alone decides, the lean subset is that part.
unfoldable pub OneDecides : Type 0
OneDecides = (n x : ℕ) (f : Judge) (ks : List ℕ) → x < n → Decides f n x → some_of n ks ≡ true → lean f ks ≡ true → same ks (x ∷ []) ≡ true
