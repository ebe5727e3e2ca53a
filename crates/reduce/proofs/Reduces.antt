-- The engine over its memory keeps the promise.
use Rattle.std.proofs.Common.{◌≡◌, ℕ, suc, ◌+◌, ◌*◌, ◌<◌, ◌≤◌, true, [], length, refl, ◌∙◌, arith}
use Rattle.std.proofs.lemmas.Bool.{le-leb, lt-leb}
use Rattle.subset.specs.Parts.{all_parts}
use Rattle.subset.proofs.Lists.{length_all}
use Rattle.subset.proofs.Changes.{some_of_all}
use Rattle.bisect.specs.Judge.{Judge, fails}
use Rattle.bisect.specs.Engine.{refused, ran, run_of, told_refused}
use Rattle.bisect.specs.Machine.{plays}
use Rattle.bisect.specs.Promise.{Demands, Sharp, Whole}
use Rattle.bisect.specs.Search.{cut_of}
use Rattle.bisect.proofs.Demand.{sharp_whole}
use Rattle.bisect.proofs.Follow.{run_follows, plays_stop}
use Rattle.reduce.specs.State.{first, many, begin, act_by, reducing}
use Rattle.reduce.specs.Start.{Reduced, Few}
use Rattle.reduce.specs.Own.{own}
use Rattle.reduce.proofs.Runs.{fuel, from_sound, from_first}
use Rattle.reduce.proofs.Stored.{Stands, follows}
use Rattle.reduce.proofs.Steady.{steady}

module _ (n : ℕ) (f : Judge) where
  run_plays : (k : ℕ) → run_of k n own f ≡ plays reducing n f k (begin n) []
  run_plays k = run_follows reducing own Stands follows n f k

  run_many : 4096 < n → run_of 1 n own f ≡ ran [] told_refused []
  unfolding begin act_by
  run_many h = run_plays 1 ∙ rw (lt-leb n 4096 h) (plays_stop reducing n f 0 many [] refused refl refl)

  run_first : (k : ℕ) → n ≤ 4096 → run_of k n own f ≡ plays reducing n f k (first (all_parts n)) []
  unfolding begin
  run_first k h = run_plays k ∙ rw (le-leb n 4096 h)

  small : n ≤ 4096 → length (all_parts n) ≤ 4096
  small h = omega (arith, length_all n)

  run_fails : n ≤ 4096 → fails f (all_parts n) ≡ true
      → (k : ℕ) × Reduced n f (all_parts n) (run_of k n own f) × Few n f (all_parts n) 1 (run_of k n own f)
  run_fails h e =
      let w = from_first n f (all_parts n) (small h) (some_of_all n n (omega arith)) e in
      let k = suc (fuel (all_parts n)) in
      (k, rw (run_first k h) w.0, rw (run_first k h) w.1)

pub sharp : Sharp own
unfolding Demands
sharp = (
  steady,
  λ n f. (
    λ h. (1, run_many n f h),
    λ h e. (2, run_first n f 2 h ∙ from_sound n f (all_parts n) (small n f h) (some_of_all n n (omega arith)) cut_of e),
    λ h e.
        let (k, w, c) = run_fails n f h e in
        let all : length (run_of k n own f).asked ≤ 1 + (7 * (n * n) + 20 * n + 13) = rw (length_all n) at c.all in
        (k, w.lessened, (omega (arith, all), c.one)),
  ),
)

pub whole : Whole own
whole = sharp_whole own sharp
