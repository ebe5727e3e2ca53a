-- What is demanded of a run's end may be weakened; so the sharp counts give the whole promise.
use Rattle.std.proofs.Common.{rules, ℕ, ◌+◌, ◌*◌, ◌≤◌, arith}
use Rattle.bisect.specs.Judge.{Judge}
use Rattle.bisect.specs.Engine.{Engine, Ran}
use Rattle.bisect.specs.Promise.{Lessened, Demands, Sharp, Whole, LeanLeast}
use Rattle.bisect.proofs.Least.{lean_least}

pub demands_weaker : (More Less : ℕ → Judge → Ran → Type 0) (e : Engine)
    → ((n : ℕ) (f : Judge) (R : Ran) → Lessened n f R → n ≤ 4096 → More n f R → Less n f R) → Demands More e → Demands Less e
unfolding Demands
demands_weaker More Less e weaker (steady, d) = (
  steady,
  λ n f. let (many, none, some) = d n f in (many, none, λ h g. let (k, w, m) = some h g in (k, w, weaker n f _ w h m)),
)

-- the sharp count is below the bound of the whole promise
pub square : (n : ℕ) → 7 * (n * n) + 20 * n + 14 ≤ 15 * (n + 1) * (n + 1)
square n = search rules

pub sharp_whole : (e : Engine) → Sharp e → Whole e
unfolding LeanLeast
sharp_whole e =
    demands_weaker _ _ e (λ n f R w h (all, one). (omega (arith, all, square n), λ m. (omega (arith, one m), lean_least n f _ m w.some w.slim)))
