-- What an engine works out, whatever its memory. Assumes nothing: these are definitions.
use Rattle.std.specs.Prelude.{ℕ, zero, suc, Bool, true, false, List, []}
use Rattle.bisect.specs.Judge.{Judge}
use Rattle.bisect.specs.Engine.{Act, ask, left, sound, refused, Ran, ran, still_asks, acted}

-- where it stands once it is told how many parts there are, and after an answer; and what it does there
pub record Machine (S V : Type 0) : Type 0 where
  pub begin : ℕ → S
  -- what it makes of an answer
  pub reads : ℕ → V
  pub next : S → V → S
  pub act : S → Act

-- its run against a judge: at most so many acts
unfoldable pub plays : {S V : Type 0} → Machine S V → ℕ → Judge → ℕ → S → List (List ℕ) → Ran
plays M n f zero s qs = ran qs still_asks []
plays M n f (suc k) s qs = acted n f qs (λ v qs₁. plays M n f k (M.next s (M.reads v)) qs₁) (M.act s)

abbrev pub asking : Act → Bool
asking (ask q) = true
asking (left ks) = false
asking sound = false
asking refused = false
