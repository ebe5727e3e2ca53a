-- A count, and a part that must not be there. Assumes nothing: these are definitions.
use Rattle.std.specs.Prelude.{ℕ, ◌<◌, cond, not, ◌&&◌, length, nat_le}
use Rattle.subset.specs.Parts.{has}
use Rattle.bisect.specs.Judge.{Judge, Monotone}

abbrev pub ruled : (least forbidden : ℕ) → Judge
ruled least forbidden ks = cond (nat_le least (length ks) && not (has ks forbidden)) 1 0

-- it is not monotone, if the forbidden part and enough others are there
unfoldable pub RuleTurns : Type 0
RuleTurns = (least forbidden n : ℕ) → least < n → forbidden < n → Monotone (ruled least forbidden) n → ⊥
