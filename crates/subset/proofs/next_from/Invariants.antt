use Rattle.std.proofs.Common.{◌≡◌, ℕ, ◌*◌, ◌<◌, false}
use Rattle.subset.proofs.Find.{from_on}
use Rattle.subset.proofs.next_from.Given as goal

abbrev pub invariant-loop-i : goal.invariant-loop-i
invariant-loop-i l = (q : ℕ) → q < 64 * l.i → from_on l.words l.part q ≡ false
