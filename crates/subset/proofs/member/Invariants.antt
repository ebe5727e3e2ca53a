use Rattle.std.proofs.Common.{◌≡◌, ◌+◌, ◌*◌, length}
use Rattle.subset.specs.Row.{bit}
use Rattle.subset.proofs.Changes.{upto}
use Rattle.subset.proofs.member.Given as goal

abbrev pub invariant-loop-i : goal.invariant-loop-i
invariant-loop-i l = l.rank ≡ length (upto (bit l.words) (64 * l.i)) + l.left
