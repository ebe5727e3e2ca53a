use Rattle.std.proofs.Common.{◌≡◌, ◌*◌, ◌++◌, length, drop}
use Rattle.subset.specs.Row.{bit}
use Rattle.subset.proofs.Changes.{upto}
use Rattle.subset.proofs.tell.Given as goal

abbrev pub invariant-loop-i : goal.invariant-loop-i
invariant-loop-i l = (l.told ≡ length (upto (bit l.words) (64 * l.i))) × (l.out ≡ upto (bit l.words) (64 * l.i) ++ drop l.told l.initial.out)
