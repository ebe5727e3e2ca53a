use Rattle.subset.proofs.Blocks.{Joining}
use Rattle.subset.proofs.union.Given as goal

abbrev pub invariant-loop-i : goal.invariant-loop-i
invariant-loop-i l = Joining l.initial.words l.others l.words l.i
