use Rattle.subset.proofs.Ranks.{Cutting}
use Rattle.subset.proofs.cut.Given as goal

abbrev pub invariant-loop-word : goal.invariant-loop-word
invariant-loop-word l = Cutting l.from l.to l.initial.words l.words l.word-index l.before
