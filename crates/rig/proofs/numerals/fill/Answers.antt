use Rattle.std.proofs.Common.{rules}
use Rattle.rig.proofs.Powers.{rest_more}
use Rattle.rig.proofs.numerals.fill.Goals as goal

pub loop-digit-preserved : goal.loop-digit-preserved
loop-digit-preserved c = search (rules, rest_more)
