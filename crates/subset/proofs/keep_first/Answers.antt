use Rattle.std.proofs.Common.{arith}
use Rattle.subset.proofs.Ranks.{kept}
use Rattle.subset.proofs.keep_first.Goals as goal

pub returns-clause-after : goal.returns-clause-after
returns-clause-after c =
    kept c.args.words.now c.cut.new.words c.args.count 18446744073709551615 (omega (arith, c.ranges.count.fits)) (omega arith) c.cut.ensures.after
