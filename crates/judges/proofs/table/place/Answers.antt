use Rattle.std.proofs.Common.{arith, pow_mono}
use Rattle.judges.proofs.Places.{index_more, index_all}
use Rattle.judges.proofs.table.place.Goals as goal

pub returns-then-p-ge64 : goal.returns-then-p-ge64
returns-then-p-ge64 c =
    omega (arith, index_more c.args.subset.now c.loop-p.p-index c.loop-p-test.true, pow_mono c.if-p-ge64.true, c.ranges.most)

pub returns-then-step-most : goal.returns-then-step-most
returns-then-step-most c = omega (arith, index_more c.args.subset.now c.loop-p.p-index c.loop-p-test.true, c.bit-step.ensures)

pub loop-p-preserved : goal.loop-p-preserved
loop-p-preserved c =
    let more = index_more c.args.subset.now c.loop-p.p-index c.loop-p-test.true in (omega arith, omega arith)

pub returns : goal.returns
returns c = omega (arith, index_all c.args.subset.now c.loop-p.p-index c.loop-p-test.false)
