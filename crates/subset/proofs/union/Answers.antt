use Rattle.std.proofs.Common.{◌≡◌, ◌==◌, length, true, get_or, arith, w64, Fits, rules}
use Rattle.subset.proofs.Blocks.{joining_more, join_done}
use Rattle.subset.proofs.Words.{done}
use Rattle.subset.proofs.union.Goals as goal

pub loop-i-preserved : goal.loop-i-preserved
loop-i-preserved c =
    let sw : Fits w64 (get_or c.loop-i.words c.loop-i.i 0) = search rules in
    let sy : Fits w64 (get_or c.args.others.now c.loop-i.i 0) = search rules in
    joining_more _ _ c.loop-i.words c.loop-i.i (omega arith) sw.fits sy.fits c.loop-i.invariant

pub returns-clause-after : goal.returns-clause-after
returns-clause-after c =
    let e : (length c.args.others.now == length c.args.words.now) ≡ true = search rules in
    done _ c.args.words.now _ _ e (join_done c.args.words.now c.args.others.now c.loop-i.words c.loop-i.i c.loop-i.auto.words (omega arith) c.loop-i.invariant)
