use Rattle.std.proofs.Common.{◌≡◌, length, true, ap, arith, rules}
use Rattle.subset.specs.Parts.{all_parts}
use Rattle.subset.specs.Says.{few}
use Rattle.subset.proofs.Blocks.{told_word, upto_all}
use Rattle.subset.proofs.Find.{rank_found, rank_none}
use Rattle.subset.proofs.member.Goals as goal

pub loop-i-init : goal.loop-i-init
unfolding all_parts
loop-i-init c = omega arith

pub returns-then-left-here : goal.returns-then-left-here
returns-then-left-here c =
    let fit : few c.args.words.now ≡ true = search rules in
    rw fit (rank_found c.args.words.now c.loop-i.i c.args.rank c.loop-i.left c.drop_lowest-rest.result c.loop-i-test.true c.loop-i.invariant
    (omega (arith, c.if-left-here.true, c.ones-here.ensures.count)) c.drop_lowest-rest.type_inv c.drop_lowest-rest.ensures)

pub loop-i-preserved : goal.loop-i-preserved
loop-i-preserved c =
    omega (arith, told_word c.args.words.now c.loop-i.i, c.loop-i.invariant, c.ones-here.ensures.count, c.if-left-here.false)

pub returns : goal.returns
returns c =
    let fit : few c.args.words.now ≡ true = search rules in
    rw fit (rank_none c.args.words.now c.args.rank (omega (arith, ap length (upto_all c.args.words.now c.loop-i.i (omega arith)), c.loop-i.invariant)))
