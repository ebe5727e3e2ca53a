use Rattle.std.proofs.Common.{◌≡◌, ◌*◌, ◌&&◌, nat_le, length, true, arith, rules}
use Rattle.subset.specs.Says.{few}
use Rattle.subset.proofs.Blocks.{fill_done}
use Rattle.subset.proofs.Words.{done}
use Rattle.subset.proofs.fill.Goals as goal

pub returns-clause-after : goal.returns-clause-after
returns-clause-after c =
    let fit : (few c.args.words.now && nat_le c.args.parts (64 * length c.args.words.now)) ≡ true = search rules in
    done _ c.args.words.now _ _ fit (fill_done c.loop-i.words _ c.args.parts c.loop-i.auto.words (omega (arith, c.if-parts-words.false)) (λ k l. c.loop-i.invariant k (omega arith)))
