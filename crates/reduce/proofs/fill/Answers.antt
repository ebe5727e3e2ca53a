use Rattle.std.proofs.Common.{arith}
use Rattle.std.proofs.lemmas.Bool.{and_from, le-leb}
use Rattle.reduce.proofs.Memory.{held_put}
use Rattle.reduce.proofs.Stored.{row_length}
use Rattle.reduce.proofs.fill.Goals as goal

pub returns : goal.returns
returns c =
    let m = c.args.memory.now in
    let long = row_length m c.told-memory in
    held_put _ m c.fill.new.words _ c.told-memory (and_from _ _ (le-leb _ 64 (omega arith)) (le-leb c.args.n _ (omega (arith, c.requires)))) c.fill.ensures.after
