use Rattle.std.proofs.Common.{length, arith}
use Rattle.std.proofs.lemmas.Bool.{and_parts}
use Rattle.bisect.specs.Stand.{placed}
use Rattle.reduce.specs.Own.{held}
use Rattle.bisect.proofs.Asking.{placed_true}
use Rattle.reduce.specs.declared.Stage.TheVariants.{Seek}
use Rattle.reduce.proofs.Laws.{read_at}
use Rattle.reduce.proofs.Progress.read.Goals as goal

pub overflow_sub-needed : goal.overflow_sub-needed
overflow_sub-needed c =
    let at = c.in-Seek.at in
    let m = c.in-Some.memory.now in
    let sane = (read_at m c.read.result c.in_ok-read.field-0 (Seek at) c.read.ensures c.in_ok-read.was c.in-Seek.is).2 in
    let placed = placed_true at (length (held m)) 4096 (and_parts (placed at (length (held m)) 4096) _ sane).0 in
    omega (arith, placed.inside, c.count-left.ensures)
