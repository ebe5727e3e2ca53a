use Rattle.std.proofs.Common.{◌∙◌, arith}
use Rattle.subset.proofs.Words.{members_le}
use Rattle.reduce.specs.Own.{row}
use Rattle.reduce.proofs.Memory.{cut_one}
use Rattle.reduce.proofs.Stored.{row_length}
use Rattle.reduce.proofs.leave.Goals as goal

pub overflow_add-rank : goal.overflow_add-rank
overflow_add-rank c =
    let m = c.args.memory.now in
    record { fits = omega (arith, members_le (row m), row_length m c.told-memory, c.requires) }

pub returns : goal.returns
returns c = c.leave_between.ensures ∙ cut_one (row c.args.memory.now) c.args.rank c.requires
