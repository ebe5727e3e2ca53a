use Rattle.std.proofs.Common.{ap, arith}
use Rattle.reduce.specs.Entry.{ActTold}
use Rattle.reduce.specs.Own.{held, moved, stored}
use Rattle.reduce.specs.State.{act_by}
use Rattle.reduce.specs.declared.Told.TheVariants.{Ask, Rest}
use Rattle.reduce.proofs.Laws.{does, trial_asks, trial_ends}
use Rattle.reduce.proofs.tries.Goals as goal

pub returns-then-index-count : goal.returns-then-index-count
unfolding ActTold stored act_by
returns-then-index-count c =
    does _ _ _ _ _ _ (ap (moved c.args.size (held c.args.memory.now)) (trial_asks c.args.index (held c.args.memory.now) (omega arith)))
    (c.write.ensures, (ap Ask c.tell_less-told.ensures.count, c.tell_less-told.ensures.told))

pub returns-else-index-count : goal.returns-else-index-count
unfolding ActTold stored act_by
returns-else-index-count c =
    does _ _ _ _ _ _ (ap (moved c.args.size (held c.args.memory.now)) (trial_ends c.args.index (held c.args.memory.now) (omega arith)))
    (c.write-else-index-count.ensures, (ap Rest c.tell-told.ensures.count, c.tell-told.ensures.told))
