use Rattle.std.proofs.Common.{ap}
use Rattle.bisect.specs.Search.{pass}
use Rattle.reduce.specs.Entry.{ActTold}
use Rattle.reduce.specs.Own.{held, moved, stored}
use Rattle.reduce.specs.State.{act_by}
use Rattle.reduce.specs.declared.Told.TheVariants.{Ask}
use Rattle.reduce.proofs.Laws.{does, pass_asks, pass_ends}
use Rattle.reduce.proofs.seeks.Goals as goal

pub returns-then-at-gt0 : goal.returns-then-at-gt0
unfolding ActTold stored act_by
returns-then-at-gt0 c =
    does _ _ _ _ _ _ (ap (moved c.args.size (held c.args.memory.now)) (pass_asks (pass c.args.at (held c.args.memory.now)) c.if-at-gt0.true))
    (c.write.ensures, (ap Ask c.tell_cut-told.ensures.count, c.tell_cut-told.ensures.told))

pub returns : goal.returns
returns c =
    does _ _ _ _ _ _ (ap (moved c.args.size (held c.args.memory.now)) (pass_ends (pass c.args.at (held c.args.memory.now)) c.if-at-gt0.false))
    c.tries.ensures
