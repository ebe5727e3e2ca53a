use Rattle.std.proofs.Common.{arith, rules}
use Rattle.rig.proofs.Trying.{shows}
use Rattle.rig.proofs.desk.Desk.try_reducer.Goals as goal

pub returns-clause-tried : goal.returns-clause-tried
returns-clause-tried g c =
    let shown = shows c.inspected.new.self.memory c.inspected.new.self.left _ _ c.inspected.ensures.same c.is_known-monotone.ensures.same (omega arith) (omega arith)
    c.in_ok-left.ensures.whole c.is_known-monotone.ensures.known in (
      search (rules, shown),
      record { from = c.new.result; to = c.inspected.new.reducer; blank = c.new.ensures; inspected = c.in_ok-inspected.ensures.found },
    )
