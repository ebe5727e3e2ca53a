use Rattle.std.proofs.Common.{◌≡◌, ◌-◌, true}
use Rattle.reduce.specs.Entry.{fits}
use Rattle.judges.specs.Driver.{most}
use Rattle.judges.proofs.Stages.{Goes}
use Rattle.judges.proofs.driver.run.Given as goal

abbrev pub invariant-loop-told : goal.invariant-loop-told
invariant-loop-told g l =
    (g.J.Judge.meaning l.judge ≡ g.J.Judge.meaning l.fn.judge)
    × (fits l.fn.memory l.fn.out ≡ true)
    × Goes l.fn.parts (g.J.Judge.meaning l.fn.judge) l.fn.out l.told l.asked l.memory l.out

abbrev pub decreases-loop-told : goal.decreases-loop-told
decreases-loop-told g l = most - l.asked
