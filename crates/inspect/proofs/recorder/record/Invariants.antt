use Rattle.std.proofs.Common.{◌≡◌}
use Rattle.inspect.proofs.Recording.{Going}
use Rattle.inspect.proofs.recorder.record.Given as goal

abbrev pub invariant-loop-asked : goal.invariant-loop-asked
invariant-loop-asked g l =
    (g.J.Judge.meaning l.judge ≡ g.J.Judge.meaning l.initial.judge)
    × Going g.R.Reducer.does (g.J.Judge.meaning l.initial.judge) l.initial.reducer l.initial.told l.initial.out l._asked l.used l.reducer l.told l.row l.out
