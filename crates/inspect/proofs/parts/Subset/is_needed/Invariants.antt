use Rattle.std.proofs.Common.{◌≡◌, not, drop}
use Rattle.std.specs.List.{list_all}
use Rattle.subset.specs.Parts.{without}
use Rattle.bisect.specs.Judge.{fails}
use Rattle.inspect.specs.Inspector.{all_needed}
use Rattle.inspect.proofs.parts.Subset.is_needed.Given as goal

abbrev pub invariant-loop-p : goal.invariant-loop-p
invariant-loop-p g l =
    (g.J.Judge.meaning l.judge ≡ g.J.Judge.meaning l.initial.judge)
    × (list_all (λ k. not (fails (g.J.Judge.meaning l.initial.judge) (without k l.self.parts.now))) (drop l.p-index l.self.parts.now)
    ≡ all_needed (g.J.Judge.meaning l.initial.judge) l.self.parts.now)
