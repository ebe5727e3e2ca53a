use Rattle.std.proofs.Common.{◌≡◌}
use Rattle.std.specs.List.{list_all}
use Rattle.inspect.specs.Inspector.{rightly}
use Rattle.judges.specs.Spelled.{lists_left, lists_of}
use Rattle.inspect.proofs.inspector.heard_rightly.Given as goal

abbrev pub invariant-loop-exchange : goal.invariant-loop-exchange
invariant-loop-exchange g l =
    (goal.iterator-loop-exchange g).can_next l.exchange-iterator
    × (goal.iterator-loop-exchange g).is_finite l.exchange-iterator
    × (g.J.Judge.meaning l.judge ≡ g.J.Judge.meaning l.initial.judge)
    × (list_all (rightly (g.J.Judge.meaning l.initial.judge)) (lists_left l.exchange-iterator) ≡ list_all (rightly (g.J.Judge.meaning l.initial.judge)) (lists_of l.exchanges))
