use Rattle.std.proofs.Common.{◌≡◌, map, fold, None, Ok}
use Rattle.journal.specs.Replay.{read_line}
use Rattle.journal.proofs.replay.replay.Given as goal

abbrev pub invariant-loop-index : goal.invariant-loop-index
invariant-loop-index l =
    (goal.iterator-loop-index).can_next l.index-iterator × (goal.iterator-loop-index).is_finite l.index-iterator
    × (fold read_line (Ok None) (map (λ w. (w.0, w.1.now)) l.yielded) ≡ Ok l.replayed)
