use Rattle.std.proofs.Common.{◌≡◌, map, Some}
use Rattle.journal.specs.Line.{numbers}
use Rattle.journal.proofs.line.numbers_in.Given as goal

abbrev pub invariant-loop-word : goal.invariant-loop-word
invariant-loop-word l =
    (goal.iterator-loop-word).can_next l.word-iterator × (goal.iterator-loop-word).is_finite l.word-iterator
    × (numbers (map (λ w. w.now) l.yielded) ≡ Some l.numbers.items)
