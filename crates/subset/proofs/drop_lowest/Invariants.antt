use Rattle.std.proofs.Common.{◌≡◌, [], ◌∷◌, drop}
use Rattle.subset.specs.Row.{members}
use Rattle.subset.proofs.drop_lowest.Given as goal

abbrev pub invariant-loop : goal.invariant-loop
invariant-loop l = members (l.word ∷ []) ≡ drop l.counter (members (l.initial.word ∷ []))
