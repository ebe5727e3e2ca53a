use Rattle.std.proofs.Common.{◌≡◌, ◌+◌, [], ◌∷◌, map, drop}
use Rattle.subset.specs.Row.{members}
use Rattle.subset.specs.Says.{laid}
use Rattle.subset.proofs.tell_word.Given as goal

-- once what is left is written too, the places hold what they have to
abbrev pub invariant-loop-place : goal.invariant-loop-place
invariant-loop-place l =
    (members (l.word ∷ []) ≡ drop l.place-index (members (l.initial.word ∷ [])))
    × (laid l.place-items l.place-index (map (λ b. l.base + b) (members (l.word ∷ []))) ≡ map (λ b. l.base + b) (members (l.initial.word ∷ [])))
