use Rattle.std.proofs.Common.{◌≡◌, cond, []}
use Rattle.std.specs.List.{flat_map}
use Rattle.candidate.proofs.candidate.Given as goal

abbrev pub invariant-loop-line : goal.invariant-loop-line
invariant-loop-line l = l.bytes.items ≡ flat_map (λ p. cond p.1.now p.0.now []) l.yielded
