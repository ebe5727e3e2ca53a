use Rattle.std.proofs.Common.{arith}
use Rattle.candidate.proofs.Cutting.{length_lines}
use Rattle.candidate.proofs.Lines.of.Goals as goal

pub invariant_of-result : goal.invariant_of-result
invariant_of-result c = record { fits = omega (arith, length_lines c.args.text.now) }
