use Rattle.std.proofs.Common.{sym, ◌∙◌, arith}
use Rattle.inspect.proofs.Inspected.{subset_length}
use Rattle.inspect.proofs.inspector.Case.subset.Goals as goal

pub invariant_of-result : goal.invariant_of-result
invariant_of-result c =
    let s = subset_length c.args.self.parts c.args.left.now (sym c.is_subset.ensures ∙ c.if-not-is_subset.false) in
    record { rises = s.0; short = omega (arith, s.1, c.args.self.fit) }
