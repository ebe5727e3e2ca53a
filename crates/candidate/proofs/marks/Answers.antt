use Rattle.std.proofs.Common.{false, arith}
use Rattle.std.proofs.lemmas.List.{take_all}
use Rattle.std.proofs.lemmas.List.FromFn.{fill_by_all}
use Rattle.candidate.specs.Lines.{has}
use Rattle.candidate.proofs.marks.Goals as goal

pub returns : goal.returns
returns c =
    let marks = c.loop-part.marks in
    fill_by_all (has c.args.parts.now) marks.items _ false (omega (arith, marks.ok.0))
    (λ k h. rw (take_all _ _ c.loop-part-test.false) at c.loop-part.invariant.1 k h)
