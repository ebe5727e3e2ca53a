use Rattle.std.proofs.Common.{ap, ◌∙◌}
use Rattle.std.proofs.lemmas.Iterator.{YieldsList-from_slice, YieldsList-from_zip}
use Rattle.std.proofs.lemmas.Iterator.Consumers.{YieldsList-end, YieldsList-from_first}
use Rattle.candidate.specs.Left.{lines_left}
use Rattle.candidate.specs.Lines.{lines}
use Rattle.candidate.proofs.Picking.{picked_by_marks}
use Rattle.candidate.proofs.candidate.Goals as goal

pub returns : goal.returns
returns c =
    let begin = ap (λ s. lines s.a.rest.now) c.into_iter-line-iterator.ensures.into_iter_gives ∙ ap (λ a. lines a.rest.now) c.zip-line-items.ensures.first ∙ c.of.ensures in
    let marks = ap (λ s. s.b.rest.now) c.into_iter-line-iterator.ensures.into_iter_gives ∙ c.zip-line-items.ensures.second.0 in
    let road = YieldsList-from_zip {s = c.into_iter-line-iterator.result} (YieldsList-from_first (λ x. x.now) lines_left (lines c.args.text.now) begin) (YieldsList-from_slice c.in_ok-marks.marks.items marks) in
    let all = YieldsList-end road c.loop-line.yielded _ c.loop-line.yielded_by _ c.next.new.self c.in-None.is c.next.ensures.steps in
    let marked = rw (c.in_ok-marks.ensures, c.count.ensures) at all.0 in
    c.loop-line.invariant ∙ picked_by_marks (λ p. (p.0.now, p.1.now)) c.loop-line.yielded (lines c.args.text.now) c.args.parts.now marked
