use Rattle.std.proofs.Common.{length, sym, ap, ◌∙◌, arith, rules}
use Rattle.std.proofs.lemmas.List.{length_push, drop_all}
use Rattle.std.proofs.lemmas.List.FromFn.{length-enumerate_from}
use Rattle.std.proofs.lemmas.Iterator.Consumers.{YieldsList-end, YieldsList-turn}
use Rattle.candidate.specs.Lines.{lines}
use Rattle.lessen.specs.Replay.{heard_from}
use Rattle.lessen.proofs.Replaying.{heard_goes, heard_stops, numbered, placed}
use Rattle.lessen.proofs.replay.hear_all.Goals as goal

pub returns : goal.returns
returns c =
    let ls = lines c.args.answers.now in
    let k = length c.loop-place.yielded in
    let road = numbered c.into_iter-place-iterator.result _ _ ls c.into_iter-place-iterator.ensures.into_iter_gives c.enumerate-place-items.ensures.source c.of.ensures c.enumerate-place-items.ensures.count in
    let all = YieldsList-end road c.loop-place.yielded _ c.loop-place.yielded_by _ c.next.new.self c.in-None.is c.next.ensures.steps in
    sym c.loop-place.invariant ∙ ap (λ v. heard_from k c.loop-place.session v) (drop_all k ls (omega (arith, all.1, length-enumerate_from 0 ls)))

pub loop-place-preserved : goal.loop-place-preserved
loop-place-preserved c =
    let ls = lines c.args.answers.now in
    let k = length c.loop-place.yielded in
    let road = numbered c.into_iter-place-iterator.result _ _ ls c.into_iter-place-iterator.ensures.into_iter_gives c.enumerate-place-items.ensures.source c.of.ensures c.enumerate-place-items.ensures.count in
    let turn = YieldsList-turn road c.loop-place.yielded _ c.loop-place.yielded_by _ c.next.new.self (c.in-Some.place, c.in-Some.line) c.in-Some.is c.next.ensures.steps in
    let at = placed ls k c.in-Some.place c.in-Some.line.now turn.0 turn.1 in
    let on = heard_goes ls k c.loop-place.session c.in-Some.line.now at.0 at.2 c.hear.new.session (rw at.1 at c.in_ok-hear.ensures) in
    rw (length_push c.loop-place.yielded (c.in-Some.place, c.in-Some.line)) (sym on ∙ c.loop-place.invariant)

pub returns-in_err-hear : goal.returns-in_err-hear
returns-in_err-hear c =
    let ls = lines c.args.answers.now in
    let k = length c.loop-place.yielded in
    let road = numbered c.into_iter-place-iterator.result _ _ ls c.into_iter-place-iterator.ensures.into_iter_gives c.enumerate-place-items.ensures.source c.of.ensures c.enumerate-place-items.ensures.count in
    let turn = YieldsList-turn road c.loop-place.yielded _ c.loop-place.yielded_by _ c.next.new.self (c.in-Some.place, c.in-Some.line) c.in-Some.is c.next.ensures.steps in
    let at = placed ls k c.in-Some.place c.in-Some.line.now turn.0 turn.1 in
    let stop = sym c.loop-place.invariant ∙ heard_stops ls k c.loop-place.session c.in-Some.line.now at.0 at.2 c.hear.new.session c.in_err-hear.field-0.0 (rw at.1 at c.in_err-hear.ensures) in
    rw stop (search rules)
