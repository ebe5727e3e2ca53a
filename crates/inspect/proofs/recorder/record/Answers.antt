use Rattle.std.proofs.Common.{refl, ap, ◌∙◌, arith}
use Rattle.inspect.proofs.Recording.{going_begins, going_turn, going_full, going_ends, not_stopped, limit_stops, unwritten, written}
use Rattle.inspect.proofs.recorder.record.Goals as goal

pub loop-asked-init : goal.loop-asked-init
loop-asked-init g c = (refl, going_begins _ _ _ _ _ _ c.react-told.ensures.room)

pub returns-in_default-clause-recorded : goal.returns-in_default-clause-recorded
returns-in_default-clause-recorded g c =
    going_ends _ _ _ _ _ _ _ _ _ _ _ _ _ _ c.react-told.ensures.does c.loop-asked.invariant.1 (omega arith) (not_stopped _ _ _ _ _ c.in_default.ensures)

pub returns-in_default-write_exchange-clause-recorded : goal.returns-in_default-write_exchange-clause-recorded
returns-in_default-write_exchange-clause-recorded g c =
    let (still, full) = going_full _ _ _ _ _ _ _ c.says-answer.result c.args.limit _ _ _ _ _ _ c.in-Some.ensures.0 c.loop-asked.invariant.1 (unwritten _ _ _ c.says-answer.result _ c.loop-asked.invariant.1.used_low c.in_default-write_exchange.ensures) in
    going_ends _ _ _ _ _ _ _ _ _ _ _ _ _ _ c.react-told.ensures.does still (omega arith) full

pub loop-asked-preserved : goal.loop-asked-preserved
loop-asked-preserved g c =
    let says = c.says-answer.ensures.value ∙ ap (λ f. f c.in-Some.question.now) c.loop-asked.invariant.0 in (
      c.says-answer.ensures.same ∙ c.loop-asked.invariant.0,
      going_turn _ _ _ _ _ _ _ _ _ _ _ _ _ _ _ _ _ _ c.in-Some.ensures.0 c.in-Some.ensures.1 c.loop-asked.invariant.1 says (written _ _ _ _ _ c.loop-asked.invariant.1.used_low _ c.in-Some-write_exchange.ensures)
          c.react-told-in-loop-asked.ensures.does c.react-told-in-loop-asked.ensures.room,
    )

pub returns-clause-recorded : goal.returns-clause-recorded
returns-clause-recorded g c =
    going_ends _ _ _ _ _ _ _ _ _ _ _ _ _ _ c.react-told.ensures.does c.loop-asked.invariant.1 (omega arith) (limit_stops _ _ _ _ _ (omega arith))
