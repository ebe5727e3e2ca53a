use Rattle.std.proofs.Common.{◌+◌, ◌-◌, ◌<◌, refl, ◌∙◌, arith, rules}
use Rattle.judges.specs.Driver.{most}
use Rattle.judges.proofs.Stages.{goes_begins, goes_asks, goes_turn}
use Rattle.judges.proofs.driver.run.Goals as goal

pub loop-told-init : goal.loop-told-init
loop-told-init g c = let (w, s) = goes_begins _ _ _ _ _ _ _ _ c.in_ok-told.was c.react.ensures in (refl, w, s)

pub returns-in_err-told-2-clause-ends : goal.returns-in_err-told-2-clause-ends
returns-in_err-told-2-clause-ends g c =
    let (same, w, s) = c.loop-told.invariant in
    let turned = goes_turn _ _ _ _ _ _ _ _ _ _ _ _ _ _ same w (c.loop-told.auto.out ∙ c.react.auto.out) c.in-Ask.is c.says-verdict.ensures.value s c.react-in-loop-told.ensures in
    absurd (rw c.in_err-told-2.was at turned)

pub returns-in_err-told-2-clause-whole : goal.returns-in_err-told-2-clause-whole
returns-in_err-told-2-clause-whole g c =
    let (same, w, s) = c.loop-told.invariant in
    let turned = goes_turn _ _ _ _ _ _ _ _ _ _ _ _ _ _ same w (c.loop-told.auto.out ∙ c.react.auto.out) c.in-Ask.is c.says-verdict.ensures.value s c.react-in-loop-told.ensures in
    absurd (rw c.in_err-told-2.was at turned)

pub overflow_add-asked : goal.overflow_add-asked
overflow_add-asked g c = let few = (goes_asks _ _ _ _ _ _ _ _ c.in-Ask.is c.loop-told.invariant.2).1 in search rules

pub loop-told-smaller : goal.loop-told-smaller
loop-told-smaller g c =
    let few = (goes_asks _ _ _ _ _ _ _ _ c.in-Ask.is c.loop-told.invariant.2).1 in
    let less : most - (c.loop-told.asked + 1) < most - c.loop-told.asked = omega arith in
    less

pub loop-told-preserved : goal.loop-told-preserved
loop-told-preserved g c =
    let (same, w, s) = c.loop-told.invariant in
    let turned = goes_turn _ _ _ _ _ _ _ _ _ _ _ _ _ _ same w (c.loop-told.auto.out ∙ c.react.auto.out) c.in-Ask.is c.says-verdict.ensures.value s c.react-in-loop-told.ensures in
    (c.says-verdict.ensures.same ∙ same, w, rw c.in_ok-told-2.was at turned)
