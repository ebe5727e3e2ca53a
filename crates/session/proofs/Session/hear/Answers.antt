use Rattle.std.proofs.Common.{refl}
use Rattle.reduce.specs.Entry.{fits}
use Rattle.reduce.specs.declared.Event.TheVariants.{Said}
use Rattle.session.proofs.Standing.{reacted}
use Rattle.session.proofs.Session.hear.Goals as goal

pub invariant_of-self-2 : goal.invariant_of-self-2
invariant_of-self-2 c =
    let m = c.self.inside.memory in
    let row = c.self.inside.row in
    (reacted m (Said c.into.result) row _ _ _ (fits m row) _ c.in_ok-self-inside.was c.react.ensures).1.1

pub returns : goal.returns
returns c =
    let m = c.self.inside.memory in
    let row = c.self.inside.row in
    let (awaited, stood) = reacted m (Said c.into.result) row _ _ _ (fits m row) _ c.in_ok-self-inside.was c.react.ensures in
    rw (← c.self.view_is, awaited) (refl, rw c.into.ensures at stood.0)
