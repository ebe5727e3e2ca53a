use Rattle.std.proofs.Common.{replicate}
use Rattle.reduce.specs.Own.{own}
use Rattle.reduce.specs.Entry.{fits}
use Rattle.reduce.specs.declared.Event.TheVariants.{Parts}
use Rattle.session.proofs.Standing.{reacted}
use Rattle.session.proofs.Session.begin.Goals as goal

pub invariant_of-result : goal.invariant_of-result
invariant_of-result c =
    (reacted (replicate 72 0) (Parts c.args.parts) (replicate 4096 0) _ _ _ (fits (replicate 72 0) (replicate 4096 0)) _ c.unwrap-told.ensures c.react.ensures).1.1

pub returns : goal.returns
unfolding own
returns c =
    (reacted (replicate 72 0) (Parts c.args.parts) (replicate 4096 0) _ _ _ (fits (replicate 72 0) (replicate 4096 0)) _ c.unwrap-told.ensures c.react.ensures).1.0
