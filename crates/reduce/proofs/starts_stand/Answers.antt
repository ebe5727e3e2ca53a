use Rattle.reduce.proofs.Runs.{from_cuts, from_any}
use Rattle.reduce.proofs.Nested.{nested_trial}
use Rattle.reduce.proofs.starts_stand.Goals as goal

pub returns : goal.returns
returns c = record { cuts = from_cuts; any = from_any; nested = nested_trial }
