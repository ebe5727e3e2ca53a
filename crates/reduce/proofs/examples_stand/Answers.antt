use Rattle.std.proofs.Common.{refl}
use Rattle.subset.specs.Parts.{same, all_parts, rising}
use Rattle.subset.proofs.Lists.{every_at}
use Rattle.bisect.specs.Engine.{acted}
use Rattle.bisect.specs.Machine.{plays}
use Rattle.bisect.specs.Search.{keep}
use Rattle.reduce.specs.State.{trial, go_on, next_by, begin, act_by}
use Rattle.reduce.specs.Examples.{holds, table, after, alike, Examples, EachHolds}
use Rattle.reduce.proofs.examples_stand.Goals as goal

-- the table is computed
computed : Examples
unfolding Examples alike after plays acted begin act_by next_by go_on trial keep all_parts rising same
computed = refl

pub returns : goal.returns
unfolding Examples EachHolds
returns c = record { table = computed; row = λ i e l. every_at holds table i e computed l }
