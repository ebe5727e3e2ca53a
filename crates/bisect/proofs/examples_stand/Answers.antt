use Rattle.bisect.specs.Examples.{Examples}
use Rattle.bisect.proofs.Examples.{of_judges, of_runs, of_promises, of_passes, of_passed}
use Rattle.bisect.proofs.examples_stand.Goals as goal

pub returns : goal.returns
unfolding Examples
returns c = (of_judges, of_runs, of_promises, of_passes, of_passed)
