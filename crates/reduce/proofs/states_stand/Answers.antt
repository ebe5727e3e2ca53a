use Rattle.reduce.specs.StateExamples.{StateExamples}
use Rattle.reduce.proofs.StateExamples.{of_idle, of_table, of_starts, of_steps}
use Rattle.reduce.proofs.states_stand.Goals as goal

pub returns : goal.returns
unfolding StateExamples
returns c = (of_idle, of_table, of_starts, of_steps)
