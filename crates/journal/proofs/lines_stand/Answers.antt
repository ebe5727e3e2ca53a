use Rattle.journal.proofs.LineBack.{reads_back}
use Rattle.journal.proofs.lines_stand.Goals as goal

pub returns : goal.returns
returns c = reads_back
