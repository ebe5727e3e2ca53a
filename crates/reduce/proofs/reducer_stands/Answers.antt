use Rattle.reduce.proofs.Reduces.{sharp, whole}
use Rattle.reduce.proofs.reducer_stands.Goals as goal

pub returns : goal.returns
returns c = record { whole = whole; sharp = sharp }
