use Rattle.subset.proofs.Stands.{taken_out}
use Rattle.bisect.proofs.Least.{lean_least, needed_left, one_decides}
use Rattle.bisect.proofs.lean_stands.Goals as goal

pub returns : goal.returns
returns c = record { least = lean_least; needed = needed_left; one = one_decides; others = taken_out }
