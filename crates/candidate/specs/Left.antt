-- What is left of a text that is gone through line by line.
use Rattle.std.specs.Prelude.{ℕ, List}
use Rattle.candidate.specs.Lines.{lines}
use Rattle.candidate.specs.declared.Lines.{Lines}

abbrev pub lines_left : Lines → List (List ℕ)
lines_left s = lines s.rest.now
