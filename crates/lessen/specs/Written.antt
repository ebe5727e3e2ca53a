-- What is written for an act. Assumes nothing: these are definitions.
use Rattle.std.specs.Prelude.{ℕ, List}
use Rattle.candidate.specs.Lines.{lines, picked}
use Rattle.session.specs.declared.Act.{Act}
use Rattle.session.specs.declared.Act.TheVariants.{Ask, Left, Sound, TooMany}

-- the lines that are asked of or left, and else the text
abbrev pub written : List ℕ → Act → List ℕ
written text (Ask ks) = picked (lines text) ks.now
written text (Left ks) = picked (lines text) ks.now
written text Sound = text
written text TooMany = text
