use Rattle.std.proofs.Common.{take}
use Rattle.std.specs.Fmt.{HasWritten, IsPlainFormatter}
use Rattle.dialog.specs.Lines.{behind_blanks}
use Rattle.dialog.proofs.lines.BehindBlanksDisplay.fmt.Given as goal

abbrev pub invariant-loop-part : goal.invariant-loop-part
invariant-loop-part g l =
    IsPlainFormatter l.fn.f → HasWritten g.W.Write.write_str_gives l.fn.f (behind_blanks (take l.part-index l.self.0.now)) l.f
