use Rattle.std.proofs.Common.{◌≡◌, length, drop}
use Rattle.candidate.specs.Lines.{lines}
use Rattle.lessen.specs.Replay.{heard_from}
use Rattle.lessen.proofs.replay.hear_all.Given as goal

abbrev pub invariant-loop-place : goal.invariant-loop-place
invariant-loop-place l = heard_from (length l.yielded) l.session (drop (length l.yielded) (lines l.answers)) ≡ heard_from 0 l.initial.session (lines l.answers)
