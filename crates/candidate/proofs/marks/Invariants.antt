use Rattle.std.proofs.Common.{◌≡◌, ℕ, ◌<◌, false, take, get_or, vec_len}
use Rattle.candidate.specs.Lines.{has}
use Rattle.candidate.proofs.marks.Given as goal

abbrev pub invariant-loop-part : goal.invariant-loop-part
invariant-loop-part l =
    (vec_len l.marks ≡ l.count) × ((k : ℕ) → k < l.count → get_or l.marks.items k false ≡ has (take l.part-index l.parts) k)
