use Rattle.std.proofs.Common.{◌≡◌, ◌+◌, ◌≤◌, drop}
use Rattle.judges.specs.Table.{index_of}
use Rattle.judges.proofs.table.place.Given as goal

abbrev pub invariant-loop-p : goal.invariant-loop-p
invariant-loop-p l = (l.index ≤ l.most) × (l.index + index_of (drop l.p-index l.subset) ≡ index_of l.subset)
