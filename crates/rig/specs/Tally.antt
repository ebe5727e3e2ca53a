-- How many judges there were of a kind, and the most questions that one of them was asked. Assumes nothing: these are definitions.
use Rattle.std.specs.Prelude.{ℕ, ◌+◌, ◌-◌, ◌^◌, min, max, Bool, true, false}
use Rattle.rig.specs.declared.tally.Count.{Count}
use Rattle.rig.specs.declared.tally.Row.{Row}

-- as far as a number goes
abbrev pub one_more : ℕ → Count → Count
one_more asked c = record { judges = min (c.judges + 1) (2 ^ 64 - 1); most = max c.most asked }

abbrev pub noted : ℕ → Bool → Row → Row
noted asked true r = record { all = one_more asked r.all; monotone = one_more asked r.monotone }
noted asked false r = record { all = one_more asked r.all; monotone = r.monotone }
