-- Where memory holds how far a pass has come, and what the functions on it answer. Assumes nothing: these are definitions.
use Rattle.std.specs.Prelude.{ℕ, ◌+◌, ◌-◌, ◌*◌, Bool, true, false, ◌&&◌, List, length, Some, None, Option, ◌==◌, nat_le, nat_lt, slice_index, slice_set}
use Rattle.subset.specs.Row.{members}
use Rattle.subset.specs.Says.{few}
use Rattle.bisect.specs.declared.Search.{Search}
use Rattle.bisect.specs.Search.{place, cut, keep}

-- a memory has 72 numbers
abbrev pub whole : List ℕ → Bool
whole m = length m == 72

-- lo at 2, the row at 3, begun at 5, spent at 6, sure at 7
abbrev pub sought : List ℕ → Search
sought m = place (slice_index m 2) (slice_index m 3) (slice_index m 5) (slice_index m 6) (slice_index m 7)

abbrev pub noted : Search → List ℕ → List ℕ
noted s m = slice_set (slice_set (slice_set (slice_set (slice_set m 2 s.lo) 3 s.row) 5 s.begun) 6 s.spent) 7 s.sure

-- something is open in a row of k members, of at most n parts
abbrev pub placed : Search → (k n : ℕ) → Bool
placed s k n = nat_le n 4096 && (nat_lt s.lo s.row && (nat_le s.row k && (nat_le k s.begun && nat_le s.begun n)))

-- what a pass may leave there: no more are sure than were found, and no more was spent than what these pay for
abbrev pub sane : Search → (k n : ℕ) → Bool
sane s k n = placed s k n && (nat_le s.sure (k - s.row) && nat_le s.spent (13 * (k - s.row + 1)))

-- where the row is cut beside k members
abbrev pub cut_at : Search → ℕ → ℕ
cut_at s k = cut s.lo s.row s.begun s.spent (k - s.row)

-- a value, or none if it was refused
abbrev pub given : {A : Type 0} → Bool → A → Option A
given true x = Some x
given false x = None

-- the question at the cut
abbrev pub asked : Search → List ℕ → List ℕ
asked s ks = keep (cut_at s (length ks)) s.row ks

-- at most 64 words, numbers that fit them, and room for 4,096 parts
abbrev pub askable : Search → (ws out : List ℕ) → Bool
askable s ws out = few ws && (placed s (length (members ws)) 4096 && nat_le 4096 (length out))
