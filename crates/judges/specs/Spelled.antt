-- Lists in a row: a length, then so many numbers, again and again. Assumes nothing: these are definitions.
use Rattle.std.specs.Prelude.{◌≡◌, ℕ, zero, suc, ◌<◌, List, [], ◌∷◌, ◌++◌, length, take, drop, Some, None, Option}
use Rattle.std.specs.Borrow.{Bor}
use Rattle.judges.specs.declared.spelled.RowLists.{RowLists}

-- at most k lists of a row; what the end cuts short has what there is
unfoldable pub lists_from : ℕ → List ℕ → List (List ℕ)
lists_from zero row = []
lists_from (suc k) [] = []
lists_from (suc k) (n ∷ row) = take n row ∷ lists_from k (drop n row)

-- all of them: a row has no more lists than numbers
unfoldable pub lists_of : List ℕ → List (List ℕ)
lists_of row = lists_from (length row) row

-- the lists that are still to come
abbrev pub lists_left : RowLists → List (List ℕ)
lists_left s = lists_of s.row.now

-- the row of some lists
unfoldable pub spelled : List (List ℕ) → List ℕ
spelled [] = []
spelled (ks ∷ lists) = length ks ∷ (ks ++ spelled lists)

-- the first list of a row and the row behind it
abbrev pub FirstSays : List ℕ → Option (Bor (List ℕ) × Bor (List ℕ)) → Type 0
FirstSays row None = lists_of row ≡ []
FirstSays row (Some x) = (lists_of row ≡ x.0.now ∷ lists_of x.1.now) × (length x.1.now < length row)

-- a row spells its lists, a judge's sets among them, one after the other
abbrev pub SetsSpelled : Type 0
SetsSpelled = (lists_of [] ≡ []) × ((n : ℕ) (row : List ℕ) → lists_of (n ∷ row) ≡ take n row ∷ lists_of (drop n row))

-- and what is spelled is read back
unfoldable pub ListsSpelled : Type 0
ListsSpelled = SetsSpelled × ((lists : List (List ℕ)) → lists_of (spelled lists) ≡ lists)
