-- The lists of a row, one after the other.
use Rattle.std.proofs.Common.{◌≡◌, ℕ, zero, suc, ◌<◌, ◌≤◌, List, [], ◌∷◌, length, take, drop, refl, ap, ◌∙◌, ap₂, not-suc-le-zero, arith, length-drop, take_at}
use Rattle.std.specs.Iterator.{YieldsFirstRef}
use Rattle.std.proofs.lemmas.Iterator.{YieldsList}
use Rattle.std.proofs.lemmas.Iterator.Consumers.{YieldsList-from_first}
use Rattle.std.proofs.lemmas.List.{drop_at}
use Rattle.judges.specs.Spelled.{lists_from, lists_of, lists_left, spelled, SetsSpelled, ListsSpelled}
use Rattle.judges.specs.declared.spelled.RowLists.{RowLists}

-- as many as the row has numbers are enough
enough : (k m : ℕ) (row : List ℕ) → length row ≤ k → length row ≤ m → lists_from k row ≡ lists_from m row
unfolding lists_from
enough zero zero row h g = refl
enough zero (suc m) [] h g = refl
enough zero (suc m) (n ∷ row) h g = absurd (not-suc-le-zero h)
enough (suc k) zero [] h g = refl
enough (suc k) zero (n ∷ row) h g = absurd (not-suc-le-zero g)
enough (suc k) (suc m) [] h g = refl
enough (suc k) (suc m) (n ∷ row) h g =
    ap (λ (lists : List (List ℕ)). take n row ∷ lists)
    (enough k m (drop n row) (rw (length-drop n row) (omega arith)) (rw (length-drop n row) (omega arith)))

pub one_by_one : SetsSpelled
unfolding lists_from lists_of
one_by_one = (
  refl,
  λ n row.
      ap (λ (lists : List (List ℕ)). take n row ∷ lists)
      (enough (length row) (length (drop n row)) (drop n row) (rw (length-drop n row) (omega arith)) (omega arith)),
)

pub read_back : (lists : List (List ℕ)) → lists_of (spelled lists) ≡ lists
unfolding spelled
read_back [] = one_by_one.0
read_back (ks ∷ lists) =
    one_by_one.1 (length ks) _
    ∙ ap₂ (λ (x : List ℕ) (xs : List (List ℕ)). x ∷ xs) (take_at ks (spelled lists) (length ks) refl)
    (ap lists_of (drop_at ks (spelled lists) (length ks) refl) ∙ read_back lists)

pub lists_spelled : ListsSpelled
unfolding ListsSpelled
lists_spelled = (one_by_one, read_back)

-- the first list of a row that isn't empty
pub first_of : (row : List ℕ) (n : ℕ) (numbers set others : List ℕ) → row ≡ n ∷ numbers → set ≡ take n numbers → others ≡ drop n numbers
    → (lists_of row ≡ set ∷ lists_of others) × (length others < length row)
first_of row n numbers set others e s o =
    (ap lists_of e ∙ one_by_one.1 n numbers ∙ ap₂ (λ (x y : List ℕ). x ∷ lists_of y) (rw s) (rw o), rw (e, o, length-drop n numbers) (omega arith))

-- an iterator that has all of a row's lists left gives just these
pub lists_yield : {s : RowLists} (row : List ℕ) → lists_left s ≡ lists_of row → YieldsList (YieldsFirstRef lists_left) (λ x. x.now) s (lists_of row)
lists_yield row e = YieldsList-from_first (λ x. x.now) lists_left _ e

-- and they are no more than the row's numbers
from_few : (k : ℕ) (row : List ℕ) → length (lists_from k row) ≤ k
unfolding lists_from
from_few zero row = omega arith
from_few (suc k) [] = omega arith
from_few (suc k) (n ∷ row) = omega (arith, from_few k (drop n row))

pub lists_few : (row : List ℕ) → length (lists_of row) ≤ length row
unfolding lists_of
lists_few row = from_few (length row) row
