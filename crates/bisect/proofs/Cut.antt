-- The cut lies in the row. That is all that is wanted for what is left to be right.
use Rattle.std.proofs.Common.{◌≡◌, ℕ, ◌*◌, ◌<◌, ◌≤◌, true, rules}
use Rattle.bisect.specs.Search.{halved, guess, shorn, credit, cut, cut_of}
use Rattle.bisect.specs.Pass.{Inner}

guess_some : (row begun found : ℕ) → 1 ≤ guess row begun found
guess_some row begun found = search rules

shorn_high : (row g : ℕ) → 0 < row → 1 ≤ g → shorn row g < row
shorn_high row g h i = search rules

-- what a guess is made from
pub record Credit (lo spent found : ℕ) : Type 0 where
  pub at_0 : lo ≡ 0
  pub some : 0 < found
  pub spare : spent ≤ 13 * found

credit_true : (lo row spent found : ℕ) → credit lo row spent found ≡ true → Credit lo spent found
credit_true lo row spent found h = search rules

-- a cut is a guess on credit, anywhere in the row, or the middle
pub cut_either : (P : ℕ → Type 0) (lo row begun spent found : ℕ) → lo < row → (Credit lo spent found → (c : ℕ) → c < row → P c) → P (halved lo row)
    → P (cut lo row begun spent found)
cut_either P lo row begun spent found h g m = search rules

pub cut_inner : Inner cut_of
cut_inner p h = search rules
