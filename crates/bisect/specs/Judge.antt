-- A judge says of each subset whether it fails; what is lean, and what it is that failing is monotone. Assumes nothing: these are definitions.
use Rattle.std.specs.Prelude.{◌≡◌, ℕ, Bool, true, not, ◌&&◌, List, ◌==◌}
use Rattle.std.specs.List.{list_all}
use Rattle.subset.specs.Parts.{same, some_of, without, has, within}

-- 0 it doesn't fail, 1 it fails, 2 one can't tell; any other number is as little a failure as 0 and 2
abbrev pub Judge : Type 0
Judge = List ℕ → ℕ

abbrev pub fails : Judge → List ℕ → Bool
fails f ks = f ks == 1

-- it fails, and without any one of its parts it doesn't
abbrev pub lean : Judge → List ℕ → Bool
lean f ks = fails f ks && list_all (λ k. not (fails f (without k ks))) ks

-- whatever contains what fails, fails
abbrev pub Monotone : Judge → ℕ → Type 0
Monotone f n = (ks js : List ℕ) → some_of n ks ≡ true → some_of n js ≡ true → within ks js ≡ true → fails f ks ≡ true → fails f js ≡ true

-- nothing within ks fails but ks itself
abbrev pub Least : Judge → ℕ → List ℕ → Type 0
Least f n ks = (js : List ℕ) → some_of n js ≡ true → within js ks ≡ true → fails f js ≡ true → same js ks ≡ true

-- part x alone decides
abbrev pub Decides : Judge → ℕ → ℕ → Type 0
Decides f n x = (js : List ℕ) → some_of n js ≡ true → fails f js ≡ has js x
