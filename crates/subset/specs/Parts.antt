-- Parts are the numbers 0 to n - 1, and a subset of them is a rising list. Assumes nothing: these are definitions.
use Rattle.std.specs.Prelude.{ℕ, zero, suc, Bool, true, false, not, ◌&&◌, ltb, List, [], ◌∷◌, ◌++◌, ◌==◌, nat_eq, nat_lt}
use Rattle.std.specs.List.{filter, list_all, list_any}

unfoldable pub same : List ℕ → List ℕ → Bool
same [] [] = true
same [] (b ∷ bs) = false
same (a ∷ as₁) [] = false
same (a ∷ as₁) (b ∷ bs) = a == b && same as₁ bs

-- all n parts
unfoldable pub all_parts : ℕ → List ℕ
all_parts zero = []
all_parts (suc n) = all_parts n ++ n ∷ []

unfoldable pub rising : List ℕ → Bool
rising [] = true
rising (k ∷ []) = true
rising (k ∷ j ∷ ks) = nat_lt k j && rising (j ∷ ks)

-- a subset of the n parts
abbrev pub some_of : ℕ → List ℕ → Bool
some_of n ks = rising ks && list_all (λ k. ltb k n) ks

-- all but k
abbrev pub without : ℕ → List ℕ → List ℕ
without k ks = filter (λ j. not (j == k)) ks

abbrev pub has : List ℕ → ℕ → Bool
has ks k = list_any (nat_eq k) ks

-- every one of ks is in js
abbrev pub within : List ℕ → List ℕ → Bool
within ks js = list_all (has js) ks
