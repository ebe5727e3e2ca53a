-- Every subset of a few parts, by its number: part p counts 2^p. Assumes nothing: these are definitions.
use Rattle.std.specs.Prelude.{◌≡◌, ℕ, ◌^◌, ◌<◌, Bool, true, false, cond, ◌&&◌, List, [], ◌∷◌, Some, None, Decides, Option}
use Rattle.std.specs.List.{list_all}
use Rattle.subset.specs.Parts.{all_parts, within}
use Rattle.subset.specs.Row.{members}
use Rattle.bisect.specs.Judge.{Judge, fails, Monotone}

-- the subset with this number
abbrev pub coded : ℕ → List ℕ
coded c = members (c ∷ [])

abbrev pub implies : Bool → Bool → Bool
implies a b = cond a b true

-- p holds of all subsets of n parts
abbrev pub of_all : ℕ → (List ℕ → Bool) → Bool
of_all n p = list_all (λ c. p (coded c)) (all_parts (2 ^ n))

-- of each of the subsets of n parts some call gave true, or one gave false
unfoldable pub Tried : (gave : ℕ → Bool → Type 0) → ℕ → Bool → Type 0
Tried gave n true = (c : ℕ) → c < 2 ^ n → gave c true
Tried gave n false = (c : ℕ) × (c < 2 ^ n) × gave c false

-- js fails if it contains ks
abbrev pub larger_fails : Judge → List ℕ → List ℕ → Bool
larger_fails f ks js = implies (within ks js) (fails f js)

-- if ks fails, all of the n parts that contains it does
abbrev pub grown : ℕ → Judge → List ℕ → Bool
grown n f ks = implies (fails f ks) (of_all n (larger_fails f ks))

-- failing is monotone, by trying
abbrev pub grows : ℕ → Judge → Bool
grows n f = of_all n (grown n f)

-- js is no failing subset that is strictly within ks
abbrev pub spares : Judge → List ℕ → List ℕ → Bool
spares f ks js = implies (within js ks && fails f js) (within ks js)

-- nothing smaller within ks fails, by trying
abbrev pub spared : ℕ → Judge → List ℕ → Bool
spared n f ks = of_all n (spares f ks)

-- whether failing is monotone, up to nine parts
abbrev pub MonotoneSays : (few : Bool) → ℕ → Judge → Option Bool → Type 0
MonotoneSays true n f r = (b : Bool) × (r ≡ Some b) × Decides b (Monotone f n)
MonotoneSays false n f r = r ≡ None
