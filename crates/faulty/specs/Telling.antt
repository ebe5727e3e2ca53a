-- How a machine tells of a subset by its number. Assumes nothing: these are definitions.
use Rattle.std.specs.Prelude.{◌≡◌, ℕ, Bool, true, false, List, ◌++◌, length, drop, Err, Result, IsOkAnd}
use Rattle.reduce.specs.declared.Told.{Told}
use Rattle.reduce.specs.declared.Refusal.{Refusal}
use Rattle.reduce.specs.declared.Refusal.TheVariants.{Unfit}

-- told of the subset ks in the lent row, in these words; or refused where it has no room there
abbrev pub Tells : (fits : Bool) → (Told → Type 0) → (ks out : List ℕ) → Result Told Refusal → (out₁ : List ℕ) → Type 0
Tells true words ks out r out₁ = IsOkAnd r words × (out₁ ≡ ks ++ drop (length ks) out)
Tells false words ks out r out₁ = (r ≡ Err Unfit) × (out₁ ≡ out)
