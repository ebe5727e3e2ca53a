-- What the entry that leaves one part out answers. Assumes nothing: these are definitions.
use Rattle.std.specs.Prelude.{◌≡◌, ℕ, cond, List, ◌++◌, length, drop, Ok, Err, Result, Some, None, Option, nat_le}
use Rattle.subset.specs.Parts.{rising, without}
use Rattle.bisect.specs.declared.LeaveOutError.{LeaveOutError}
use Rattle.bisect.specs.declared.LeaveOutError.TheVariants.{NotRising, ShortRow}

-- none if it is done
abbrev pub refusal : (ks out : List ℕ) → Option LeaveOutError
refusal ks out = cond (rising ks) (cond (nat_le (length ks) (length out)) None (Some ShortRow)) (Some NotRising)

-- the parts but k in the lent row, what lies behind them as it was; a refusal changes nothing
abbrev pub WithoutSays : (ks out : List ℕ) (k : ℕ) → (refusal : Option LeaveOutError) → Result ℕ LeaveOutError → (out₁ : List ℕ) → Type 0
WithoutSays ks out k None r out₁ = (r ≡ Ok (length (without k ks))) × (out₁ ≡ without k ks ++ drop (length (without k ks)) out)
WithoutSays ks out k (Some e) r out₁ = (r ≡ Err e) × (out₁ ≡ out)
