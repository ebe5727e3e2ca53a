-- What stands at the beginning of a lent row.
use Rattle.std.proofs.Common.{◌≡◌, ℕ, ◌≤◌, Bool, List, ◌++◌, length, take, drop, Some, Option, refl, ap, ◌∙◌, subst, arith, length-append, take_at}
use Rattle.std.proofs.lemmas.Bool.{le-leb, and_from}
use Rattle.subset.specs.Row.{members}
use Rattle.subset.specs.Says.{Told, room}

-- a list that was written there
pub shown : (ks out out₁ : List ℕ) → out₁ ≡ ks ++ drop (length ks) out → (take (length ks) out₁ ≡ ks) × (length ks ≤ length out₁)
shown ks out out₁ e =
    (ap (take (length ks)) e ∙ take_at ks (drop (length ks) out) (length ks) refl, omega (arith, ap length e, length-append ks (drop (length ks) out)))

-- the members of a row of words that has room
pub told : (ws out : List ℕ) (r : Option ℕ) (out₁ : List ℕ) → length ws ≤ 64 → length (members ws) ≤ length out → Told (room ws out) (members ws) out r out₁
    → (r ≡ Some (length (members ws))) × (take (length (members ws)) out₁ ≡ members ws) × (length (members ws) ≤ length out₁)
told ws out r out₁ few fit t =
    let (e, o) = subst (λ (b : Bool). Told b (members ws) out r out₁) (and_from _ _ (le-leb _ _ few) (le-leb _ _ fit)) t in
    let s = shown (members ws) out out₁ o in
    (e, s.0, s.1)
