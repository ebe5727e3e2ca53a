-- What a step told stands in the row.
use Rattle.std.proofs.Common.{◌≡◌, ℕ, ◌≤◌, Bool, true, false, List, ◌++◌, length, take, drop, Some, None, Option, Ok, Err, Result, refl, ap, ap₂, ◌∙◌, arith, length-append, take_at}
use Rattle.bisect.specs.Engine.{Act, ask, left, sound, refused, Step}
use Rattle.reduce.specs.Own.{own}
use Rattle.reduce.specs.Entry.{ActTold, Does, Heard, Reacts, event_of, fault_of}
use Rattle.reduce.specs.declared.Event.{Event}
use Rattle.reduce.specs.declared.Refusal.{Refusal}
use Rattle.reduce.specs.declared.Told.{Told}
use Rattle.session.specs.Session.{Room, act_told, standing}

subset_shown : (ks out out₁ : List ℕ) → out₁ ≡ ks ++ drop (length ks) out → (take (length ks) out₁ ≡ ks) × (length ks ≤ length out₁)
subset_shown ks out out₁ e = (ap (take (length ks)) e ∙ take_at ks (drop (length ks) out) (length ks) refl, omega (arith, ap length e, length-append ks (drop (length ks) out)))

act_shown : (a : Act) (t : Told) (out out₁ : List ℕ) → ActTold a t out out₁ → (act_told t out₁ ≡ a) × Room t out₁
unfolding ActTold
act_shown (ask ks) t out out₁ (e, o) = let (s, r) = subset_shown ks out out₁ o in rw e (ap ask s, r)
act_shown (left ks) t out out₁ (e, o) = let (s, r) = subset_shown ks out out₁ o in rw e (ap left s, r)
act_shown sound t out out₁ (e, o) = rw e (refl, tt)
act_shown refused t out out₁ (e, o) = rw e (refl, tt)

-- where it was not refused, it stands where the reducer's step stands, and the row has room
abbrev pub Stands : Step → Told → (memory row : List ℕ) → Type 0
Stands s t m row = (standing m row t ≡ s) × Room t row

stands : (s : Step) (t : Told) (m out out₁ : List ℕ) → Does s t m out out₁ → Stands s t m out₁
stands s t m out out₁ (e, o) =
    let (a, r) = act_shown s.act t out out₁ o in
    (ap₂ (λ (x : List ℕ) (b : Act). record { memory = x; act = b }) e a, r)

module _ (m : List ℕ) (ev : Event) (out : List ℕ) (t : Told) (m₁ out₁ : List ℕ) where
  heard : (z : Option Refusal) (r : Result Told Refusal) → r ≡ Ok t → Heard z m ev out r m₁ out₁ → (z ≡ None) × Stands (own.step m (event_of ev)) t m₁ out₁
  heard None (Ok u) e d = let same : u ≡ t = cc in (refl, stands _ t m₁ out out₁ (rw same at d))
  heard None (Err x) e d = absurd d
  heard (Some x) r e (f, d, o) = absurd (let z : ◌≡◌ {A = ℕ} 0 1 = cc in omega arith)

  pub reacted : (b : Bool) (r : Result Told Refusal) → r ≡ Ok t → Reacts b m ev out r m₁ out₁ → (fault_of m ev ≡ None) × Stands (own.step m (event_of ev)) t m₁ out₁
  reacted true r e h = heard (fault_of m ev) r e h
  reacted false r e (f, d, o) = absurd (let z : ◌≡◌ {A = ℕ} 0 1 = cc in omega arith)
