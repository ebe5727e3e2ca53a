-- The digits that are left.
use Rattle.std.proofs.Common.{◌≡◌, ℕ, ◌+◌, ◌/◌, ◌^◌, sym, ap, ◌∙◌, pow-suc, add-one}
use native.Mathlib.Nat.{div-div-eq-div-mul}

pub rest_more : (code base i : ℕ) → code / base ^ i / base ≡ code / base ^ (i + 1)
rest_more code base i = div-div-eq-div-mul code (base ^ i) base ∙ ap (λ x. code / x) (sym (ap (λ k. base ^ k) (add-one i) ∙ pow-suc base i))
