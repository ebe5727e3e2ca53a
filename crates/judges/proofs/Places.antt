-- The place of a subset in a table.
use Rattle.std.proofs.Common.{◌≡◌, ℕ, suc, ◌+◌, ◌-◌, ◌*◌, ◌^◌, ◌<◌, ◌≤◌, List, [], ◌∷◌, length, get_or, drop, sym, refl, ap, ◌∙◌, subst, inl, inr, mul_assoc, pow-suc, mul-zero, mul-one, mul-add, arith, pow_pos, pow_mono, pow-add}
use native.Mathlib.Nat.{eq_of_mul-eq-mul_left}
use Rattle.std.proofs.lemmas.List.{at_drop_more, at_drop_all}
use Rattle.std.proofs.lemmas.Bool.{cases_order}
use Rattle.subset.proofs.Lists.{Row, row_from}
use Rattle.judges.specs.Table.{index_of, OwnPlace}

pub index_more : (ks : List ℕ) (i : ℕ) → i < length ks → index_of (drop i ks) ≡ 2 ^ get_or ks i 0 + index_of (drop (i + 1) ks)
unfolding index_of
index_more ks i h = at_drop_more index_of ks i 0 h

pub index_all : (ks : List ℕ) (i : ℕ) → length ks ≤ i → index_of (drop i ks) ≡ 0
unfolding index_of
index_all ks i h = at_drop_all index_of ks i h

twice : (k : ℕ) → 2 ^ suc k ≡ 2 ^ k + 2 ^ k
twice k = pow-suc 2 k ∙ omega arith

below : (b n : ℕ) (ks : List ℕ) → b ≤ n → Row b n ks → index_of ks + 2 ^ b ≤ 2 ^ n
unfolding index_of
below b n [] h r = omega (arith, pow_mono h)
below b n (k ∷ ks) h r = omega (arith, below (suc k) n ks r.1 r.2, twice k, pow_mono r.0)

odd : (k q : ℕ) → 2 ^ k + 2 ^ suc k * q ≡ 2 ^ k * (1 + 2 * q)
odd k q = simp (pow-suc, mul_assoc, mul-add, mul-one)

-- what has no part below b is a multiple of 2^b
multiple : (b n : ℕ) (ks : List ℕ) → Row b n ks → (q : ℕ) × (index_of ks ≡ 2 ^ b * q)
unfolding index_of
multiple b n [] r = (0, sym (mul-zero (2 ^ b)))
multiple b n (k ∷ ks) r =
    let m = multiple (suc k) n ks r.2 in
    let power : 2 ^ b * 2 ^ (k - b) ≡ 2 ^ k = sym (pow-add 2 b (k - b)) ∙ ap (λ x. 2 ^ x) (omega arith) in
    let parted = sym (mul_assoc (2 ^ b) (2 ^ (k - b)) (1 + 2 * m.0)) ∙ ap (λ x. x * (1 + 2 * m.0)) power in
    (2 ^ (k - b) * (1 + 2 * m.0), ap (λ x. 2 ^ k + x) m.1 ∙ odd k m.0 ∙ sym parted)

-- so a part that is less than all others is told by it
lower : (k n : ℕ) (ks js : List ℕ) → Row (suc k) n ks → Row (suc k) n js → 2 ^ k + index_of ks ≡ index_of js → ⊥
lower k n ks js r w e =
    let m = multiple (suc k) n ks r in
    let l = multiple (suc k) n js w in
    let doubled : 2 ^ suc k * l.0 ≡ 2 ^ k * (2 * l.0) = simp (pow-suc, mul_assoc) in
    let level = sym (odd k m.0) ∙ ap (λ x. 2 ^ k + x) (sym m.1) ∙ e ∙ l.1 ∙ doubled in
    omega (arith, eq_of_mul-eq-mul_left (2 ^ k) (pow_pos k) (1 + 2 * m.0) (2 * l.0) level)

own : (b n : ℕ) (ks js : List ℕ) → Row b n ks → Row b n js → index_of ks ≡ index_of js → ks ≡ js
unfolding index_of
own b n [] [] r w e = refl
own b n [] (j ∷ js) r w e = absurd (omega (arith, pow_pos j))
own b n (k ∷ ks) [] r w e = absurd (omega (arith, pow_pos k))
own b n (k ∷ ks) (j ∷ js) r w e =
    elim (cases_order k j) [
      | inl q ↦
          let rest = own (suc k) n ks js r.2 (subst (λ (x : ℕ). Row (suc x) n js) (sym q) w.2) (omega (arith, ap (λ x. 2 ^ x) q)) in
          cc
      | inr (inl q) ↦ absurd (lower k n ks (j ∷ js) r.2 (q, w.1, w.2) e)
      | inr (inr q) ↦ absurd (lower j n js (k ∷ ks) w.2 (q, r.1, r.2) (sym e))
    ]

pub own_place : OwnPlace
unfolding OwnPlace
own_place n ks s = (
  omega (arith, below 0 n ks (omega arith) (row_from n ks s)),
  λ js t e. own 0 n ks js (row_from n ks s) (row_from n js t) e,
)
