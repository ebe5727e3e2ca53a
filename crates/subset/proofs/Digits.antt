-- The bits of one number.
use Rattle.std.proofs.Common.{◌≡◌, ℕ, zero, suc, ◌+◌, ◌*◌, ◌/◌, ◌%◌, ◌^◌, ◌<◌, Bool, true, false, cond, not, ◌&&◌, ◌||◌, eqb, sym, refl, ap, ◌∙◌, div-one, arith, shr-shr}
use native.Mathlib.Nat.{div-eq_of_lt, zero-div}
use lib.Dec.{eqb-suc-suc, eqb-zero-suc, eqb-suc-zero}
use lib.Bits.{bit_and, bit_or, and_shr, and_mod, or_shr, or_mod, and_mask}
use Rattle.std.proofs.lemmas.Bool.{eq-eqb}
use Rattle.subset.specs.Row.{digit, number}

-- the lowest bit, and the others
pub digit_zero : (w : ℕ) → digit w 0 ≡ eqb (w % 2) 1
unfolding digit
digit_zero w = rw div-one

pub digit_suc : (w i : ℕ) → digit w (suc i) ≡ digit (w / 2) i
unfolding digit
digit_suc w i = ap (λ x. eqb (x % 2) 1) (sym (shr-shr w 1 i ∙ ap (λ k. w / 2 ^ k) (omega arith)))

pub digit_none : (i : ℕ) → digit 0 i ≡ false
unfolding digit
digit_none i = rw zero-div

pub digit_small : (w i : ℕ) → w < 2 ^ i → digit w i ≡ false
unfolding digit
digit_small w i h = rw div-eq_of_lt

-- as the code reads it
pub digit_read : (w i : ℕ) → eqb (bit_and (w / 2 ^ i) 1) 1 ≡ digit w i
unfolding digit
digit_read w i = ap (λ x. eqb x 1) (and_mask (w / 2 ^ i) 1)

two_and : (m n : ℕ) → m < 2 → n < 2 → eqb (bit_and m n) 1 ≡ (eqb m 1 && eqb n 1)
two_and zero n p q = refl
two_and (suc zero) zero p q = refl
two_and (suc zero) (suc zero) p q = refl
two_and (suc zero) (suc (suc n)) p q = absurd (omega arith)
two_and (suc (suc m)) n p q = absurd (omega arith)

two_or : (m n : ℕ) → m < 2 → n < 2 → eqb (bit_or m n) 1 ≡ ((eqb m 1) || (eqb n 1))
two_or zero n p q = refl
two_or (suc zero) zero p q = refl
two_or (suc zero) (suc zero) p q = refl
two_or (suc zero) (suc (suc n)) p q = absurd (omega arith)
two_or (suc (suc m)) n p q = absurd (omega arith)

pub digit_and : (a b i : ℕ) → digit (bit_and a b) i ≡ (digit a i && digit b i)
unfolding digit
digit_and a b i =
    ap (λ x. eqb x 1) (ap (λ x. x % 2) (and_shr a b i) ∙ and_mod (a / 2 ^ i) (b / 2 ^ i) 1)
    ∙ two_and (a / 2 ^ i % 2) (b / 2 ^ i % 2) (omega arith) (omega arith)

pub digit_or : (a b i : ℕ) → digit (bit_or a b) i ≡ ((digit a i) || (digit b i))
unfolding digit
digit_or a b i =
    ap (λ x. eqb x 1) (ap (λ x. x % 2) (or_shr a b i) ∙ or_mod (a / 2 ^ i) (b / 2 ^ i) 1)
    ∙ two_or (a / 2 ^ i % 2) (b / 2 ^ i % 2) (omega arith) (omega arith)

-- one bit alone
pub digit_pow : (b i : ℕ) → digit (2 ^ b) i ≡ eqb i b
digit_pow zero zero = digit_zero 1
digit_pow zero (suc i) = digit_suc 1 i ∙ digit_none i ∙ sym (eqb-suc-zero i)
digit_pow (suc b) zero = digit_zero (2 ^ suc b) ∙ ap (λ x. eqb x 1) (let e : 2 ^ suc b % 2 ≡ 0 = omega arith in e) ∙ sym (eqb-zero-suc b)
digit_pow (suc b) (suc i) =
    digit_suc (2 ^ suc b) i ∙ ap (λ x. digit x i) (let e : 2 ^ suc b / 2 ≡ 2 ^ b = omega arith in e) ∙ digit_pow b i ∙ sym (eqb-suc-suc i b)

-- the k lowest bits turned
odd_turned : (a c : ℕ) → (a + c) % 2 ≡ 1 → eqb (c % 2) 1 ≡ not (eqb (a % 2) 1)
odd_turned a c h = grind arith

pub digit_turned : (k a c i : ℕ) → a + c + 1 ≡ 2 ^ k → i < k → digit c i ≡ not (digit a i)
digit_turned zero a c i e h = absurd (omega arith)
digit_turned (suc k) a c zero e h = digit_zero c ∙ odd_turned a c (omega arith) ∙ ap not (sym (digit_zero a))
digit_turned (suc k) a c (suc i) e h =
    digit_suc c i ∙ digit_turned k (a / 2) (c / 2) i (omega arith) (omega arith) ∙ ap not (sym (digit_suc a i))

-- numbers with the same bits
eqb_odd : (a b : ℕ) → eqb (a % 2) 1 ≡ eqb (b % 2) 1 → a % 2 ≡ b % 2
eqb_odd a b h = grind arith

pub digit_ext : (k a b : ℕ) → a < 2 ^ k → b < 2 ^ k → ((i : ℕ) → i < k → digit a i ≡ digit b i) → a ≡ b
digit_ext zero a b p q h = omega arith
digit_ext (suc k) a b p q h =
    let low : a % 2 ≡ b % 2 = eqb_odd a b (sym (digit_zero a) ∙ h 0 (omega arith) ∙ digit_zero b) in
    let up : a / 2 ≡ b / 2 =
    digit_ext k (a / 2) (b / 2) (omega arith) (omega arith) (λ i l. sym (digit_suc a i) ∙ h (suc i) (omega arith) ∙ digit_suc b i) in
    omega arith

-- the number with given bits
pub number_lt : (f : ℕ → Bool) (k : ℕ) → number f k < 2 ^ k
unfolding number
number_lt f zero = omega arith
number_lt f (suc k) =
    let h : number (λ b. f (suc b)) k < 2 ^ k = number_lt (λ b. f (suc b)) k in go (f 0) h
  where
    go : (t : Bool) → number (λ b. f (suc b)) k < 2 ^ k → cond t 1 0 + 2 * number (λ b. f (suc b)) k < 2 ^ suc k
    go true h = omega arith
    go false h = omega arith

pub digit_number : (f : ℕ → Bool) (k i : ℕ) → i < k → digit (number f k) i ≡ f i
unfolding number
digit_number f zero i h = absurd (omega arith)
digit_number f (suc k) zero h = digit_zero (number f (suc k)) ∙ go (f 0) (number (λ b. f (suc b)) k)
  where
    go : (t : Bool) (x : ℕ) → eqb ((cond t 1 0 + 2 * x) % 2) 1 ≡ t
    go true x = eq-eqb ((1 + 2 * x) % 2) 1 (omega arith)
    go false x = ap (λ y. eqb y 1) (let e : (0 + 2 * x) % 2 ≡ 0 = omega arith in e)
digit_number f (suc k) (suc i) h =
    digit_suc (number f (suc k)) i ∙ ap (λ x. digit x i) (go (f 0) (number (λ b. f (suc b)) k)) ∙ digit_number (λ b. f (suc b)) k i (omega arith)
  where
    go : (t : Bool) (x : ℕ) → (cond t 1 0 + 2 * x) / 2 ≡ x
    go true x = omega arith
    go false x = omega arith
