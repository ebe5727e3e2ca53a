-- Whole words at a time: counted, filled, joined.
use Rattle.std.proofs.Common.{◌≡◌, ℕ, zero, suc, ◌+◌, ◌-◌, ◌*◌, ◌/◌, ◌%◌, ◌^◌, ◌<◌, ◌≤◌, min, Bool, true, false, cond, not, ◌&&◌, ◌||◌, eqb, ltb, ◌⊎◌, List, [], ◌∷◌, ◌++◌, map, length, take, get_or, set, sym, refl, ap, ◌∙◌, ap₂, inl, inr, append_assoc, append-nil, arith, length-append, get_or-set_other, get_or-set_same, pow_pos, pow_mono}
use Rattle.std.specs.List.{sum_by}
use lib.Bits.{bit_or, or_lt}
use lib.Count.{ones, ones_in, ones_step}
use lib.ListN.{length-map}
use Rattle.std.proofs.lemmas.List.{get_or_past, take_all, map-append}
use Rattle.std.proofs.lemmas.List.Elements.{filter-append}
use Rattle.std.proofs.lemmas.List.Sums.{sum_by_more}
use Rattle.std.proofs.lemmas.Bool.{lt-ltb, le-ltb, cases_eq, cases_lt}
use Rattle.subset.specs.Parts.{all_parts, has}
use Rattle.subset.specs.Row.{digit, bit, members, joined}
use Rattle.subset.specs.Says.{Holds}
use Rattle.subset.proofs.Lists.{length_those, length_all}
use Rattle.subset.proofs.Order.{subsets_same}
use Rattle.subset.proofs.Changes.{upto, has_upto, has_all, has_joined, some_of_all, some_of_upto}
use Rattle.subset.proofs.Digits.{digit_zero, digit_suc, digit_none, digit_small, digit_turned, digit_or}
use Rattle.subset.proofs.Words.{has_members, holds}

-- ---- the parts below a + b: those below a, and then as many of the next b
abbrev one_if : Bool → ℕ → List ℕ
one_if b n = cond b (n ∷ []) []

upto_suc : (f : ℕ → Bool) (n : ℕ) → upto f (suc n) ≡ upto f n ++ one_if (f n) n
unfolding all_parts
upto_suc f n = filter-append f (all_parts n) (n ∷ [])

map_one : (f : ℕ → ℕ) (b : Bool) (n : ℕ) → map f (one_if b n) ≡ one_if b (f n)
map_one f true n = refl
map_one f false n = refl

pub upto_add : (f g : ℕ → Bool) (a b : ℕ) → ((c : ℕ) → c < b → f (a + c) ≡ g c) → upto f (a + b) ≡ upto f a ++ map (λ c. a + c) (upto g b)
unfolding all_parts
upto_add f g a zero h = ap (upto f) (let z : a + 0 ≡ a = omega arith in z) ∙ sym (append-nil (upto f a))
upto_add f g a (suc b) h =
    ap (upto f) (let z : a + suc b ≡ suc (a + b) = omega arith in z) ∙ upto_suc f (a + b)
    ∙ ap₂ (λ xs t. xs ++ one_if t (a + b)) (upto_add f g a b (λ c l. h c (omega arith))) (h b (omega arith))
    ∙ append_assoc (upto f a) (map (λ c. a + c) (upto g b)) (one_if (g b) (a + b))
    ∙ ap (λ xs. upto f a ++ xs)
    (ap (λ xs. map (λ c. a + c) (upto g b) ++ xs) (sym (map_one (λ c. a + c) (g b) b)) ∙ sym (map-append (λ c. a + c) (upto g b) (one_if (g b) b))
    ∙ ap (map (λ c. a + c)) (sym (upto_suc g b)))

-- ---- one word is a row of its own
pub bit_one : (w b : ℕ) → b < 64 → bit (w ∷ []) b ≡ digit w b
unfolding bit
bit_one w b l = ap₂ (λ j e. digit (get_or (w ∷ []) j 0) e) (let z : b / 64 ≡ 0 = omega arith in z) (let z : b % 64 ≡ b = omega arith in z)

pub bit_block : (ws : List ℕ) (i b : ℕ) → b < 64 → bit ws (64 * i + b) ≡ bit (get_or ws i 0 ∷ []) b
unfolding bit
bit_block ws i b l =
    ap₂ (λ j e. digit (get_or ws j 0) e) (let z : (64 * i + b) / 64 ≡ i = omega arith in z) (let z : (64 * i + b) % 64 ≡ b = omega arith in z)
    ∙ sym (bit_one (get_or ws i 0) b l)

pub members_one : (w : ℕ) → members (w ∷ []) ≡ upto (bit (w ∷ [])) 64
unfolding members
members_one w = refl

-- the members up to word i, and those of word i behind them
pub upto_word : (ws : List ℕ) (i : ℕ) → upto (bit ws) (64 * (i + 1)) ≡ upto (bit ws) (64 * i) ++ map (λ c. 64 * i + c) (members (get_or ws i 0 ∷ []))
upto_word ws i =
    ap (upto (bit ws)) (let z : 64 * (i + 1) ≡ 64 * i + 64 = omega arith in z)
    ∙ upto_add (bit ws) (bit (get_or ws i 0 ∷ [])) (64 * i) 64 (λ b l. bit_block ws i b l)
    ∙ ap (λ xs. upto (bit ws) (64 * i) ++ map (λ c. 64 * i + c) xs) (sym (members_one (get_or ws i 0)))

pub told_word : (ws : List ℕ) (i : ℕ) → length (upto (bit ws) (64 * (i + 1))) ≡ length (upto (bit ws) (64 * i)) + length (members (get_or ws i 0 ∷ []))
told_word ws i =
    ap length (upto_word ws i) ∙ length-append (upto (bit ws) (64 * i)) (map (λ c. 64 * i + c) (members (get_or ws i 0 ∷ [])))
    ∙ ap (λ k. length (upto (bit ws) (64 * i)) + k) (length-map (members (get_or ws i 0 ∷ [])) (λ c. 64 * i + c))

pub upto_all : (ws : List ℕ) (i : ℕ) → i ≡ length ws → upto (bit ws) (64 * i) ≡ members ws
unfolding members
upto_all ws i e = ap (λ k. upto (bit ws) (64 * k)) e

counted_to : (ws : List ℕ) (i : ℕ) → i ≤ length ws → sum_by (λ w. length (members (w ∷ []))) (take i ws) ≡ length (upto (bit ws) (64 * i))
unfolding all_parts
counted_to ws zero h = refl
counted_to ws (suc i) h =
    ap (λ k. sum_by (λ w. length (members (w ∷ []))) (take k ws)) (let z : suc i ≡ i + 1 = omega arith in z)
    ∙ sum_by_more (λ w. length (members (w ∷ []))) ws i 0 (omega arith) ∙ ap (λ k. k + length (members (get_or ws i 0 ∷ []))) (counted_to ws i (omega arith))
    ∙ sym (told_word ws i) ∙ ap (λ k. length (upto (bit ws) (64 * k))) (let z : i + 1 ≡ suc i = omega arith in z)

pub counted_words : (ws : List ℕ) → sum_by (λ w. length (members (w ∷ []))) ws ≡ length (members ws)
counted_words ws =
    ap (sum_by (λ w. length (members (w ∷ [])))) (sym (take_all (length ws) ws (omega arith))) ∙ counted_to ws (length ws) (omega arith)
    ∙ ap length (upto_all ws (length ws) refl)

pub length_upto_le : (f : ℕ → Bool) (n : ℕ) → length (upto f n) ≤ n
length_upto_le f n = omega (arith, length_those f (all_parts n), length_all n)

-- ---- counted
odd_is : (x : ℕ) → x < 2 → length (one_if (eqb x 1) 0) ≡ x
odd_is zero h = refl
odd_is (suc zero) h = refl
odd_is (suc (suc x)) h = absurd (omega arith)

ones_zero : ones 0 ≡ 0
unfolding ones ones_in
ones_zero = refl

digits_counted : (k w : ℕ) → w < 2 ^ k → length (upto (digit w) k) ≡ ones w
unfolding all_parts
digits_counted zero w p = sym (ap ones (let e : w ≡ 0 = omega arith in e) ∙ ones_zero)
digits_counted (suc k) w p =
    let one : upto (digit w) 1 ≡ one_if (digit w 0) 0 = upto_suc (digit w) 0 in
    let split : upto (digit w) (1 + k) ≡ upto (digit w) 1 ++ map (λ c. 1 + c) (upto (digit (w / 2)) k) =
    upto_add (digit w) (digit (w / 2)) 1 k (λ c l. ap (digit w) (let z : 1 + c ≡ suc c = omega arith in z) ∙ digit_suc w c) in
    ap (λ n. length (upto (digit w) n)) (let z : suc k ≡ 1 + k = omega arith in z)
    ∙ ap length split ∙ length-append (upto (digit w) 1) (map (λ c. 1 + c) (upto (digit (w / 2)) k))
    ∙ ap₂ ◌+◌ (ap length (one ∙ ap (λ t. one_if t 0) (digit_zero w)) ∙ odd_is (w % 2) (omega arith))
    (length-map (upto (digit (w / 2)) k) (λ c. 1 + c) ∙ digits_counted k (w / 2) (omega arith))
    ∙ omega (arith, ones_step w)

upto_ext : (f g : ℕ → Bool) (n : ℕ) → ((p : ℕ) → p < n → f p ≡ g p) → upto f n ≡ upto g n
upto_ext f g n h =
    subsets_same n (upto f n) (upto g n) (some_of_upto f n n (omega arith)) (some_of_upto g n n (omega arith))
    (λ q. has_upto f n q ∙ go q (cases_lt q n) ∙ sym (has_upto g n q))
  where
    go : (q : ℕ) → (q < n) ⊎ (n ≤ q) → (ltb q n && f q) ≡ (ltb q n && g q)
    go q (inl l) = ap (λ b. ltb q n && b) (h q l)
    go q (inr l) = rw (le-ltb q n l)

pub word_counted : (w : ℕ) → w < 2 ^ 64 → length (members (w ∷ [])) ≡ ones w
word_counted w small =
    ap length (members_one w ∙ upto_ext (bit (w ∷ [])) (digit w) 64 (λ b l. bit_one w b l)) ∙ digits_counted 64 w small

-- ---- filled
pub digit_ones : (j b : ℕ) → digit (2 ^ j - 1) b ≡ ltb b j
digit_ones j b = go (cases_lt b j)
  where
    go : (b < j) ⊎ (j ≤ b) → digit (2 ^ j - 1) b ≡ ltb b j
    go (inl l) = digit_turned j 0 (2 ^ j - 1) b (omega (arith, pow_pos j)) l ∙ ap not (digit_none b) ∙ sym (lt-ltb b j l)
    go (inr l) = digit_small (2 ^ j - 1) b (omega (arith, pow_pos j, pow_mono l)) ∙ sym (le-ltb b j l)

-- word i of the row of the first n parts
abbrev pub first_word : ℕ → ℕ → ℕ
first_word n i = 2 ^ min (n - 64 * i) 64 - 1

pub fill_done : (ws : List ℕ) (m n : ℕ) → length ws ≡ m → n ≤ 64 * m → ((k : ℕ) → k < m → get_or ws k 0 ≡ first_word n k) → Holds ws m (all_parts n)
unfolding bit
fill_done ws m n e h k =
    holds ws (all_parts n) m e (λ i. small i (cases_lt i m)) (some_of_all n (64 * m) h)
    (λ p l. ap (λ w. digit w (p % 64)) (k (p / 64) (omega arith)) ∙ digit_ones (min (n - 64 * (p / 64)) 64) (p % 64)
    ∙ go p (cases_lt (p % 64) (min (n - 64 * (p / 64)) 64)) ∙ sym (has_all n p))
  where
    small : (i : ℕ) → (i < m) ⊎ (m ≤ i) → get_or ws i 0 < 2 ^ 64
    small i (inl l) =
        let few : min (n - 64 * i) 64 ≤ 64 = omega arith in
        rw (k i l) (omega (arith, pow_pos (min (n - 64 * i) 64), pow_mono few))
    small i (inr l) = rw (get_or_past ws i 0 (omega arith)) (omega arith)

    go : (p : ℕ) → (p % 64 < min (n - 64 * (p / 64)) 64) ⊎ (min (n - 64 * (p / 64)) 64 ≤ p % 64) → ltb (p % 64) (min (n - 64 * (p / 64)) 64) ≡ ltb p n
    go p (inl l) = lt-ltb (p % 64) (min (n - 64 * (p / 64)) 64) l ∙ sym (lt-ltb p n (omega arith))
    go p (inr l) = le-ltb (p % 64) (min (n - 64 * (p / 64)) 64) l ∙ sym (le-ltb p n (omega arith))

-- what lies behind
pub upto_more : (f : ℕ → Bool) (m n : ℕ) → m ≤ n → (ys : List ℕ) × (upto f n ≡ upto f m ++ ys)
upto_more f m n h = (
  map (λ c. m + c) (upto (λ c. f (m + c)) (n - m)),
  ap (upto f) (let z : n ≡ m + (n - m) = omega arith in z) ∙ upto_add f (λ c. f (m + c)) m (n - m) (λ c l. refl),
)

pub length_up : (f : ℕ → Bool) (m n : ℕ) → m ≤ n → length (upto f m) ≤ length (upto f n)
length_up f m n h =
    let w = upto_more f m n h in
    omega (arith, ap length w.1, length-append (upto f m) w.0)

-- ---- joined
pub record Joining (xs ys ws : List ℕ) (i : ℕ) : Type 0 where
  pub small : (k : ℕ) → k < i → get_or ws k 0 < 2 ^ 64
  pub done : (k : ℕ) → k < i → get_or ws k 0 ≡ bit_or (get_or xs k 0) (get_or ys k 0)
  pub rest : (k : ℕ) → i ≤ k → get_or ws k 0 ≡ get_or xs k 0

pub joining_more : (xs ys ws : List ℕ) (i : ℕ) → i < length ws → get_or ws i 0 < 2 ^ 64 → get_or ys i 0 < 2 ^ 64 → Joining xs ys ws i
    → Joining xs ys (set ws i (bit_or (get_or ws i 0) (get_or ys i 0))) (i + 1)
joining_more xs ys ws i h sw sy t =
    record {
      small = λ k l. low k l (cases_eq k i);
      done = λ k l. go k l (cases_eq k i);
      rest = λ k l. get_or-set_other ws i k (bit_or (get_or ws i 0) (get_or ys i 0)) 0 (omega arith) ∙ t.rest k (omega arith);
    }
  where
    go : (k : ℕ) → k < i + 1 → (k ≡ i) ⊎ (k ≡ i → ⊥) → get_or (set ws i (bit_or (get_or ws i 0) (get_or ys i 0))) k 0 ≡ bit_or (get_or xs k 0) (get_or ys k 0)
    go k l (inl e) =
        rw (e, get_or-set_same ws i (bit_or (get_or ws i 0) (get_or ys i 0)) 0 h) (ap (λ w. bit_or w (get_or ys i 0)) (t.rest i (omega arith)))
    go k l (inr d) = get_or-set_other ws i k (bit_or (get_or ws i 0) (get_or ys i 0)) 0 d ∙ t.done k (omega arith)

    low : (k : ℕ) → k < i + 1 → (k ≡ i) ⊎ (k ≡ i → ⊥) → get_or (set ws i (bit_or (get_or ws i 0) (get_or ys i 0))) k 0 < 2 ^ 64
    low k l (inl e) = rw (e, get_or-set_same ws i (bit_or (get_or ws i 0) (get_or ys i 0)) 0 h) (or_lt 64 (get_or ws i 0) (get_or ys i 0) sw sy)
    low k l (inr d) = rw (get_or-set_other ws i k (bit_or (get_or ws i 0) (get_or ys i 0)) 0 d) (t.small k (omega arith))

pub join_done : (xs ys ws : List ℕ) (i : ℕ) → length ws ≡ length xs → i ≡ length xs → Joining xs ys ws i
    → Holds ws (length xs) (joined (64 * length xs) (members xs) (members ys))
unfolding bit
join_done xs ys ws i e d t =
    holds ws (joined (64 * length xs) (members xs) (members ys)) (length xs) e (λ k. small k (cases_lt k i))
    (some_of_upto (λ p. has (members xs) p || has (members ys) p) (64 * length xs) (64 * length xs) (omega arith))
    (λ p l. ap (λ w. digit w (p % 64)) (t.done (p / 64) (omega arith)) ∙ digit_or (get_or xs (p / 64) 0) (get_or ys (p / 64) 0) (p % 64)
    ∙ sym (has_joined (64 * length xs) p (members xs) (members ys) ∙ ap (λ b. b && (has (members xs) p || has (members ys) p)) (lt-ltb p (64 * length xs) l)
    ∙ ap₂ ◌||◌ (has_members xs p) (has_members ys p)))
  where
    small : (k : ℕ) → (k < i) ⊎ (i ≤ k) → get_or ws k 0 < 2 ^ 64
    small k (inl l) = t.small k l
    small k (inr l) = rw (get_or_past ws k 0 (omega arith)) (omega arith)

pub members_up : (ws : List ℕ) (i : ℕ) → i < length ws → length (upto (bit ws) (64 * (i + 1))) ≤ length (members ws)
unfolding members
members_up ws i h = length_up (bit ws) (64 * (i + 1)) (64 * length ws) (omega arith)
