-- The subsets of a few parts, by their numbers.
use Rattle.std.proofs.Common.{◌≡◌, ℕ, zero, suc, ◌+◌, ◌*◌, ◌/◌, ◌%◌, ◌^◌, ◌<◌, ◌≤◌, Bool, true, false, cond, ◌&&◌, ltb, ◌⊎◌, List, [], ◌∷◌, get_or, Decides, sym, refl, ap, ◌∙◌, subst, inl, inr, arith, pow_pos, pow_mono}
use Rattle.std.proofs.lemmas.Bool.{and_parts, and_from, both_ways, cases_lt, ltb-true, lt-ltb}
use Rattle.subset.specs.Parts.{all_parts, some_of, has, within}
use Rattle.subset.specs.Row.{digit, bit, number, word_by, words_by, words_of}
use Rattle.subset.proofs.Lists.{row_from, row_to, row_wider, every_has, has_every}
use Rattle.subset.proofs.Order.{must_false, past}
use Rattle.subset.proofs.Changes.{has_all}
use Rattle.subset.proofs.Digits.{digit_small}
use Rattle.subset.proofs.Words.{has_members, some_of_members, members_words}
use Rattle.subset.specs.Laws.{EqualSame}
use Rattle.subset.proofs.Stands.{equal_same}
use Rattle.bisect.specs.Judge.{Judge, fails, Monotone, Least}
use Rattle.inspect.specs.Exhaustive.{coded, implies, Tried, of_all, larger_fails, grown, grows, spares, spared}

-- ---- what a call for each number gave
pub tried : (p : List ℕ → Bool) (n : ℕ) (r : Bool) (gave : ℕ → Bool → Type 0) → Tried gave n r → ((c : ℕ) (b : Bool) → c < 2 ^ n → gave c b → b ≡ p (coded c)) → r ≡ of_all n p
unfolding Tried
tried p n true gave all h =
    sym (every_has (λ c. p (coded c)) (all_parts (2 ^ n)) (λ c e. let l = ltb-true c (2 ^ n) (sym (has_all (2 ^ n) c) ∙ e) in sym (h c true l (all c l))))
tried p n false gave (c, l, e) h =
    sym (must_false (of_all n p) (λ all. both_ways _ (sym (h c false l e)) (has_every (λ i. p (coded i)) (all_parts (2 ^ n)) c all (has_all (2 ^ n) c ∙ lt-ltb c (2 ^ n) l))))

-- ---- the numbers below 2^n are those of the subsets of n parts
number_below : (f : ℕ → Bool) (k n : ℕ) → ((b : ℕ) → n ≤ b → f b ≡ false) → number f k < 2 ^ n
unfolding number
number_below f zero n h = pow_pos n
number_below f (suc k) zero h =
    let x : number (λ b. f (suc b)) k < 2 ^ 0 = number_below (λ b. f (suc b)) k 0 (λ b l. h (suc b) (omega arith)) in
    rw (h 0 (omega arith)) (omega arith)
number_below f (suc k) (suc n) h = go (f 0) (number_below (λ b. f (suc b)) k n (λ b l. h (suc b) (omega arith)))
  where
    go : (t : Bool) → number (λ b. f (suc b)) k < 2 ^ n → cond t 1 0 + 2 * number (λ b. f (suc b)) k < 2 ^ suc n
    go true x = omega arith
    go false x = omega arith

code_of : (n : ℕ) (ks : List ℕ) → n ≤ 64 → some_of n ks ≡ true → (c : ℕ) × (c < 2 ^ n) × (coded c ≡ ks)
unfolding words_of words_by word_by
code_of n ks l s =
    let wide : some_of 64 ks ≡ true = row_to 0 64 ks (row_wider 0 n 64 ks l (row_from n ks s)) in
    (number (λ b. has ks (0 * 64 + b)) 64, number_below _ 64 n (λ b h. past n ks (0 * 64 + b) (omega arith) s), members_words 1 ks wide)

coded_has : (n c x : ℕ) → c < 2 ^ n → has (coded c) x ≡ true → ltb x n ≡ true
unfolding bit
coded_has n c x h e = elim (cases_lt x n) [ inl l ↦ lt-ltb x n l | inr l ↦ absurd (both_ways _ (gone l (cases_lt x 64)) e) ]
  where
    gone : n ≤ x → (x < 64) ⊎ (64 ≤ x) → has (coded c) x ≡ false
    gone l (inl m) =
        has_members (c ∷ []) x
        ∙ ap (λ i. digit (get_or (c ∷ []) i 0) (x % 64)) (let z : x / 64 ≡ 0 = omega arith in z)
        ∙ ap (digit c) (let z : x % 64 ≡ x = omega arith in z) ∙ digit_small c x (omega (arith, pow_mono l))
    gone l (inr m) = past 64 (coded c) x m (some_of_members (c ∷ []) 1 refl)

some_coded : (n c : ℕ) → c < 2 ^ n → some_of n (coded c) ≡ true
some_coded n c h =
    and_from _ _ (and_parts _ _ (some_of_members (c ∷ []) 1 refl)).0 (every_has (λ k. ltb k n) (coded c) (λ x e. coded_has n c x h e))

-- so trying them all decides what holds of every subset
pub all_decides : (n : ℕ) (p : List ℕ → Bool) → n ≤ 64 → Decides (of_all n p) ((ks : List ℕ) → some_of n ks ≡ true → p ks ≡ true)
all_decides n p l = (
  λ h ks s.
      let (c, low, e) = code_of n ks l s in
      subst (λ (js : List ℕ). p js ≡ true) e (has_every (λ i. p (coded i)) (all_parts (2 ^ n)) c h (has_all (2 ^ n) c ∙ lt-ltb c (2 ^ n) low)),
  λ h. every_has (λ i. p (coded i)) (all_parts (2 ^ n)) (λ c e. h (coded c) (some_coded n c (ltb-true c (2 ^ n) (sym (has_all (2 ^ n) c) ∙ e)))),
)

-- ---- monotone, and least
implies_to : (a b : Bool) → implies a b ≡ true → a ≡ true → b ≡ true
implies_to true b h e = h
implies_to false b h e = absurd (both_ways _ refl e)

implies_from : (a b : Bool) → (a ≡ true → b ≡ true) → implies a b ≡ true
implies_from true b h = h refl
implies_from false b h = refl

module _ (n : ℕ) (f : Judge) (l : n ≤ 64) where
  pub grows_decides : Decides (grows n f) (Monotone f n)
  grows_decides = (
    λ h ks js sk sj wi fk.
        let all = implies_to (fails f ks) _ ((all_decides n (grown n f) l).0 h ks sk) fk in
        implies_to (within ks js) (fails f js) ((all_decides n (larger_fails f ks) l).0 all js sj) wi,
    λ m. (all_decides n (grown n f) l).1 (λ ks sk.
        implies_from (fails f ks) _ (λ fk. (all_decides n (larger_fails f ks) l).1 (λ js sj. implies_from (within ks js) (fails f js) (λ wi. m ks js sk sj wi fk)))),
  )

  pub spared_decides : (ks : List ℕ) → some_of n ks ≡ true → Decides (spared n f ks) (Least f n ks)
  unfolding EqualSame
  spared_decides ks sk = (
    λ h js sj wi fj.
        sym (equal_same n js ks sj sk) ∙ and_from _ _ wi (implies_to (within js ks && fails f js) _ ((all_decides n (spares f ks) l).0 h js sj) (and_from _ _ wi fj)),
    λ m. (all_decides n (spares f ks) l).1 (λ js sj.
        implies_from (within js ks && fails f js) _ (λ e.
        let (wi, fj) = and_parts (within js ks) (fails f js) e in
        (and_parts (within js ks) _ (equal_same n js ks sj sk ∙ m js sj wi fj)).1)),
  )
