-- The machine over lists between two answers, whatever its cuts are: where it stands is right, and so many more questions are enough.
use Rattle.std.proofs.Common.{◌≡◌, ℕ, zero, suc, ◌+◌, ◌<◌, ◌≤◌, Bool, true, false, not, ltb, List, [], ◌∷◌, length, get_or, take, refl, ap, ◌∙◌, le_of_suc-le-suc, not-suc-le-zero, arith, take_all, take-suc}
use Rattle.std.specs.List.{list_all}
use Rattle.std.proofs.lemmas.Bool.{and_from, ltb-true, ltb-false, not_from_false, cond_both}
use Rattle.subset.specs.Parts.{some_of, without, has}
use Rattle.subset.proofs.Lists.{every_cons, every_append, has_get_or, without_some, length_without}
use Rattle.bisect.specs.Judge.{Judge, fails, lean, Monotone}
use Rattle.bisect.specs.Search.{Pass, fresh, question, answered}
use Rattle.bisect.proofs.Keep.{above, above_all, length_keep}
use Rattle.bisect.proofs.Right.{Ready, heard_ready, Right, right_fresh, right_answered, tri, tri_mono, Enough, enough_answered}
use Rattle.reduce.specs.State.{State, idle, first, seek, try, over, calm, many, less, trial, go_on, next_by}

-- all the questions of passes over fewer than s parts, and of their trials
abbrev pub slow : ℕ → ℕ
slow zero = 0
slow (suc s) = tri s + s + slow s

-- and with the trials of s parts
abbrev pub more : ℕ → ℕ
more s = s + slow s

pub slow_mono : (a b : ℕ) → a ≤ b → slow a ≤ slow b
slow_mono zero b h = omega arith
slow_mono (suc a) zero h = absurd (not-suc-le-zero h)
slow_mono (suc a) (suc b) h = omega (arith, slow_mono a b (le_of_suc-le-suc h), tri_mono a b (le_of_suc-le-suc h))

pub less_shorter : (i : ℕ) (ks : List ℕ) → i < length ks → length (less i ks) < length ks
less_shorter i ks h = length_without (get_or ks i 0) ks (has_get_or ks i h)

-- ks fail, and none of the first i can be left out; if failing is monotone, none at all
pub record Trying (n : ℕ) (f : Judge) (i : ℕ) (ks : List ℕ) : Type 0 where
  pub high : i ≤ length ks
  pub small : length ks ≤ 4096
  pub some : some_of n ks ≡ true
  pub bad : fails f ks ≡ true
  pub tried : list_all (λ k. not (fails f (without k ks))) (take i ks) ≡ true
  pub needs : Monotone f n → (x : ℕ) → has ks x ≡ true → fails f (without x ks) ≡ false

-- k more questions are enough
abbrev pub Stays : (n : ℕ) (f : Judge) (k : ℕ) → State → Type 0
Stays n f k idle = ⊥
Stays n f k (first ks) = ⊥
Stays n f k (seek p) = (p.at.lo < p.at.row) × Right n f p × Enough more k p
Stays n f k (try i ks) = (i < length ks) × Trying n f i ks × (more (length ks) ≤ k + i)
Stays n f k (over ks) = (some_of n ks ≡ true) × (lean f ks ≡ true)
Stays n f k calm = ⊥
Stays n f k many = ⊥

module _ (n : ℕ) (f : Judge) (k : ℕ) where
  stays_trial : (i : ℕ) (ks : List ℕ) → Trying n f i ks → more (length ks) ≤ k + i → Stays n f k (trial i ks)
  unfolding trial
  stays_trial i ks t h =
      cond_both (ltb i (length ks)) (try i ks) (over ks) (Stays n f k) (λ e. (ltb-true _ _ e, t, h))
      (λ e. (t.some, and_from _ _ t.bad (rw (take_all i ks (ltb-false _ _ e)) at t.tried)))

  stays_go : (p : Pass) → Ready p.at → Right n f p → Enough more k p → Stays n f k (go_on p)
  unfolding go_on
  stays_go p ready t h =
      cond_both (ltb 0 p.at.row) (seek p) (trial p.at.sure p.held) (Stays n f k) (λ e. (ready (ltb-true _ _ e), t, h)) (λ e.
      let e₁ : p.at.row ≡ 0 = omega (arith, ltb-false _ _ e) in
      let e₂ : above p.at.row p.held ≡ p.held = ap (λ (x : ℕ). above x p.held) e₁ ∙ above_all p.held in
      stays_trial p.at.sure p.held
      (record {
        high = omega (arith, t.sized.known);
        small = omega (arith, t.sized.fewer, t.sized.old);
        some = t.some;
        bad = t.bad;
        tried = rw e₂ at t.surely;
        needs = λ m x g. t.needs m x (rw e₂ g);
      }) (omega (arith, t.sized.low)))

  pub stays_fresh : (ks : List ℕ) → length ks ≤ 4096 → some_of n ks ≡ true → fails f ks ≡ true → slow (suc (length ks)) ≤ k → Stays n f k (go_on (fresh ks))
  stays_fresh ks h sm e l = stays_go (fresh ks) (λ g. g) (right_fresh n f ks h sm e) (omega arith)

  -- after an answer
  pub stays_seek : (c : ℕ) (p : Pass) → p.at.lo ≤ c → c < p.at.row → Stays n f (suc k) (seek p) → (b : Bool) → fails f (question c p) ≡ b
      → Stays n f k (go_on (answered c p b))
  stays_seek c p low high (h, t, g) b e =
      let len = length_keep c p.at.row p.held (omega arith) t.sized.high in
      let shorter : length (question c p) ≤ length p.held = omega (arith, len) in
      stays_go (answered c p b) (heard_ready c p.at b) (right_answered n f c p low high t b e)
      (enough_answered more k c p low high (omega (arith, shorter, slow_mono _ _ shorter)) b g)

  pub stays_try : (cuts : Pass → ℕ) (i : ℕ) (ks : List ℕ) → Stays n f (suc k) (try i ks) → (b : Bool) → fails f (less i ks) ≡ b
      → Stays n f k (next_by cuts (try i ks) b)
  unfolding next_by
  stays_try cuts i ks (h, t, g) true e =
      let shorter = less_shorter i ks h in
      stays_fresh (less i ks) (omega (arith, t.small, shorter)) (without_some (get_or ks i 0) n ks t.some) e
      (omega (arith, slow_mono (suc (length (less i ks))) (length ks) shorter))
  stays_try cuts i ks (h, t, g) false e =
      stays_trial (suc i) ks
      (record {
        high = h;
        small = t.small;
        some = t.some;
        bad = t.bad;
        tried = rw (take-suc ks i 0 h) (every_append _ (take i ks) (get_or ks i 0 ∷ []) t.tried (every_cons (λ k. not (fails f (without k ks))) (get_or ks i 0) [] (not_from_false _ e) refl));
        needs = t.needs;
      }) (omega arith)
