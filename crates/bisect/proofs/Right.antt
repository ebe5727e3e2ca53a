-- One pass, whatever its cuts are: what stands while it goes on, that each answer keeps it, and that it ends.
use Rattle.std.proofs.Common.{rules, ◌≡◌, ℕ, zero, suc, ◌+◌, ◌<◌, ◌≤◌, Bool, true, false, not, List, length, get_or, take, sym, refl, ap, ◌∙◌, subst, inl, inr, le_of_suc-le-suc, not-suc-le-zero, arith}
use Rattle.std.specs.List.{list_all}
use Rattle.std.proofs.lemmas.Bool.{ltb-false, both_ways, not_from_false, cond_both}
use Rattle.subset.specs.Parts.{some_of, without, has}
use Rattle.subset.proofs.Lists.{every_cons, without_some, without_within}
use Rattle.subset.proofs.Order.{none_has, must_false}
use Rattle.bisect.specs.Judge.{Judge, fails, Monotone}
use Rattle.bisect.specs.Search.{keep, place, fall, settled, heard, Pass, pass, fresh, question, answered}
use Rattle.bisect.specs.declared.Search.{Search}
use Rattle.bisect.proofs.Keep.{above, keep_some, keep_has, length_keep, above_keep, keep_keep, keep_one, above_has, above_cons, above_none}

-- ---- after an answer: the row's beginning failed, or did not; and then, where it is decided, its last is found
abbrev pub failed : ℕ → Pass → Pass
failed c p = pass (place p.at.lo c p.at.begun (suc p.at.spent) 0) (question c p)

abbrev pub stood : ℕ → Pass → Pass
stood c p = pass (place (suc c) p.at.row p.at.begun (suc p.at.spent) p.at.sure) p.held

abbrev pub found : ℕ → Pass → Pass
found r p = pass (place 0 r p.at.begun p.at.spent (suc p.at.sure)) p.held

-- what a found part keeps
abbrev pub Finds : (Pass → Type 0) → Type 0
Finds P = (p : Pass) (r : ℕ) → p.at.lo ≡ suc r → p.at.row ≡ suc r → P p → P (found r p)

module _ (P : Pass → Type 0) (finds : Finds P) where
  settles : (p : Pass) → p.at.lo ≤ p.at.row → P p → P (pass (settled p.at) p.held)
  settles p h t = cond_both _ _ _ (λ s. P (pass s p.held)) (λ e. t) (λ e. falls p.at.row refl (omega (arith, ltb-false _ _ e)))
    where
      falls : (r : ℕ) → p.at.row ≡ r → p.at.lo ≡ r → P (pass (fall r p.at) p.held)
      falls zero i e = t
      falls (suc r) i e = finds p r e i t

  -- and what stands before the row is settled stands after the answer
  module _ (c : ℕ) (p : Pass) (low : p.at.lo ≤ c) (high : c < p.at.row) where
    pub answers : (b : Bool) → (b ≡ true → P (failed c p)) → (b ≡ false → P (stood c p)) → P (answered c p b)
    answers true f s = settles (failed c p) low (f refl)
    answers false f s = settles (stood c p) high (s refl)

-- there is something to ask of, or the row is empty
abbrev pub Ready : Search → Type 0
Ready s = 0 < s.row → s.lo < s.row

fall_ready : (r : ℕ) (s : Search) → s.row ≡ r → Ready (fall r s)
fall_ready zero s i h = absurd (omega arith)
fall_ready (suc r) s i h = h

settled_ready : (s : Search) → Ready (settled s)
settled_ready s = search rules

-- the numbers after an answer, before they are settled
abbrev cut_off : ℕ → Search → Search
cut_off c s = place s.lo c s.begun (suc s.spent) 0

abbrev raised : ℕ → Search → Search
raised c s = place (suc c) s.row s.begun (suc s.spent) s.sure

pub heard_ready : (c : ℕ) (s : Search) (b : Bool) → Ready (heard c s b)
heard_ready c s true = settled_ready (cut_off c s)
heard_ready c s false = settled_ready (raised c s)

fall_spent : (r : ℕ) (s : Search) → (fall r s).spent ≡ s.spent
fall_spent zero s = refl
fall_spent (suc r) s = refl

settled_spent : (s : Search) → (settled s).spent ≡ s.spent
settled_spent s = search rules

pub heard_spent : (c : ℕ) (s : Search) (b : Bool) → (heard c s b).spent ≡ suc s.spent
heard_spent c s true = settled_spent (cut_off c s)
heard_spent c s false = settled_spent (raised c s)

-- ---- the sizes: at most so many parts
pub record Sized (most : ℕ) (p : Pass) : Type 0 where
  pub low : p.at.lo ≤ p.at.row
  pub high : p.at.row ≤ length p.held
  pub fewer : length p.held ≤ p.at.begun
  pub old : p.at.begun ≤ most
  pub known : p.at.sure + p.at.row ≤ length p.held

module _ (most : ℕ) where
  pub sized_fresh : (ks : List ℕ) → length ks ≤ most → Sized most (fresh ks)
  sized_fresh ks h = search rules

  pub sized_found : Finds (Sized most)
  sized_found p r e i t = search rules

  module _ (c : ℕ) (p : Pass) (low : p.at.lo ≤ c) (high : c < p.at.row) (t : Sized most p) where
    pub sized_failed : Sized most (failed c p)
    sized_failed =
        let len = length_keep c p.at.row p.held (omega arith) t.high in
        record { low = low; high = omega (arith, len); fewer = omega (arith, len, t.fewer); old = t.old; known = omega (arith, len) }

    pub sized_stood : Sized most (stood c p)
    sized_stood = search rules

-- ---- what stands
pub record Right (n : ℕ) (f : Judge) (p : Pass) : Type 0 where
  pub sized : Sized 4096 p
  pub some : some_of n p.held ≡ true
  pub bad : fails f p.held ≡ true
  pub edge : (l : ℕ) → p.at.lo ≡ suc l → fails f (question l p) ≡ false
  pub surely : list_all (λ k. not (fails f (without k p.held))) (take p.at.sure (above p.at.row p.held)) ≡ true
  pub needs : Monotone f n → (x : ℕ) → has (above p.at.row p.held) x ≡ true → fails f (without x p.held) ≡ false

module _ (n : ℕ) (f : Judge) where
  -- less than what doesn't fail without x doesn't, either
  still : Monotone f n → (x : ℕ) (js ks : List ℕ) → some_of n js ≡ true → some_of n ks ≡ true → ((y : ℕ) → has js y ≡ true → has ks y ≡ true)
      → fails f (without x ks) ≡ false → fails f (without x js) ≡ false
  still m x js ks a b h e =
      must_false _ (λ q. both_ways _ e (m (without x js) (without x ks) (without_some x n js a) (without_some x n ks b) (without_within x js ks h) q))

  pub right_fresh : (ks : List ℕ) → length ks ≤ 4096 → some_of n ks ≡ true → fails f ks ≡ true → Right n f (fresh ks)
  right_fresh ks h sm e = record {
    sized = sized_fresh 4096 ks h;
    some = sm;
    bad = e;
    edge = λ l q. absurd (omega arith);
    surely = refl;
    needs = λ m x g. absurd (none_has x (rw (above_none ks) at g));
  }

  pub right_found : Finds (Right n f)
  right_found p r e i t =
      let ks = p.held in
      let h : r < length ks = omega (arith, t.sized.high) in
      let x = get_or ks r 0 in
      let one : fails f (without x ks) ≡ false =
      rw (← (keep_one n r ks h t.some)) (subst (λ (k : ℕ). fails f (keep r k ks) ≡ false) i (t.edge r e)) in
      record {
        sized = sized_found 4096 p r e i t.sized;
        some = t.some;
        bad = t.bad;
        edge = λ l q. absurd (omega arith);
        surely =
            rw (above_cons r ks h)
            (every_cons (λ k. not (fails f (without k ks))) x (take p.at.sure (above (suc r) ks)) (not_from_false _ one)
            (subst (λ (k : ℕ). list_all (λ k. not (fails f (without k ks))) (take p.at.sure (above k ks)) ≡ true) i t.surely));
        needs = λ m y g.
            elim (above_has r ks y h g) [ inl a ↦ rw a one | inr a ↦ t.needs m y (subst (λ (k : ℕ). has (above k ks) y ≡ true) (sym i) a) ];
      }

  module _ (c : ℕ) (p : Pass) (low : p.at.lo ≤ c) (high : c < p.at.row) (t : Right n f p) where
    pub right_failed : fails f (question c p) ≡ true → Right n f (failed c p)
    right_failed e =
        let ks = p.held in
        let r = p.at.row in
        let sm : some_of n (question c p) ≡ true = keep_some n c r ks (omega arith) t.some in
        let ab : above c (question c p) ≡ above r ks = above_keep c r ks (omega arith) t.sized.high in
        record {
          sized = sized_failed 4096 c p low high t.sized;
          some = sm;
          bad = e;
          edge = λ l q. rw (keep_keep l c r ks (omega arith) (omega arith) t.sized.high) (t.edge l q);
          surely = refl;
          needs = λ m x g. still m x (question c p) ks sm t.some (keep_has c r ks) (t.needs m x (rw ab at g));
        }

    pub right_stood : fails f (question c p) ≡ false → Right n f (stood c p)
    right_stood e = search rules

    pub right_answered : (b : Bool) → fails f (question c p) ≡ b → Right n f (answered c p b)
    right_answered b e = answers (Right n f) right_found c p low high b (λ q. right_failed (e ∙ q)) (λ q. right_stood (e ∙ q))

-- ---- it ends: with a row of r at most so many questions are left in this pass
abbrev pub tri : ℕ → ℕ
tri zero = 0
tri (suc r) = suc r + tri r

pub tri_self : (r : ℕ) → r ≤ tri r
tri_self zero = omega arith
tri_self (suc r) = omega arith

pub tri_mono : (a b : ℕ) → a ≤ b → tri a ≤ tri b
tri_mono zero b h = omega arith
tri_mono (suc a) zero h = absurd (not-suc-le-zero h)
tri_mono (suc a) (suc b) h = omega (arith, tri_mono a b (le_of_suc-le-suc h))

-- k questions are enough, if `more s` are kept for what follows a pass that leaves s parts
abbrev pub Enough : (more : ℕ → ℕ) → ℕ → Pass → Type 0
Enough more k p = tri p.at.row + more (length p.held) ≤ k + p.at.lo

module _ (more : ℕ → ℕ) (k c : ℕ) (p : Pass) (low : p.at.lo ≤ c) (high : c < p.at.row) where
  pub enough_answered : more (length (question c p)) ≤ more (length p.held) → (b : Bool) → Enough more (suc k) p → Enough more k (answered c p b)
  enough_answered h b t =
      answers (Enough more k) (λ q r e i u. omega (arith, ap tri i)) c p low high b (λ q. omega (arith, tri_mono (suc c) p.at.row high)) (λ q. omega arith)
