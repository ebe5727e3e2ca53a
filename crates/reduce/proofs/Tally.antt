-- How many questions the machine asks in all. Only this looks at how the cut is chosen.
use Rattle.std.proofs.Common.{◌≡◌, ℕ, zero, suc, ◌+◌, ◌*◌, ◌<◌, ◌≤◌, Bool, true, false, ltb, List, length, get_or, refl, le_of_suc-le-suc, not-suc-le-zero, arith}
use Rattle.std.proofs.lemmas.Bool.{ltb-false, both_ways, cond_both}
use Rattle.subset.proofs.Lists.{has_get_or}
use Rattle.bisect.specs.Judge.{Judge, fails, Monotone}
use Rattle.bisect.specs.Search.{Pass, fresh, cut_of, question, answered}
use Rattle.bisect.proofs.Cut.{cut_inner}
use Rattle.bisect.proofs.Keep.{length_keep}
use Rattle.bisect.proofs.Right.{Finds, answers}
use Rattle.bisect.proofs.Paid.{Paid, paid_fresh, paid_found, paid_failed, paid_stood}
use Rattle.reduce.specs.State.{State, idle, first, seek, try, over, calm, many, less, trial, go_on, next, next_by}
use Rattle.reduce.proofs.Stays.{less_shorter, Stays}

-- the questions of all passes over fewer than s parts, and of their trials
abbrev later : ℕ → ℕ
later zero = 0
later (suc s) = 13 + 14 * s + later s

later_mono : (a b : ℕ) → a ≤ b → later a ≤ later b
later_mono zero b h = omega arith
later_mono (suc a) zero h = absurd (not-suc-le-zero h)
later_mono (suc a) (suc b) h = omega (arith, later_mono a b (le_of_suc-le-suc h))

later_square : (s : ℕ) → later (suc s) ≡ 7 * (s * s) + 20 * s + 13
later_square zero = refl
later_square (suc s) = omega (arith, later_square s)

-- in a pass: c were asked, and with all that may come they are at most B; and few if One, which says that there is but one pass
pub record Counted (B : ℕ) (One : Type 0) (c : ℕ) (p : Pass) : Type 0 where
  pub affords : Paid 4096 p
  pub all : c + 13 * suc (length p.held) + length p.held + later (length p.held) ≤ B + p.at.spent
  pub one : One → c ≤ suc p.at.spent

-- in the trials
pub record Tallied (B : ℕ) (One : Type 0) (c i : ℕ) (ks : List ℕ) : Type 0 where
  pub all : c + length ks + later (length ks) ≤ B + i
  pub one : One → c ≤ 14 + 13 * length ks + i

abbrev pub Tally : (B : ℕ) (One : Type 0) (c : ℕ) → State → Type 0
Tally B One c idle = ⊥
Tally B One c (first ks) = ⊥
Tally B One c (seek p) = Counted B One c p
Tally B One c (try i ks) = Tallied B One c i ks
Tally B One c (over ks) = (c ≤ B) × (One → c ≤ 14 * (length ks + 1))
Tally B One c calm = ⊥
Tally B One c many = ⊥

module _ (B : ℕ) (One : Type 0) (c : ℕ) where
  tally_trial : (i : ℕ) (ks : List ℕ) → i ≤ length ks → Tallied B One c i ks → Tally B One c (trial i ks)
  unfolding trial
  tally_trial i ks h t =
      cond_both (ltb i (length ks)) (try i ks) (over ks) (Tally B One c) (λ e. t)
      (λ e. let l = ltb-false _ _ e in (omega (arith, t.all), λ o. omega (arith, t.one o)))

  tally_go : (p : Pass) → Counted B One c p → Tally B One c (go_on p)
  unfolding go_on
  tally_go p t =
      cond_both (ltb 0 p.at.row) (seek p) (trial p.at.sure p.held) (Tally B One c) (λ e. t) (λ e.
      let l = ltb-false _ _ e in
      tally_trial p.at.sure p.held (omega (arith, t.affords.sized.known))
      (record { all = omega (arith, t.all, t.affords.paid); one = λ o. omega (arith, t.one o, t.affords.paid) }))

  tally_pass : (ks : List ℕ) → length ks ≤ 4096 → c + later (suc (length ks)) ≤ B → (One → c ≤ 1) → Tally B One c (go_on (fresh ks))
  tally_pass ks h e o = tally_go (fresh ks) (record { affords = paid_fresh 4096 (omega arith) ks h; all = omega arith; one = o })

  counted_found : Finds (Counted B One c)
  counted_found p r e i t = record { affords = paid_found 4096 (omega arith) p r e i t.affords; all = t.all; one = t.one }

-- a pass over ks, after c questions
pub tally_fresh : (n : ℕ) (f : Judge) (c : ℕ) (ks : List ℕ) → length ks ≤ 4096 → c ≤ 1
    → Tally (c + (7 * (length ks * length ks) + 20 * length ks + 13)) (Monotone f n) c (go_on (fresh ks))
tally_fresh n f c ks h l = tally_pass _ _ c ks h (omega (arith, later_square (length ks))) (λ m. l)

-- after an answer
module _ (n : ℕ) (f : Judge) (k B c : ℕ) where
  abbrev One : Type 0
  One = Monotone f n

  pub tally_seek : (p : Pass) → p.at.lo < p.at.row → Tally B One c (seek p) → (b : Bool) → Tally B One (suc c) (next (seek p) b)
  unfolding next_by
  tally_seek p h t b =
      let i = cut_inner p h in
      let len = length_keep (cut_of p) p.at.row p.held (omega (arith, i.1)) t.affords.sized.high in
      let shorter : length (question (cut_of p) p) ≤ length p.held = omega (arith, len, i.1) in
      tally_go B One (suc c) (answered (cut_of p) p b)
      (answers (Counted B One (suc c)) (counted_found B One (suc c)) (cut_of p) p i.0 i.1 b
      (λ q. record {
        affords = paid_failed 4096 (omega arith) p h t.affords;
        all = omega (arith, t.all, shorter, later_mono _ _ shorter);
        one = λ o. omega (arith, t.one o);
      })
      (λ q. record { affords = paid_stood 4096 (omega arith) p h t.affords; all = omega (arith, t.all); one = λ o. omega (arith, t.one o) }))

  pub tally_try : (i : ℕ) (ks : List ℕ) → Stays n f k (try i ks) → Tally B One c (try i ks) → (b : Bool) → fails f (less i ks) ≡ b
      → Tally B One (suc c) (next (try i ks) b)
  unfolding next_by
  tally_try i ks (l, s, g) t true e =
      let shorter = less_shorter i ks l in
      tally_pass B One (suc c) (less i ks) (omega (arith, s.small, shorter)) (omega (arith, t.all, later_mono (suc (length (less i ks))) (length ks) shorter))
      (λ m. absurd (both_ways _ (s.needs m (get_or ks i 0) (has_get_or ks i l)) e))
  tally_try i ks (l, s, g) t false e =
      tally_trial B One (suc c) (suc i) ks l (record { all = omega (arith, t.all); one = λ o. omega (arith, t.one o) })
