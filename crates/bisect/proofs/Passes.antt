-- One pass alone ends, and what it has asked is enough.
use Rattle.std.proofs.Common.{◌≡◌, ℕ, zero, suc, ◌+◌, ◌*◌, ◌<◌, ◌≤◌, true, not, ltb, List, [], ◌∷◌, ◌++◌, length, sym, refl, ap, ◌∙◌, subst, inl, inr, arith}
use Rattle.std.proofs.lemmas.Bool.{and_from, ltb-true, ltb-false, not_from_false, cases_lt, cond_both}
use Rattle.subset.specs.Parts.{some_of, without, has}
use Rattle.subset.proofs.Lists.{every_has}
use Rattle.bisect.specs.Judge.{Judge, fails}
use Rattle.bisect.specs.Search.{Pass, fresh, cut_of, question, answered}
use Rattle.bisect.specs.Pass.{Progress, progress, pass_runs, pass_of, Inner, before, beyond, Passed, AnyPass, OnePass}
use Rattle.bisect.proofs.Keep.{above, above_all}
use Rattle.bisect.proofs.Cut.{cut_inner}
use Rattle.bisect.proofs.Right.{Ready, heard_ready, heard_spent, right_fresh, tri, tri_self, Enough, enough_answered}
use Rattle.bisect.proofs.Paid.{Paid, paid_fresh, paid_answered}
use Rattle.bisect.proofs.Nest.{Came, came_known, came_answered}
use Rattle.bisect.proofs.Trace.{Stood, Both, traced_fresh, traced_answered}

tri_twice : (m : ℕ) → 2 * tri m ≡ m * suc m
tri_twice zero = refl
tri_twice (suc m) = omega (arith, tri_twice m)

-- what each answer keeps stands at the end
module _ (cuts : Pass → ℕ) (inner : Inner cuts) (f : Judge) (P : List (List ℕ) → Pass → Type 0)
    (keeps : (qs : List (List ℕ)) (p : Pass) → p.at.lo < p.at.row → P qs p
    → P (question (cuts p) p ∷ qs) (answered (cuts p) p (fails f (question (cuts p) p)))) where
  abbrev Ended : ℕ → Progress → Type 0
  Ended k R = (R.now.at.row ≡ 0) × P R.asked R.now × (length R.asked ≤ k)

  ends : (k : ℕ) (p : Pass) (qs : List (List ℕ)) → Ready p.at → Enough (λ s. 0) k p → P qs p → Ended (k + length qs) (pass_runs cuts f k p qs)
  unfolding pass_runs
  ends zero p qs ready h t = elim (cases_lt 0 p.at.row) [
    | inl a ↦ absurd (omega (arith, ready a, tri_self p.at.row))
    | inr a ↦ (omega arith, t, omega arith)
  ]
  ends (suc k) p qs ready h t =
      let q = question (cuts p) p in
      cond_both (ltb 0 p.at.row) (pass_runs cuts f k (answered (cuts p) p (fails f q)) (q ∷ qs)) (progress p qs) (Ended (suc k + length qs))
      (λ e. let l = ready (ltb-true _ _ e) in
      let i = inner p l in
      let w = ends k (answered (cuts p) p (fails f q)) (q ∷ qs) (heard_ready (cuts p) p.at (fails f q))
      (enough_answered (λ s. 0) k (cuts p) p i.0 i.1 (omega arith) (fails f q) h) (keeps qs p l t) in
      (w.0, w.1, omega (arith, w.2)))
      (λ e. (omega (arith, ltb-false _ _ e), t, omega arith))

  pub pass_ends : (ks : List ℕ) → P [] (fresh ks) → Ended (tri (length ks)) (pass_of cuts f (tri (length ks)) ks)
  pass_ends ks t = let w = ends (tri (length ks)) (fresh ks) [] (λ h. h) (omega arith) t in (w.0, w.1, omega (arith, w.2))

-- ---- from ks, which fail
module _ (n : ℕ) (f : Judge) (ks : List ℕ) (small : length ks ≤ 4096) (sm : some_of n ks ≡ true) (bad : fails f ks ≡ true) where
  abbrev Known : List (List ℕ) → Pass → Type 0
  Known qs p = Both n f ks sm qs p × Came f ks qs p.held

  known_fresh : Known [] (fresh ks)
  known_fresh = ((right_fresh n f ks small sm bad, traced_fresh n f ks sm []), came_known f ks)

  known_answered : (c : ℕ) (qs : List (List ℕ)) (p : Pass) → (p.at.lo ≤ c) × (c < p.at.row) → Known qs p
      → Known (question c p ∷ qs) (answered c p (fails f (question c p)))
  known_answered c qs p i ((w, t), u) = (
    traced_answered n f ks sm qs c p i.0 i.1 w t _ refl,
    came_answered n f ks qs c p i.1 w.sized.high w.some u _ refl,
  )

  passed : (R : Progress) → R.now.at.row ≡ 0 → Known R.asked R.now → length R.asked ≤ tri (length ks) → Passed n f ks R
  passed R e ((w, t), u) l =
      let S = R.now.held in
      let ab : above R.now.at.row S ≡ S = ap (λ (x : ℕ). above x S) e ∙ above_all S in
      record {
        done = e;
        some = w.some;
        inside = every_has (has ks) S u.inside;
        bad = w.bad;
        came = u.asked;
        shown = λ y g. subst (λ (l : List ℕ). Stood f R.asked (before y ks ++ beyond y l)) ab (t.shown y (rw ab g));
        nest = λ q h g. every_has (has q) S (u.nest q h g);
        repeats = u.repeats;
        slim = λ m. and_from _ _ w.bad (every_has (λ k. not (fails f (without k S))) S (λ x g. not_from_false _ (w.needs m x (rw ab g))));
        slowly = omega (arith, tri_twice (length ks));
      }

  any_from : (cuts : Pass → ℕ) → Inner cuts → (k : ℕ) × Passed n f ks (pass_of cuts f k ks)
  any_from cuts inner =
      let w = pass_ends cuts inner f Known (λ qs p l t. known_answered (cuts p) qs p (inner p l) t) ks known_fresh in
      (tri (length ks), passed _ w.0 w.1 w.2)

  abbrev Counted : List (List ℕ) → Pass → Type 0
  Counted qs p = Known qs p × Paid 4096 p × (length qs ≡ p.at.spent)

  one_from : (k : ℕ) × Passed n f ks (pass_of cut_of f k ks) × (length (pass_of cut_of f k ks).asked ≤ 13 * suc (length (pass_of cut_of f k ks).now.held))
  one_from =
      let w = pass_ends cut_of cut_inner f Counted (λ qs p l (t, u, v). (
        known_answered (cut_of p) qs p (cut_inner p l) t,
        paid_answered 4096 (omega arith) p l u _,
        ap suc v ∙ sym (heard_spent (cut_of p) p.at _),
      )) ks (known_fresh, paid_fresh 4096 (omega arith) ks small, refl) in
      (tri (length ks), passed _ w.0 w.1.0 w.2, omega (arith, w.0, w.1.1.paid, w.1.2))

pub any_pass : AnyPass
unfolding AnyPass
any_pass cuts inner n f ks small sm bad = any_from n f ks small sm bad cuts inner

pub one_pass : OnePass
unfolding OnePass
one_pass n f ks small sm bad = one_from n f ks small sm bad
