-- What is known of lean subsets, whatever the judge.
use Rattle.std.proofs.Common.{◌≡◌, ℕ, true, not, eqb, List, [], ◌∷◌, sym, ◌∙◌, inl, inr, arith}
use Rattle.std.proofs.lemmas.Bool.{and_parts, eqb-true, eqb-false, ne_eqb, both_ways, cases_Bool, not-true}
use Rattle.subset.specs.Parts.{without, has}
use Rattle.subset.proofs.Lists.{row_from, has_cons, has_head, every_has, has_every, without_has, without_some}
use Rattle.subset.proofs.Order.{none_has, same_members}
use Rattle.bisect.specs.Judge.{Judge, fails, lean}
use Rattle.bisect.specs.Promise.{LeanLeast, NeededLeft, OneDecides}

-- a lean subset doesn't fail without one of its parts
lean_needs : (f : Judge) (ks : List ℕ) (x : ℕ) → lean f ks ≡ true → has ks x ≡ true → fails f (without x ks) ≡ true → ⊥
lean_needs f ks x ln h g =
    both_ways _ (not-true _ (has_every (λ k. not (fails f (without k ks))) ks x (and_parts _ _ ln).1 h)) g

pub lean_least : LeanLeast
unfolding LeanLeast
lean_least n f ks m sk ln js sj wi fj =
    same_members 0 n js ks (row_from n js sj) (row_from n ks sk) (λ x h. has_every (has ks) js x wi h)
    (λ x h. elim (cases_Bool (has js x)) [
      | inl e ↦ e
      | inr e ↦ absurd (lean_needs f ks x ln h
          (m js (without x ks) sj (without_some x n ks sk)
          (every_has (has (without x ks)) js (λ y g. without_has x ks y (has_every (has ks) js y wi g) (ne_eqb y x (λ q. both_ways _ e (rw q at g)))))
          fj))
    ])

pub needed_left : NeededLeft
unfolding NeededLeft
needed_left f x ks h ln = h ks (and_parts _ _ ln).0

pub one_decides : OneDecides
unfolding OneDecides
one_decides n x f ks l d s ln =
    let hx : has ks x ≡ true = sym (d ks s) ∙ (and_parts _ _ ln).0 in
    same_members 0 n ks (x ∷ []) (row_from n ks s) (omega arith, l, tt)
    (λ y g. elim (cases_Bool (eqb y x)) [
      | inl e ↦ rw (eqb-true y x e) (has_head x [])
      | inr e ↦ absurd (lean_needs f ks y ln g
          (d (without y ks) (without_some y n ks s) ∙ without_has y ks x hx (ne_eqb x y (λ q. eqb-false y x e (sym q)))))
    ])
    (λ y g. elim (has_cons x [] y g) [ inl e ↦ rw e hx | inr e ↦ absurd (none_has y e) ])
