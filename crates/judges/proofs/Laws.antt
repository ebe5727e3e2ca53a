-- What is monotone, and what is not.
use Rattle.std.proofs.Common.{◌≡◌, ℕ, suc, ◌≤◌, Bool, true, false, cond, not, eqb, leb, List, [], ◌∷◌, length, refl, ◌∙◌, inl, inr, arith}
use Rattle.std.specs.List.{list_any}
use Rattle.std.proofs.lemmas.Bool.{and_parts, and_from, or_cases, or_left, or_right, both_ways, not-true, not_from_true, not_from_false, le-leb, lt-ltb, eq-eqb, eqb-true, cases_Bool}
use Rattle.subset.specs.Parts.{has, within, without, all_parts}
use Rattle.subset.proofs.Lists.{Row, row_all, row_without, row_to, every_has, has_every, has_without, without_some, those_in, those_out, length_all}
use Rattle.subset.proofs.Order.{must_false}
use Rattle.subset.proofs.Changes.{has_all}
use Rattle.judges.specs.Spelled.{lists_of}
use Rattle.judges.specs.Sets.{has_one, SetsGrow}
use Rattle.judges.specs.Rule.{RuleTurns}

-- what says 1 by a test
failing : (b : Bool) → eqb (cond b 1 0) 1 ≡ true → b ≡ true
failing true e = refl
failing false e = absurd (both_ways _ refl e)

fails_so : (b : Bool) → b ≡ true → eqb (cond b 1 0) 1 ≡ true
fails_so b e = rw e

within_more : (set ks js : List ℕ) → within ks js ≡ true → within set ks ≡ true → within set js ≡ true
within_more set ks js h e = every_has (has js) set (λ y g. has_every (has js) ks y h (has_every (has ks) set y e g))

any_more : (sets : List (List ℕ)) (ks js : List ℕ) → within ks js ≡ true → list_any (λ set. within set ks) sets ≡ true → list_any (λ set. within set js) sets ≡ true
any_more [] ks js h e = e
any_more (set ∷ sets) ks js h e =
    elim (or_cases (within set ks) (list_any (λ s. within s ks) sets) e)
    [ inl a ↦ or_left (within set js) _ (within_more set ks js h a) | inr a ↦ or_right (within set js) _ (any_more sets ks js h a) ]

pub sets_grow : SetsGrow
unfolding SetsGrow
sets_grow row n ks js a b h e = fails_so (has_one row js) (any_more (lists_of row) ks js h (failing (has_one row ks) e))

-- a subset has a part at most once
one_less : (x b n : ℕ) (ks : List ℕ) → Row b n ks → length ks ≤ suc (length (without x ks))
one_less x b n [] r = omega arith
one_less x b n (k ∷ ks) r =
    elim (cases_Bool (eqb k x)) [
      | inl e ↦ rw (those_out (λ j. not (eqb j x)) k ks (not_from_true _ e), row_without x (suc k) n ks (omega (arith, eqb-true k x e)) r.2) (omega arith)
      | inr e ↦ rw (those_in (λ j. not (eqb j x)) k ks (not_from_false _ e)) (omega (arith, one_less x (suc k) n ks r.2))
    ]

-- all parts but the forbidden one fail, and all together don't
pub rule_turns : RuleTurns
unfolding RuleTurns
rule_turns least forbidden n l f m =
    let js : List ℕ = all_parts n in
    let ks : List ℕ = without forbidden js in
    let some = row_to 0 n js (row_all n) in
    let enough : least ≤ length ks = omega (arith, one_less forbidden 0 n js (row_all n), length_all n) in
    let gone = must_false (has ks forbidden) (λ e. both_ways _ (has_without forbidden js forbidden e).1 (eq-eqb forbidden forbidden refl)) in
    let failed = fails_so _ (and_from _ _ (le-leb least (length ks) enough) (not_from_false (has ks forbidden) gone)) in
    let all = failing _ (m ks js (without_some forbidden n js some) some (every_has (has js) ks (λ y h. (has_without forbidden js y h).0)) failed) in
    both_ways (has js forbidden) (not-true (has js forbidden) (and_parts (leb least (length js)) _ all).1) (has_all n forbidden ∙ lt-ltb forbidden n f)
