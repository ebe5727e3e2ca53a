-- A trial's question lies strictly within what is held.
use Rattle.std.proofs.Common.{◌≡◌, ℕ, suc, true, false, cond, ltb, List, length, get_or, refl}
use Rattle.std.proofs.lemmas.Bool.{eqb-false}
use Rattle.subset.specs.Parts.{has}
use Rattle.subset.proofs.Lists.{every_has, has_get_or, has_without}
use Rattle.subset.proofs.Order.{must_false}
use Rattle.bisect.specs.Search.{fresh}
use Rattle.reduce.specs.State.{seek, try, over, less, trial, go_on, next_by}
use Rattle.reduce.specs.Start.{current, NestedTrial}

trial_holds : (i : ℕ) (ks : List ℕ) → current (trial i ks) ≡ ks
unfolding trial
trial_holds i ks = elim (ltb i (length ks)) as (λ b. current (cond b (try i ks) (over ks)) ≡ ks) [ true ↦ refl | false ↦ refl ]

fresh_holds : (ks : List ℕ) → current (go_on (fresh ks)) ≡ ks
unfolding go_on
fresh_holds ks =
    elim (ltb 0 (length ks)) as (λ b. current (cond b (seek (fresh ks)) (trial 0 ks)) ≡ ks) [ true ↦ refl | false ↦ trial_holds 0 ks ]

pub nested_trial : NestedTrial
unfolding NestedTrial next_by
nested_trial i ks h = (
  (
    every_has (has ks) (less i ks) (λ y g. (has_without (get_or ks i 0) ks y g).0),
    (get_or ks i 0, has_get_or ks i h, must_false _ (λ g. eqb-false _ _ (has_without (get_or ks i 0) ks (get_or ks i 0) g).1 refl)),
  ),
  fresh_holds (less i ks),
  trial_holds (suc i) ks,
)
