-- The worked examples, one by one.
use Rattle.std.proofs.Common.{◌&&◌, cond, rules, ◌≡◌, ℕ, zero, suc, ◌≤◌, true, List, [], ◌∷◌, replicate, refl, sym, subst, nat_eq, inl, arith}
use Rattle.std.specs.List.{list_all}
use Rattle.std.proofs.lemmas.List.{length-replicate}
use Rattle.subset.specs.Parts.{same, all_parts, rising, some_of, has}
use Rattle.subset.specs.Laws.{all_small}
use Rattle.bisect.specs.Judge.{fails, Monotone, Decides}
use Rattle.bisect.specs.Engine.{parts, acted, runs, Steady}
use Rattle.bisect.specs.Promise.{Demands, LeanLeast}
use Rattle.bisect.specs.Apart.{Decider}
use Rattle.bisect.specs.Search.{keep, place, pass, fresh}
use Rattle.bisect.specs.Pass.{pass_runs}
use Rattle.bisect.specs.Examples.{both, just, any_of, always, changing, JudgeExamples, RunExamples, PromiseExamples, PassExamples, PassedExamples}
use Rattle.bisect.proofs.Cut.{cut_inner}
use Rattle.bisect.proofs.Least.{lean_least}
use Rattle.bisect.proofs.Demand.{sharp_whole}
use Rattle.subset.proofs.Lists.{has_every}
use Rattle.subset.proofs.Order.{same_is}

both_grows : Monotone both 5
both_grows ks js s t w h = search (rules, has_every)

is_just : (js ks : List ℕ) → fails (just js) ks ≡ true → same js ks ≡ true
is_just js ks h = search rules

unordered : Monotone (just (1 ∷ 0 ∷ [])) 2
unfolding rising
unordered ks js s t w h =
    search (rules, subst (λ k. some_of 2 k ≡ true) (sym (same_is _ _ (is_just (1 ∷ 0 ∷ []) ks h))) s)

apart : Monotone (any_of 2) 2
apart ks js s t w h = search rules

shrinks : Monotone (just (1 ∷ [])) 2 → ⊥
unfolding same rising
shrinks m = search (rules, m (1 ∷ []) (0 ∷ 1 ∷ []) refl refl refl refl)

all_grows : Monotone (always 1) 1
all_grows ks js s t w h = refl

all_grow : Monotone (always 1) 2
all_grow ks js s t w h = refl

all_zero : (k : ℕ) → list_all (λ m. nat_eq m 0) (replicate k 0) ≡ true
all_zero zero = refl
all_zero (suc k) = all_zero k

still_steady : (k : ℕ) → k ≤ 65536 → Steady (changing (replicate k 0) (λ m. m))
unfolding Steady
still_steady k h = (rw (length-replicate {A = ℕ} k 0) h, all_zero k, λ m ev. (refl, λ a. a))

alone : (n x : ℕ) → Decides (Decider x) n x
alone n x js s = search rules

subsets : Decides (λ ks. cond (some_of 2 ks && has ks 0) 1 0) 2 0
subsets js s = search rules

pub of_judges : JudgeExamples
unfolding same all_parts rising LeanLeast
of_judges =
    record {
      no = refl;
      yes = refl;
      unclear = refl;
      slim = refl;
      loose = refl;
      healthy = refl;
      grows = both_grows;
      shrinks = shrinks;
      unordered = unordered;
      apart = apart;
      least = lean_least 5 both (1 ∷ 4 ∷ []) both_grows refl refl;
      smaller = λ l. search (rules, l (1 ∷ 4 ∷ []) refl refl refl);
      alone = alone;
      two = λ d. search (rules, d (1 ∷ []) refl);
      subsets = subsets;
      decider = refl;
    }

pub of_runs : RunExamples
unfolding acted runs all_parts rising Steady all_small
of_runs =
    record {
      ends = refl;
      none = refl;
      asks = refl;
      leaves = refl;
      calm = refl;
      refuses = refl;
      strays = refl;
      falls = refl;
      hears = refl;
      longest = still_steady 65536 (omega arith);
      too_long = λ s. omega (arith, s.0);
      begins_with = λ s. search (rules, s.1);
      longer = λ s. omega (arith, (s.2 [] (parts 0)).0);
      too_large = λ s. search (rules, (s.2 (0 ∷ []) (parts 0)).1 refl);
    }

pub of_promises : PromiseExamples
unfolding same rising Demands LeanLeast
of_promises =
    record {
      lessened = record { done = refl; some = refl; slim = refl };
      unended = λ l. search (rules, l.done);
      loose = λ l. search (rules, l.slim);
      outside = λ l. search (rules, l.some);
      bounded = omega arith;
      unbounded = λ l. omega (arith, l);
      few = λ m. (omega arith, lean_least 1 (always 1) [] all_grows refl refl);
      more = λ w. omega (arith, (w all_grows).0);
      smaller = λ w. search (rules, (w all_grows).1 [] refl refl refl);
      counted = (omega arith, λ m. absurd (shrinks m));
      uncounted = λ w. omega (arith, w.0);
      sharp = (omega arith, λ m. omega arith);
      blunt = λ w. omega (arith, w.1 all_grow);
      steady = λ e w. w.0;
      many = λ e n f w. (w.1 n f).0;
      healthy = λ e n f w. (w.1 n f).1;
      failing = λ e n f w. (w.1 n f).2;
      whole = λ e n f w h g. let (k, l, m) = (w.1 n f).2 h g in (k, l, m.1);
      whole_reduces = λ e w. (w.0, λ n f. let (a, b, c) = w.1 n f in (a, b, λ h g. let (k, l, m) = c h g in (k, l, m.0)));
      sharp_whole = sharp_whole;
    }

pub of_passes : PassExamples
unfolding same pass_runs keep
of_passes =
    record {
      made = cut_inner;
      lowest = λ p l. (omega arith, l);
      highest = λ p l. (omega arith, omega arith);
      past = λ c. omega (arith, (c (fresh (0 ∷ [])) (omega arith)).1);
      below = λ c. omega (arith, (c (pass (place 1 2 2 0 0) []) (omega arith)).0);
      asked = refl;
      unasked = refl;
      again = (λ h. refl, (λ h. refl, tt));
      once = (λ h. search (rules, h), (λ h. search (rules, h), tt));
      twice = λ r. search (rules, r.1.0 refl);
      strictly = (refl, (2, refl, refl));
      evenly = λ s. search (rules, s.1);
      aside = λ s. search (rules, s.0);
      below_two = refl;
      above_two = refl;
      asks_none = refl;
      keeps_none = refl;
    }

pub of_passed : PassedExamples
unfolding same rising
of_passed =
    record {
      passed =
          record {
            done = refl;
            some = refl;
            inside = refl;
            bad = refl;
            came = inl refl;
            shown = λ y h. search (rules, h);
            nest = λ q a b. refl;
            repeats = (λ h. search (rules, h), tt);
            slim = λ m. refl;
            slowly = omega arith;
          };
      unended = λ p. omega (arith, p.done);
      no_subset = λ p. search (rules, p.some);
      outside = λ p. search (rules, p.inside);
      healthy = λ p. search (rules, p.bad);
      unasked = λ p. search (rules, p.came);
      not_shown = λ p. search (rules, (p.shown 0 refl).0);
      aside = λ p. search (rules, p.nest (0 ∷ []) refl refl);
      again = λ p. search (rules, p.repeats.0 refl);
      slow = λ p. omega (arith, p.slowly);
    }
