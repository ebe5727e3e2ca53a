-- The worked examples of states, of the table and of starts, one by one.
use Rattle.std.proofs.Common.{rules, [], ◌∷◌, refl, arith, inl}
use Rattle.subset.specs.Parts.{same, all_parts, rising}
use Rattle.bisect.specs.Engine.{acted}
use Rattle.bisect.specs.Machine.{plays}
use Rattle.bisect.specs.Judge.{Monotone}
use Rattle.bisect.specs.Search.{keep}
use Rattle.bisect.specs.Examples.{just, always}
use Rattle.reduce.specs.State.{trial, go_on, next_by, begin, act_by}
use Rattle.reduce.specs.Examples.{after, alike}
use Rattle.reduce.specs.Entry.{ActTold}
use Rattle.reduce.specs.StateExamples.{IdleExamples, TableExamples, StartExamples, StepExamples}

pub of_idle : IdleExamples
unfolding act_by next_by
of_idle = record { idles = refl; stays = refl; after_over = refl; after_calm = refl; after_many = refl }

pub of_table : TableExamples
unfolding alike after plays acted begin act_by next_by go_on trial keep all_parts rising same
of_table =
    record {
      another_verdict = refl;
      odd_more = refl;
      loose = refl;
      another_row = refl;
      another_needed = refl;
      another_question = refl;
      another_transcript = refl;
      another_first = refl;
      another_rest = refl;
      healthy = refl;
    }

shrinks : Monotone (just (1 ∷ [])) 2 → ⊥
unfolding same rising
shrinks m = search (rules, m (1 ∷ []) (0 ∷ 1 ∷ []) refl refl refl refl)

grows : Monotone (always 1) 2
grows ks js s t w h = refl

pub of_starts : StartExamples
unfolding plays acted act_by next_by go_on trial keep all_parts rising same
of_starts =
    record {
      asks = refl;
      knows = refl;
      reduced =
          record {
            lessened = record { done = refl; some = refl; slim = refl };
            inside = refl;
            came = inl refl;
            each = λ x h. search (rules, h);
            nest = λ q a b. refl;
            repeats = (λ h. search (rules, h), tt);
          };
      unasked = λ r. search (rules, r.came);
      outside = λ r. search (rules, r.inside);
      untried = λ r. search (rules, (r.each 0 refl).0);
      aside = λ r. search (rules, r.nest (0 ∷ []) refl refl);
      twice = λ r. search (rules, r.repeats.1.0 refl);
      few = record { all = omega arith; one = λ m. absurd (shrinks m) };
      more = λ w. omega (arith, w.all);
      sharp = record { all = omega arith; one = λ m. omega arith };
      blunt = λ w. omega (arith, w.one grows);
    }

pub of_steps : StepExamples
unfolding ActTold
of_steps =
    record {
      asks = (refl, refl);
      leaves = (refl, refl);
      asks_not = λ d. search (rules, d.0);
      other_memory = λ d. search (rules, d.0);
      other_row = λ d. search (rules, d.1.1);
      not_refused = λ s m o o₁ a. a;
      memory_kept = λ r. search (rules, r.1);
      row_kept = λ r. search (rules, r.2);
      other_refusal = λ r. search (rules, r.0);
    }
