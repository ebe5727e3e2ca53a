-- What a trial rests on.
use Rattle.std.proofs.Common.{◌≡◌, ℕ, ◌≤◌, Bool, true, false, cond, eqb, List, length, Some, None, Ok, Err, Result, Decides, ◌∙◌, subst}
use Rattle.std.proofs.lemmas.Bool.{and_from, eq-eqb, le-leb}
use Rattle.bisect.specs.Judge.{Judge}
use Rattle.bisect.specs.Engine.{Ran, told_left, told_sound, told_refused}
use Rattle.reduce.specs.Entry.{fits}
use Rattle.judges.specs.Whole.{ended_as, Tells, RunTells}
use Rattle.judges.specs.declared.driver.Ended.{Ended}
use Rattle.judges.specs.declared.driver.RunError.{RunError}
use Rattle.judges.specs.declared.driver.RunError.TheVariants.{TooMany, Unfit}
use Rattle.inspect.specs.Inspector.{Known}
use Rattle.rig.specs.Trial.{left_of, Shows}

-- what is told of a run is what is shown of it
shown_is : (x : Ended) (R : Ran) → Ok x ≡ ended_as R → (x.left ≡ left_of R) × (x.asked ≡ length R.asked)
shown_is x R e = go (eqb R.end told_left) (eqb R.end told_sound) (eqb R.end told_refused) e
  where
    sound : Ended
    sound = record { left = None; asked = length R.asked }

    go : (a b c : Bool) → ◌≡◌ {A = Result Ended RunError} (Ok x) (cond a (Ok (record { left = Some (length R.rest); asked = length R.asked })) (cond b (Ok sound) (cond c (Err TooMany) (Err Unfit))))
        → (x.left ≡ cond a (Some (length R.rest)) None) × (x.asked ≡ length R.asked)
    go true b c h = (cc, cc)
    go false true c h = (cc, cc)
    go false false true h = absurd cc
    go false false false h = absurd cc

pub shows : {f h j : Judge} {n : ℕ} {told b : Bool} {x : Ended} (memory out m₁ out₁ : List ℕ) → h ≡ f → j ≡ h → length memory ≡ 72 → 4096 ≤ length out
    → RunTells (fits memory out) n j out (Ok x) m₁ out₁ → Decides b (Known told n h) → Shows f n told (record { left = x.left; asked = x.asked; monotone = b })
shows {j = j} {n = n} {told = told} {b = b} {x = x} memory out m₁ out₁ first second long room says known =
    let ready : fits memory out ≡ true = and_from _ _ (eq-eqb _ _ long) (le-leb _ _ room) in
    let run = subst (λ (t : Bool). RunTells t n j out (Ok x) m₁ out₁) ready says in
    let ends = subst (λ (i : Judge). Tells n i out (Ok x) m₁ out₁) (second ∙ first) run in
    let (left, count) = shown_is x _ ends.told in
    record { acts = ends.acts; kept = ends.kept; left = left; asked = count; monotone = subst (λ (i : Judge). Decides b (Known told n i)) first known }
