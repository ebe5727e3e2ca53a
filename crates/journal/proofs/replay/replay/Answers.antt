use Rattle.std.proofs.Common.{rules, ◌+◌, tests, ◌≡◌, ◌≢◌, ◌<◌, ℕ, List, fold, get_or, length, take, None, Option, Ok, Err, Result, IfOk, IfErr, ◌==◌, sym, ap, ◌∙◌, refl}
use Rattle.std.specs.List.{enumerate_from, slice_split}
use Rattle.std.proofs.lemmas.Iterator.{YieldsList}
use Rattle.std.proofs.lemmas.Iterator.Splits.{YieldsList-from_slice_split}
use Rattle.std.proofs.lemmas.Iterator.Consumers.{YieldsList-at, YieldsList-from_enumerate, YieldsList-turn, YieldsList-end, YieldsList-so_far}
use Rattle.std.proofs.lemmas.List.Folds.{fold_stuck}
use Rattle.journal.specs.Replay.{numbered, read_line, read_lines, replayed, taken_up, whole_lines}
use Rattle.journal.specs.declared.line.Fault.TheVariants.{OutOfMemory}
use Rattle.journal.specs.declared.replay.Broken.{Broken}
use Rattle.journal.specs.declared.replay.Replayed.{Replayed}
use Rattle.journal.proofs.replay.replay.Given as given
use Rattle.journal.proofs.replay.replay.Goals as goal
use Rattle.journal.proofs.replay.replay.Goals.{At-loop-index}

abbrev lines : List ℕ → List (List ℕ)
lines bs = slice_split (λ b. b == 10) bs

-- the loop goes over the lines, with their numbers
road : (c : At-loop-index)
    → YieldsList (given.iterator-loop-index).next_gives (λ w. (w.0, w.1.now)) c.into_iter-index-iterator.result (enumerate_from 0 (lines c.whole_lines.result.now))
road c =
    YieldsList-at c.into_iter-index-iterator.ensures.into_iter_gives
    (YieldsList-from_enumerate
    (YieldsList-at c.enumerate-index-items.ensures.source
    (YieldsList-from_slice_split _ (λ b. b == 10) c.whole_lines.result.now c.split-lines.ensures.rest c.split-lines.ensures.done c.split-lines.ensures.closure
    (λ x b q k. search (rules, tests))))
    c.enumerate-index-items.ensures.count)

-- a line that is at fault ends the reading
stops : (ls : List (List ℕ)) (i : ℕ) (x : ℕ × List ℕ) (j : Option Replayed) (b : Broken) → i < length (enumerate_from 0 ls) → x ≡ get_or (enumerate_from 0 ls) i x
    → fold read_line (Ok None) (take i (enumerate_from 0 ls)) ≡ Ok j → read_line (Ok j) x ≡ Err b → read_lines ls ≡ Err b
stops ls i x j b low here so_far bad = sym (fold_stuck read_line (Err b) (λ x. refl) (Ok None) (enumerate_from 0 ls) i x low (rw (so_far, sym here, bad)))

if_ok : (x r : Result Replayed Broken) → x ≡ r → IfOk r (λ j. x ≡ Ok j)
if_ok x (Ok j) e = e
if_ok x (Err b) e = tt

if_err : (x r : Result Replayed Broken) → x ≡ r → IfErr r (λ b. b.fault ≢ OutOfMemory → x ≡ Err b)
if_err x (Ok j) e = tt
if_err x (Err b) e = λ _. e

pub returns-in_err-replayed-clause-err : goal.returns-in_err-replayed-clause-err
returns-in_err-replayed-clause-err c =
    let over = road (goal.at.returns-in_err-replayed-clause-err c).At-loop-index in
    let here = YieldsList-turn over c.loop-index.yielded _ c.loop-index.yielded_by _ _ _ c.in-Some.is c.next.ensures.steps in
    let so_far = YieldsList-so_far over c.loop-index.yielded _ c.loop-index.yielded_by in
    let before = rw so_far at c.loop-index.invariant.2 in
    let broken = c.in_err-replayed.field-0.0 in
    let bad : broken.fault ≢ OutOfMemory → numbered c.loop-index.replayed (c.in-Some.index + 1) c.in-Some.line.now ≡ Err broken = rw c.in_err-replayed.was at c.read_line.ensures.err in
    let stopped : broken.fault ≢ OutOfMemory → replayed c.args.text.now ≡ Err broken = λ h.
    ap (λ bs. taken_up (read_lines (lines bs))) (sym c.whole_lines.ensures) ∙ ap taken_up (stops _ _ _ _ _ here.0 here.1 before (bad h)) in
    search (rules, stopped)

-- after the last line
done : (c : goal.After-ok_or) → replayed c.args.text.now ≡ c.ok_or.result
done c =
    let over = road (goal.at.returns-clause-ok c).At-loop-index in
    let all = YieldsList-end over c.loop-index.yielded _ c.loop-index.yielded_by _ _ c.in-None.is c.next.ensures.steps in
    let read : read_lines (lines (whole_lines c.args.text.now)) ≡ Ok c.loop-index.replayed =
    ap (λ bs. read_lines (lines bs)) (sym c.whole_lines.ensures) ∙ ap (fold read_line (Ok None)) (sym all.0) ∙ c.loop-index.invariant.2 in
    ap taken_up read ∙ sym c.ok_or.ensures.value

pub returns-clause-ok : goal.returns-clause-ok
returns-clause-ok c = if_ok _ _ (done c)

pub returns-clause-err : goal.returns-clause-err
returns-clause-err c = if_err _ _ (done c)
