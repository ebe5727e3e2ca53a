use Rattle.std.proofs.Common.{rules, tests, ◌≡◌, ℕ, ◌<◌, List, [], Some, None, length, take, get_or, ◌==◌, not, sym, ap, ◌∙◌}
use Rattle.std.specs.Result.{result_ok}
use Rattle.std.proofs.lemmas.Iterator.{YieldsList}
use Rattle.std.proofs.lemmas.Iterator.Splits.{YieldsList-from_slice_split}
use Rattle.std.proofs.lemmas.Iterator.Consumers.{YieldsList-at, YieldsList-from_filter, YieldsList-turn, YieldsList-end, YieldsList-so_far}
use Rattle.std.proofs.lemmas.List.Folds.{fold_stuck}
use Rattle.dialog.specs.Reading.{text_size}
use Rattle.journal.specs.Line.{numbers, and_word, words}
use Rattle.journal.proofs.line.numbers_in.Given as given
use Rattle.journal.proofs.line.numbers_in.Goals as goal
use Rattle.journal.proofs.line.numbers_in.Goals.{At-loop-word}

-- the loop goes over the words of the text
road : (c : At-loop-word) → YieldsList (given.iterator-loop-word).next_gives (λ w. w.now) c.into_iter-word-iterator.result (words c.args.text.now)
road c =
    YieldsList-at c.into_iter-word-iterator.ensures.into_iter_gives
    (YieldsList-from_filter _ (λ (w : List ℕ). not (length w == 0))
    (YieldsList-at c.filter-word-items.ensures.source
    (YieldsList-from_slice_split _ (λ b. b == 32) c.args.text.now c.split.ensures.rest c.split.ensures.done c.split.ensures.closure (λ x b q k. search (rules, tests))))
    c.filter-word-items.ensures.closure (λ x b q k. search (rules, tests)))

-- a word that says no number ends the reading
stops : (ws : List (List ℕ)) (i : ℕ) (w : List ℕ) (ks : List ℕ) → i < length ws → w ≡ get_or ws i w → numbers (take i ws) ≡ Some ks → result_ok (text_size w) ≡ None → numbers ws ≡ None
stops ws i w ks low here so_far bad = sym (fold_stuck and_word None (λ x. search rules) (Some []) ws i w low (rw (so_far, sym here, bad)))

pub returns-in_err-number-clause-err : goal.returns-in_err-number-clause-err
returns-in_err-number-clause-err c =
    let over = road (goal.at.returns-in_err-number-clause-err c).At-loop-word in
    let here = YieldsList-turn over c.loop-word.yielded _ c.loop-word.yielded_by _ _ c.in-Some.word c.in-Some.is c.next.ensures.steps in
    let so_far = YieldsList-so_far over c.loop-word.yielded _ c.loop-word.yielded_by in
    let bad : result_ok (text_size c.in-Some.word.now) ≡ None = search rules in
    let none : numbers (words c.args.text.now) ≡ None = stops (words c.args.text.now) (length c.loop-word.yielded) c.in-Some.word.now _ here.0 here.1 (rw so_far at c.loop-word.invariant.2) bad in
    search (rules, none)

pub returns-clause-ok : goal.returns-clause-ok
returns-clause-ok c =
    let over = road (goal.at.returns-clause-ok c).At-loop-word in
    let all = YieldsList-end over c.loop-word.yielded _ c.loop-word.yielded_by _ _ c.in-None.is c.next.ensures.steps in
    ap numbers (sym all.0) ∙ c.loop-word.invariant.2
