use Rattle.std.proofs.Common.{◌≡◌, ℕ, ◌+◌, ◌-◌, ◌*◌, ◌≤◌, ◌&&◌, nat_le, true, [], ◌∷◌, length, get_or, refl, ap, ◌∙◌, ap₂, arith, w64, Fits, rules}
use Rattle.subset.specs.Parts.{all_parts}
use Rattle.subset.specs.Row.{bit, cut_out, members}
use Rattle.subset.specs.Says.{few}
use Rattle.subset.proofs.Blocks.{told_word, length_upto_le}
use Rattle.subset.proofs.Ranks.{cutting_none, cutting_more, cut_done}
use Rattle.subset.proofs.Words.{done}
use Rattle.subset.proofs.cut.Goals as goal

pub loop-word-init : goal.loop-word-init
unfolding all_parts
loop-word-init c =
    let small : (i : ℕ) → Fits w64 (get_or c.args.words.now i 0) = λ i. search rules in
    cutting_none c.args.from c.args.to c.args.words.now (λ i. (small i).fits) 0 refl

-- in a turn, once the word, which was not yet changed, is counted and cut
module _ (c : goal.After-cut_word) where
  kept : get_or c.loop-word.words c.loop-word.word-index 0 ≡ get_or c.args.words.now c.loop-word.word-index 0
  kept = c.loop-word.invariant.rest c.loop-word.word-index (omega arith)

  counted : c.ones-here.result ≡ length (members (get_or c.args.words.now c.loop-word.word-index 0 ∷ []))
  counted = c.ones-here.ensures.count ∙ ap (λ w. length (members (w ∷ []))) kept

pub overflow_add-before : goal.overflow_add-before
overflow_add-before c =
    let fit : length c.args.words.now ≤ 64 = search rules in
    record {
      fits = omega (arith, fit, counted c, c.loop-word.invariant.count, told_word c.args.words.now c.loop-word.word-index, length_upto_le (bit c.args.words.now) (64 * (c.loop-word.word-index + 1)));
    }

pub loop-word-preserved : goal.loop-word-preserved
loop-word-preserved c =
    let start : c.saturating_sub.result ≡ c.args.from - c.loop-word.before = search (rules, arith) in
    let end : c.saturating_sub-in-loop-word.result ≡ c.args.to - c.loop-word.before = search (rules, arith) in
    cutting_more c.args.from c.args.to c.args.words.now c.loop-word.words c.loop-word.word-index c.loop-word.before c.cut_word.result c.loop-word.invariant
    c.loop-word.auto.words (omega arith) c.cut_word.type_inv
    (c.cut_word.ensures
    ∙ ap₂ (λ a b. cut_out a b (members (get_or c.loop-word.words c.loop-word.word-index 0 ∷ []))) start end
    ∙ ap (λ w. cut_out (c.args.from - c.loop-word.before) (c.args.to - c.loop-word.before) (members (w ∷ []))) (kept c))
    (c.loop-word.before + c.ones-here.result) (ap (λ k. c.loop-word.before + k) (counted c))

pub returns-clause-after : goal.returns-clause-after
returns-clause-after c =
    let fit : (few c.args.words.now && nat_le c.args.from c.args.to) ≡ true = search rules in
    done _ c.args.words.now _ _ fit
    (cut_done c.args.from c.args.to c.args.words.now c.loop-word.words c.loop-word.word-index c.loop-word.before c.loop-word.auto.words (omega arith) (omega arith) c.loop-word.invariant)
