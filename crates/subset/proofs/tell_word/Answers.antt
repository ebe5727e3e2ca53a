use Rattle.std.proofs.Common.{◌+◌, ◌-◌, ◌<◌, [], ◌∷◌, map, length, drop, sym, ap, ◌∙◌, arith}
use lib.Bits.{bit_and}
use Rattle.std.proofs.lemmas.List.{length-take}
use Rattle.subset.specs.Row.{members}
use Rattle.subset.specs.Says.{laid}
use Rattle.subset.proofs.Lowest.{lowest_first, some_left, next_left, laid_more}
use Rattle.subset.proofs.tell_word.Goals as goal

module _ (c : goal.After-place-1) where
  more : c.loop-place.place-index < length (members (c.args.word ∷ []))
  more =
      omega (arith, length-take (c.args.told + c.ones.result - c.args.told) (drop c.args.told c.args.out.now), c.ones.ensures.count, c.loop-place-test.true)

  left : 0 < c.loop-place.word
  left = some_left c.loop-place.word c.loop-place.place-index (members (c.args.word ∷ [])) c.loop-place.invariant.0 more

pub overflow_sub-word : goal.overflow_sub-word
overflow_sub-word c = left c

pub loop-place-preserved : goal.loop-place-preserved
loop-place-preserved c = (
  next_left c.loop-place.word c.loop-place.place-index (members (c.args.word ∷ [])) c.loop-place.auto.word-fits.fits c.loop-place.invariant.0 (more c),
  laid_more c.loop-place.place-items c.loop-place.place-index _ (map (λ b. c.args.base + b) (members (bit_and c.loop-place.word (c.loop-place.word - 1) ∷ [])))
      (omega (arith, c.loop-place.auto.place-items, c.loop-place-test.true))
      ∙ ap (λ xs. laid c.loop-place.place-items c.loop-place.place-index (map (λ b. c.args.base + b) xs)) (sym (lowest_first c.loop-place.word (left c) c.loop-place.auto.word-fits.fits))
      ∙ c.loop-place.invariant.1,
)
