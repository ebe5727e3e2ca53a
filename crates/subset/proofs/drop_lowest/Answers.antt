use Rattle.std.proofs.Common.{[], ◌∷◌, arith}
use Rattle.subset.specs.Row.{members}
use Rattle.subset.proofs.Lowest.{some_left, next_left}
use Rattle.subset.proofs.drop_lowest.Goals as goal

pub overflow_sub-word : goal.overflow_sub-word
overflow_sub-word c =
    some_left c.loop.word c.loop.counter (members (c.args.word ∷ [])) c.loop.invariant (omega (arith, c.ones.ensures.count, c.min-end.ensures, c.loop-test.true))

pub loop-preserved : goal.loop-preserved
loop-preserved c =
    next_left c.loop.word c.loop.counter (members (c.args.word ∷ [])) c.loop.auto.word-fits.fits c.loop.invariant
    (omega (arith, c.ones.ensures.count, c.min-end.ensures, c.loop-test.true))
