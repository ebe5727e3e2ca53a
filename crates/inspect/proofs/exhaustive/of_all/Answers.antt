use Rattle.std.proofs.Common.{◌≡◌, ◌∙◌, inl, inr, arith}
use Rattle.std.proofs.lemmas.Bool.{cases_lt}
use Rattle.inspect.specs.Exhaustive.{Tried}
use Rattle.inspect.proofs.exhaustive.of_all.Goals as goal

pub returns-then-not-holds-clause-tried : goal.returns-then-not-holds-clause-tried
unfolding Tried
returns-then-not-holds-clause-tried g c =
    let gave = c.holds.ensures in
    (c.loop-code.code, omega (arith, c.loop-code-test.true, c.args.few.all), (_, _, c.loop-code.invariant.0, rw c.if-not-holds.true at gave))

pub loop-code-preserved : goal.loop-code-preserved
loop-code-preserved g c =
    let gave = c.holds.ensures in (
      c.requires.keeps _ _ c.loop-code.code _ (omega arith) gave ∙ c.loop-code.invariant.0,
      λ x l. elim (cases_lt x c.loop-code.code) [
        | inl m ↦ c.loop-code.invariant.1 x m
        | inr m ↦ let same : x ≡ c.loop-code.code = omega arith in rw same (_, _, c.loop-code.invariant.0, rw c.if-not-holds.false at gave)
      ],
    )

pub returns-clause-tried : goal.returns-clause-tried
unfolding Tried
returns-clause-tried g c = λ x l. c.loop-code.invariant.1 x (omega (arith, c.loop-code-test.false, c.args.few.all))
