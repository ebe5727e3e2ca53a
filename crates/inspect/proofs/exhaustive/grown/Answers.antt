use Rattle.std.proofs.Common.{rules, sym, ◌∙◌}
use Rattle.inspect.specs.Exhaustive.{coded, larger_fails}
use Rattle.inspect.proofs.Coded.{tried}
use Rattle.inspect.proofs.exhaustive.grown.Goals as goal

pub returns-then-code_fails-clause-value : goal.returns-then-code_fails-clause-value
returns-then-code_fails-clause-value g c =
    rw (sym c.code_fails.ensures.value ∙ c.if-code_fails.true)
    (tried (larger_fails (g.J.Judge.meaning c.args.judge.now) (coded c.args.code)) c.args.few.parts _ _ c.of_all.ensures.tried
    (λ x b l (j, k, m, q). let e = sym (m ∙ c.code_fails.ensures.same) in rw e (search rules)))
