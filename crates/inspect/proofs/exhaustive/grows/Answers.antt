use Rattle.std.proofs.Common.{rules, sym}
use Rattle.inspect.specs.Exhaustive.{grown}
use Rattle.inspect.proofs.Coded.{tried}
use Rattle.inspect.proofs.exhaustive.grows.Goals as goal

pub returns-clause-value : goal.returns-clause-value
returns-clause-value g c =
    tried (grown c.args.few.parts (g.J.Judge.meaning c.args.judge.now)) c.args.few.parts _ _ c.of_all.ensures.tried (λ x b l (j, k, m, q). let e = sym m in rw e (search rules))
