use Rattle.std.proofs.Common.{◌≡◌, Bool, Decides, sym, refl, ap, ◌∙◌, subst, arith}
use Rattle.std.proofs.lemmas.Bool.{leb-true}
use Rattle.bisect.specs.Judge.{Monotone}
use Rattle.inspect.specs.Exhaustive.{grows}
use Rattle.inspect.proofs.Coded.{grows_decides}
use Rattle.inspect.proofs.exhaustive.is_monotone.Goals as goal

pub returns-clause-said : goal.returns-clause-said
returns-clause-said g c =
    let f = g.J.Judge.meaning c.args.judge.now in
    let low = c.in_ok-few.ensures.0 in
    let value : c.grows.result ≡ grows c.args.parts f = c.grows.ensures.value ∙ ap (λ n. grows n f) c.in_ok-few.ensures.1 in
    rw low (c.grows.result, refl, subst (λ (b : Bool). Decides b (Monotone f c.args.parts)) (sym value) (grows_decides c.args.parts f (omega (arith, leb-true c.args.parts 9 low))))
