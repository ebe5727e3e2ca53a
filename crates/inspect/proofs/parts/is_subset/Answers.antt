use Rattle.std.proofs.Common.{ltb, rules, sym, tests, ◌∙◌}
use Rattle.std.proofs.lemmas.Iterator.Search.{all_from_yields_List}
use Rattle.std.proofs.lemmas.Iterator.{YieldsList-from_slice}
use Rattle.inspect.proofs.parts.is_subset.Goals as goal

pub returns-then-rises : goal.returns-then-rises
returns-then-rises c =
    let e = sym c.rises.ensures ∙ c.if-rises.true in
    rw e (all_from_yields_List (λ k. ltb k c.args.parts) _ _ _ c.all.ensures.ran (YieldsList-from_slice c.args.subset.now cc) (λ x b q k. search (rules, tests)))
