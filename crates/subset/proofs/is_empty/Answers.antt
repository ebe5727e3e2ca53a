use Rattle.std.proofs.Common.{◌==◌, ◌∙◌, tests, rules}
use Rattle.std.proofs.lemmas.Iterator.{YieldsList-from_slice}
use Rattle.std.proofs.lemmas.Iterator.Search.{all_from_yields_List}
use Rattle.subset.proofs.Find.{blank}
use Rattle.subset.proofs.is_empty.Goals as goal

pub returns : goal.returns
returns c =
    all_from_yields_List (λ w. w == 0) _ _ _ c.all.ensures.ran (YieldsList-from_slice c.args.words.now cc) (λ x b q k. search (rules, tests))
    ∙ blank c.args.words.now (λ i. (c.type_inv.words i).fits)
