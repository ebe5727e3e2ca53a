use Rattle.std.proofs.Common.{◌==◌, ◌-◌, ◌∙◌, bit_and, get_or, tests, rules}
use Rattle.std.proofs.lemmas.Iterator.{YieldsList-from_slice}
use Rattle.std.proofs.lemmas.Iterator.Consumers.{YieldsList-from_enumerate}
use Rattle.std.proofs.lemmas.Iterator.Search.{all_from_yields_List}
use Rattle.subset.proofs.Find.{within_words}
use Rattle.subset.proofs.is_within.Goals as goal

pub returns : goal.returns
returns c =
    all_from_yields_List (λ p. bit_and p.1 (18446744073709551615 - get_or c.args.others.now p.0 0) == 0) _ _ _ c.all.ensures.ran
    (YieldsList-from_enumerate (YieldsList-from_slice c.args.words.now cc) cc) (λ x b q k. search (rules, tests))
    ∙ within_words c.args.others.now c.args.words.now (λ i. (c.type_inv.others i).fits) (λ i. (c.type_inv.words i).fits)
