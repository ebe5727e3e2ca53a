use Rattle.std.proofs.Common.{rules, tests}
use Rattle.std.proofs.lemmas.Iterator.Search.{any_from_yields_List}
use Rattle.subset.specs.Parts.{within}
use Rattle.judges.proofs.Listed.{lists_yield}
use Rattle.judges.proofs.sets.SetsJudge.says.Goals as goal

pub returns-clause-value : goal.returns-clause-value
returns-clause-value c =
    let found =
    any_from_yields_List (λ set. within set c.args.subset.now) c.any.new.self _ _ c.any.ensures.ran (lists_yield _ c.lists.ensures.all)
    (λ x b q k. search (rules, tests)) in
    search rules
