use Rattle.std.proofs.Common.{rules, tests}
use Rattle.std.proofs.lemmas.Iterator.Search.{all_from_yields_List}
use Rattle.inspect.specs.Inspector.{there}
use Rattle.judges.proofs.Listed.{lists_yield}
use Rattle.inspect.proofs.inspector.all_there.Goals as goal

pub returns : goal.returns
returns c =
    all_from_yields_List (there c.args.parts) c.all.new.self _ _ c.all.ensures.ran (lists_yield _ c.lists.ensures.all) (λ x b q k. search (rules, tests))
