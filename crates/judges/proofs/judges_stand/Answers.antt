use Rattle.judges.proofs.Laws.{sets_grow, rule_turns}
use Rattle.judges.proofs.Places.{own_place}
use Rattle.judges.proofs.Listed.{one_by_one, lists_spelled}
use Rattle.judges.proofs.judges_stand.Goals as goal

pub returns : goal.returns
returns c = record { table = own_place; spelled = one_by_one; lists = lists_spelled; sets = sets_grow; rule = rule_turns }
