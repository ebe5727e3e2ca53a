use Rattle.std.proofs.Common.{rules, rules}
use Rattle.bisect.proofs.Leave.{left_at, left_all}
use Rattle.bisect.proofs.leave_out.Goals as goal

pub returns-in-Some : goal.returns-in-Some
returns-in-Some c =
    let both = left_at c.args.part c.args.parts.now c.in-Some.i (search rules) (search rules) in
    search rules

pub returns-in-None : goal.returns-in-None
returns-in-None c =
    let all = left_all c.args.part c.args.parts.now (search rules) in
    search rules
