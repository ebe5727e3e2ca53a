use Rattle.std.proofs.Common.{replicate, rules}
use Rattle.bisect.proofs.Asking.{question_told}
use Rattle.bisect.proofs.seeking.question.Goals as goal

pub returns : goal.returns
returns c =
    question_told c.args.at c.args.words.now (replicate 4096 0) c.tell.new.out c.args.out.now _ c.in_ok-count.count c.in_ok-cut.cut _ c.tell.result c.tell.ensures (search rules) (search rules)
    (search rules) c.lay.ensures.count c.lay.ensures.row
