use Rattle.subset.proofs.Ranks.{word_cut}
use Rattle.subset.proofs.cut_word.Goals as goal

pub returns : goal.returns
returns c = word_cut c.args.word c.drop_lowest.result c.drop_lowest-2.result c.args.from c.args.to c.drop_lowest.type_inv c.requires c.drop_lowest.ensures c.drop_lowest-2.ensures
