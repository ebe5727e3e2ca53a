use Rattle.std.proofs.Common.{sym}
use Rattle.subset.proofs.Blocks.{word_counted}
use Rattle.subset.proofs.ones.Goals as goal

pub returns-clause-count : goal.returns-clause-count
returns-clause-count c = sym (word_counted c.args.word c.ranges.word.fits)
