use Rattle.std.proofs.Common.{sym, ap, ◌∙◌, ◌%◌}
use Rattle.subset.specs.Row.{bit, digit}
use Rattle.subset.proofs.Digits.{digit_read}
use Rattle.subset.proofs.Words.{has_members}
use Rattle.subset.proofs.test.Goals as goal

pub returns : goal.returns
unfolding bit
returns c = digit_read _ _ ∙ ap (λ w. digit w (c.args.part % 64)) c.word_at.ensures ∙ sym (has_members c.args.words.now c.args.part)
