use Rattle.std.proofs.Common.{◌≡◌, true, [], ◌∷◌, length, Some, ap, ◌∙◌, rules}
use Rattle.std.specs.List.{sum_by}
use Rattle.subset.specs.Row.{members}
use Rattle.subset.specs.Says.{few}
use Rattle.subset.proofs.Blocks.{counted_words}
use Rattle.subset.proofs.count.Goals as goal

pub returns : goal.returns
returns c =
    let fit : few c.args.words.now ≡ true = search rules in
    let e : c.sum.result ≡ sum_by (λ w. length (members (w ∷ []))) c.args.words.now = search rules in
    rw fit (ap (λ n. Some n) (e ∙ counted_words c.args.words.now))
