use Rattle.std.proofs.Common.{◌≡◌, min, length, ap, ◌∙◌, arith, rules}
use Rattle.std.proofs.lemmas.List.{nil_from_length, take_min, drop_min}
use Rattle.judges.specs.Spelled.{lists_of}
use Rattle.judges.proofs.Listed.{first_of, one_by_one}
use Rattle.judges.proofs.spelled.first_list.Goals as goal

pub returns-in_err-count : goal.returns-in_err-count
returns-in_err-count c = rw c.from_residual.ensures (ap lists_of (nil_from_length _ c.in_err-count.ensures.cases) ∙ one_by_one.0)

pub returns : goal.returns
returns c =
    let numbers = c.in_ok-count.numbers.now in
    let count = c.in_ok-count.count.now in
    let least : c.min.result ≡ min count (length numbers) = search (rules, arith) in
    first_of _ _ _ _ _ c.in_ok-count.ensures.cases.0 (c.split_at.ensures.front ∙ rw least (take_min count numbers)) (c.split_at.ensures.back ∙ rw least (drop_min count numbers))
