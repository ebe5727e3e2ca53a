use Rattle.std.proofs.Common.{length, ap, eqb, arith, rules}
use Rattle.std.proofs.lemmas.List.Sorted.{answers_always}
use borrow.Author.Tests.{tests}
use Rattle.candidate.proofs.Cutting.{lines_next}
use Rattle.candidate.proofs.LinesIterator.next.Goals as goal

-- `told` is what `split_inclusive` says of its first part
pub invariant_of-self : goal.invariant_of-self
invariant_of-self c =
    let told = c.in_ok-line.ensures.steps in
    let ends = told.1.2 (λ b. eqb b 10) (answers_always _ _ _ (λ f a r q k. search (rules, tests))) in
    let shorter = ap length (lines_next c.args.self.now.rest.now _ c.in_ok-line.line.now _ told.1.0 c.split_inclusive.ensures.rest told.0 told.1.1 ends.1 told.2) in
    record { fits = omega (arith, c.args.self.now.fits) }

pub returns-clause-steps : goal.returns-clause-steps
returns-clause-steps c =
    let told = c.in_ok-line.ensures.steps in
    let ends = told.1.2 (λ b. eqb b 10) (answers_always _ _ _ (λ f a r q k. search (rules, tests))) in
    lines_next c.args.self.now.rest.now _ c.in_ok-line.line.now _ told.1.0 c.split_inclusive.ensures.rest told.0 told.1.1 ends.1 told.2

pub returns-clause-goes : goal.returns-clause-goes
returns-clause-goes c =
    let shorter = ap length (returns-clause-steps c) in
    search rules
