use Rattle.journal.proofs.Asks.{awaits_what_it_asks}
use Rattle.journal.proofs.CutOff.{cut_off_is_nothing}
use Rattle.journal.proofs.First.{names_the_first}
use Rattle.journal.proofs.GoesOn.{goes_on}
use Rattle.journal.proofs.Own.{only_its_own}
use Rattle.journal.proofs.journal_stands.Goals as goal

pub returns-clause-goes_on : goal.returns-clause-goes_on
returns-clause-goes_on c = goes_on

pub returns-clause-only : goal.returns-clause-only
returns-clause-only c = only_its_own

pub returns-clause-first : goal.returns-clause-first
returns-clause-first c = names_the_first

pub returns-clause-cut_off : goal.returns-clause-cut_off
returns-clause-cut_off c = cut_off_is_nothing

pub returns-clause-awaited : goal.returns-clause-awaited
returns-clause-awaited c = awaits_what_it_asks
