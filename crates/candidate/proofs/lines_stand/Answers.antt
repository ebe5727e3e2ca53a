use Rattle.candidate.specs.Laws.{LinesCut, LinesJoin, LinesKnown, PickedLines, PicksAsked}
use Rattle.candidate.proofs.Cutting.{lines_cut, lines_join, lines_known}
use Rattle.candidate.proofs.Picking.{picked_lines, picks_asked}
use Rattle.candidate.proofs.lines_stand.Goals as goal

pub returns-clause-joined : goal.returns-clause-joined
unfolding LinesJoin
returns-clause-joined c = lines_join

pub returns-clause-cut : goal.returns-clause-cut
unfolding LinesCut
returns-clause-cut c = lines_cut

pub returns-clause-known : goal.returns-clause-known
unfolding LinesKnown
returns-clause-known c = lines_known

pub returns-clause-asked : goal.returns-clause-asked
unfolding PicksAsked
returns-clause-asked c = picks_asked

pub returns-clause-again : goal.returns-clause-again
unfolding PickedLines
returns-clause-again c = picked_lines
