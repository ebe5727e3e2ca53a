use Rattle.bisect.proofs.Apart.{told_apart, enough_asked}
use Rattle.bisect.proofs.apart_stands.Goals as goal

pub returns : goal.returns
returns c = record { apart = told_apart; enough = enough_asked }
