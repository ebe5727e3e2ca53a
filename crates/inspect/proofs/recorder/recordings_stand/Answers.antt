use Rattle.inspect.proofs.Dialogues.{reducer_kept}
use Rattle.inspect.proofs.recorder.recordings_stand.Goals as goal

pub returns : goal.returns
returns c = reducer_kept
