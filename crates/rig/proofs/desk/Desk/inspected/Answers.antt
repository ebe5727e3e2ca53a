use Rattle.std.proofs.Common.{rules, length, ap}
use Rattle.judges.proofs.Listed.{read_back}
use Rattle.rig.proofs.desk.Desk.inspected.Goals as goal

pub returns-clause-found : goal.returns-clause-found
returns-clause-found g c =
    let r = c.transcribe-transcript.ensures.transcribed in record {
      exchanges = r.exchanges;
      last = r.told;
      out = r.out;
      dialogue = r.dialogue;
      stopped = search (rules, ap length r.spells, r.stopped);
      found = search (rules, read_back, r.spells, r.end);
    }
