use Rattle.reduce.specs.Entry.{fits}
use Rattle.inspect.proofs.Recording.{react_roomy}
use Rattle.inspect.proofs.recorder.MachineReducer.react.Goals as goal

pub returns : goal.returns
returns c =
    let m = c.args.self.now.memory in
    let out = c.args.out.now in
    record { room = react_roomy (fits m out) m c.args.event out _ c.react.new.memory _ c.react.ensures; does = (out, c.react.ensures) }
