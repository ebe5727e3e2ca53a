use Rattle.std.proofs.Common.{refl, arith}
use Rattle.inspect.proofs.Inspected.{told_all}
use Rattle.inspect.proofs.inspector.Case.all.Goals as goal

pub unwrap-count-requires : goal.unwrap-count-requires
unwrap-count-requires c =
    let t = told_all c.args.self.parts _ _ _ _ _ c.args.self.fit (omega (arith, c.told-row)) (omega (arith, c.fill.auto.words)) c.fill.ensures.after c.tell.ensures in
    rw t.0 refl
