use Rattle.std.proofs.Common.{[], ◌∷◌, refl, arith}
use Rattle.subset.proofs.Words.{members_le}
use Rattle.judges.proofs.Shown.{told}
use Rattle.inspect.proofs.exhaustive.coded.Goals as goal

pub unwrap-count-requires : goal.unwrap-count-requires
unwrap-count-requires c =
    let t = told (c.args.code ∷ []) _ _ _ (omega arith) (omega (arith, members_le (c.args.code ∷ []), c.told-row)) c.tell.ensures in rw t.0 refl
