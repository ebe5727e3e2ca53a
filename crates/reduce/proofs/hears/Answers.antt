use Rattle.std.proofs.Common.{true, false, get_or, sym, refl, ap, ◌∙◌, add-one, arith}
use Rattle.subset.proofs.Words.{members_le}
use Rattle.bisect.specs.Search.{pass, fresh}
use Rattle.reduce.specs.Entry.{ActTold}
use Rattle.reduce.specs.Own.{row, held, moved, stored}
use Rattle.reduce.specs.State.{first, seek, try, less, trial, go_on, next_by, act_by}
use Rattle.reduce.specs.declared.Stage.TheVariants.{Idle, First, Seek, Trial}
use Rattle.reduce.proofs.Stored.{row_length}
use Rattle.reduce.proofs.Laws.{does, moved_pass, read_at, hears_at}
use Rattle.reduce.proofs.hears.Goals as goal

pub hears_cut-requires : goal.hears_cut-requires
hears_cut-requires c = (read_at c.args.memory.now c.read.result c.in_ok-read.field-0 (Seek c.in-Seek.at) c.read.ensures c.in_ok-read.was c.in-Seek.is).2

pub leave-requires : goal.leave-requires
leave-requires c = (read_at c.args.memory.now c.read.result c.in_ok-read.field-0 (Trial c.in-Trial.index) c.read.ensures c.in_ok-read.was c.in-Trial.is).2

pub overflow_add-index : goal.overflow_add-index
overflow_add-index c =
    let m = c.args.memory.now in
    let low = (read_at m c.read.result c.in_ok-read.field-0 (Trial c.in-Trial-2.index) c.read.ensures c.in_ok-read.was c.in-Trial-2.is).2 in
    record { fits = omega (arith, low, members_le (row m), row_length m c.told-memory) }

pub returns-in-Idle : goal.returns-in-Idle
returns-in-Idle c =
    rw (read_at c.args.memory.now c.read.result c.in_ok-read.field-0 Idle c.read.ensures c.in_ok-read.was c.in-Idle.is) (refl, refl, refl)

pub returns-in-First : goal.returns-in-First
unfolding next_by
returns-in-First c =
    let m = c.args.memory.now in
    let (z, e) = read_at m c.read.result c.in_ok-read.field-0 First c.read.ensures c.in_ok-read.was c.in-First.is in
    hears_at m c.args.number (first (held m)) true _ _ _ _ c.told-memory z e (sym c.if-fails.true ∙ c.fails-fails.ensures) c.passes.ensures

pub returns-in-First-2 : goal.returns-in-First-2
unfolding next_by ActTold stored act_by
returns-in-First-2 c =
    let m = c.args.memory.now in
    let (z, e) = read_at m c.read.result c.in_ok-read.field-0 First c.read.ensures c.in_ok-read.was c.in-First.is in
    hears_at m c.args.number (first (held m)) false _ _ _ _ c.told-memory z e (sym c.if-fails.false ∙ c.fails-fails.ensures) (c.write.ensures, (refl, refl))

pub returns-in-Seek : goal.returns-in-Seek
unfolding next_by
returns-in-Seek c =
    let m = c.args.memory.now in
    let (z, e, s) = read_at m c.read.result c.in_ok-read.field-0 (Seek c.in-Seek.at) c.read.ensures c.in_ok-read.was c.in-Seek.is in
    hears_at m c.args.number (seek (pass c.in-Seek.at (held m))) c.fails-fails.result _ _ _ _ c.told-memory z e c.fails-fails.ensures c.hears_cut.ensures

pub returns-in-Trial : goal.returns-in-Trial
unfolding next_by
returns-in-Trial c =
    let m = c.args.memory.now in
    let i = c.in-Trial.index in
    let (z, e, l) = read_at m c.read.result c.in_ok-read.field-0 (Trial i) c.read.ensures c.in_ok-read.was c.in-Trial.is in
    hears_at m c.args.number (try i (held m)) true _ _ _ _ c.told-memory z e (sym c.if-fails-2.true ∙ c.fails-fails.ensures)
    (does _ _ _ _ _ _
    (moved_pass (get_or m 1 0) (held m) (less i (held m)) (fresh (less i (held m))) ∙ ap (λ ks. moved (get_or m 1 0) ks (go_on (fresh ks))) (sym c.leave.ensures))
    c.passes-in-Trial.ensures)

pub returns-in-Trial-2 : goal.returns-in-Trial-2
unfolding next_by
returns-in-Trial-2 c =
    let m = c.args.memory.now in
    let i = c.in-Trial.index in
    let (z, e, l) = read_at m c.read.result c.in_ok-read.field-0 (Trial i) c.read.ensures c.in_ok-read.was c.in-Trial.is in
    hears_at m c.args.number (try i (held m)) false _ _ _ _ c.told-memory z e (sym c.if-fails-2.false ∙ c.fails-fails.ensures)
    (does _ _ _ _ _ _ (ap (λ j. moved (get_or m 1 0) (held m) (trial j (held m))) (sym (add-one i))) c.tries.ensures)
