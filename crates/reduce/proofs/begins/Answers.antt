use Rattle.std.proofs.Common.{◌++◌, length, drop, refl, ap, ◌∙◌, arith}
use Rattle.reduce.specs.Entry.{ActTold}
use Rattle.reduce.specs.Own.{held, kept, first_at, nowhere, moved, stored}
use Rattle.reduce.specs.State.{act_by}
use Rattle.reduce.specs.declared.Told.TheVariants.{Ask}
use Rattle.reduce.proofs.Laws.{does, own_begins, begins_few, begins_many}
use Rattle.reduce.proofs.begins.Goals as goal

pub returns-then-n-gt-MOST : goal.returns-then-n-gt-MOST
unfolding ActTold stored act_by
returns-then-n-gt-MOST c =
    does _ _ _ _ _ _
    (own_begins c.args.memory.now c.args.n c.told-memory ∙ ap (moved c.args.n (held c.args.memory.now)) (begins_many c.args.n (omega arith)))
    (c.write.ensures, (refl, refl))

pub returns : goal.returns
unfolding ActTold stored act_by
returns c =
    does _ _ _ _ _ _
    (own_begins c.args.memory.now c.args.n c.told-memory ∙ ap (moved c.args.n (held c.args.memory.now)) (begins_few c.args.n (omega arith))) (
      c.write-2.ensures ∙ ap (kept (first_at c.args.n) nowhere) c.fill.ensures,
      (
        ap Ask (c.tell-told.ensures.count ∙ ap length c.fill.ensures),
        c.tell-told.ensures.told ∙ ap (λ ks. ks ++ drop (length ks) c.args.out.now) c.fill.ensures,
      ),
    )
