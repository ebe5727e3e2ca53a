use Rattle.std.proofs.Common.{length, sym, ap, ◌∙◌, ap₂, ◌≡◌, cond}
use Rattle.bisect.specs.Search.{pass}
use Rattle.bisect.specs.Stand.{asked}
use Rattle.reduce.specs.Own.{held, moved}
use Rattle.reduce.specs.State.{go_on}
use Rattle.reduce.proofs.Laws.{does, moved_pass, hear_after, heard_placed}
use Rattle.reduce.proofs.hears_cut.Goals.{then-fails, else-fails}
use Rattle.reduce.proofs.hears_cut.Goals as goal

pub seeks-requires : goal.seeks-requires
seeks-requires c =
    let ks = held c.args.memory.now in
    let next = hear_after c.args.at (length ks) c.count.result c.args.fails c.hear.result c.unwrap-next.result c.count.ensures c.requires c.hear.ensures c.unwrap-next.ensures in
    let kept : held c.if-fails.memory ≡ cond c.args.fails (asked c.args.at ks) ks = elim c.if-fails.branch
    [ then-fails w ↦ rw w.if-fails.true (ap held w.memory-is ∙ w.keep_asked.ensures) | else-fails w ↦ rw w.if-fails.false (ap held w.memory-is) ] in
    heard_placed c.args.at ks c.args.fails c.requires (pass c.unwrap-next.result (held c.if-fails.memory)) (ap₂ (λ s js. pass s js) next kept)

pub returns : goal.returns
returns c =
    let ks = held c.args.memory.now in
    let next = hear_after c.args.at (length ks) c.count.result c.args.fails c.hear.result c.unwrap-next.result c.count.ensures c.requires c.hear.ensures c.unwrap-next.ensures in
    let kept : held c.if-fails.memory ≡ cond c.args.fails (asked c.args.at ks) ks = elim c.if-fails.branch
    [ then-fails w ↦ rw w.if-fails.true (ap held w.memory-is ∙ w.keep_asked.ensures) | else-fails w ↦ rw w.if-fails.false (ap held w.memory-is) ] in
    does _ _ _ _ _ _
    (ap (λ p. moved c.args.size ks (go_on p)) (sym (ap₂ (λ s js. pass s js) next kept))
    ∙ moved_pass c.args.size ks (held c.if-fails.memory) (pass c.unwrap-next.result (held c.if-fails.memory)))
    c.seeks.ensures
