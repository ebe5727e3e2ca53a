use Rattle.std.proofs.Common.{◌≡◌, ℕ, true, List, length, take, sym, ◌∙◌}
use Rattle.std.proofs.lemmas.Bool.{and_from, eq-eqb, le-leb}
use Rattle.std.proofs.lemmas.List.{length-take-le}
use Rattle.reduce.specs.Entry.{fault_of, fits, Heard}
use Rattle.reduce.proofs.Laws.{heard_behind}
use Rattle.reduce.proofs.react.Goals as goal

pub returns : goal.returns
returns c =
    let m : List ℕ = c.args.memory.now in
    let out : List ℕ = c.args.out.now in
    let whole = c.in-Some.ensures.cases in
    let front = c.in-Some-first_chunk_mut.ensures.cases in
    let ready : fits m out ≡ true = and_from _ _ (eq-eqb (length m) 72 whole.long) (le-leb 4096 (length out) front.enough) in
    let heard : Heard (fault_of m c.args.event) m c.args.event (take 4096 out) c.acts.result c.acts.new.memory c.acts.new.out =
    rw (sym whole.same, sym front.same) c.acts.ensures.does in
    rw ready (heard_behind _ m c.args.event out c.acts.result c.acts.new.memory c.acts.new.out (c.acts.ensures.long ∙ sym (length-take-le 4096 out front.enough)) heard)
