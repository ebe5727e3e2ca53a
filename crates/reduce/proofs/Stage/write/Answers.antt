use Rattle.std.proofs.Common.{◌≡◌, ℕ, Bool, cond, List, length, set, refl, ap, ◌∙◌, length-set}
use Rattle.std.proofs.lemmas.Bool.{eq-eqb}
use Rattle.bisect.specs.Stand.{noted}
use Rattle.bisect.specs.declared.Search.{Search}
use Rattle.reduce.specs.Own.{Header, kept, held, stored}
use Rattle.reduce.proofs.Memory.{header_kept}
use Rattle.reduce.proofs.Stage.write.Goals as goal
use Rattle.reduce.proofs.Stage.write.Goals.{in-Idle, in-First, in-Seek, in-Trial}

pub returns : goal.returns
unfolding stored
returns c =
    let m : List ℕ = c.args.memory.now in
    let p : ℕ × ℕ × ℕ × Search = c.match-self.phase in
    let h : Header = record { phase = p.0; size = p.1; index = p.2 } in
    let set_all : List ℕ = set (set (set m 0 h.phase) 1 h.size) 4 h.index in
    let long : length set_all ≡ 72 = simp length-set c.told-memory in
    let put : c.write.new.memory ≡ kept h p.3 (held m) =
    c.write.ensures.after ∙ ap (λ (b : Bool). cond b (noted p.3 set_all) set_all) (eq-eqb (length set_all) 72 long) ∙ header_kept h p.3 m c.told-memory c.fits-memory in
    elim c.match-self.branch [
      | in-Idle w ↦ put ∙ rw (w.in-Idle.is, w.phase-is, w.nowhere.ensures) refl
      | in-First w ↦ put ∙ rw (w.in-First.is, w.phase-is, w.nowhere-in-First.ensures) refl
      | in-Seek w ↦ put ∙ rw (w.in-Seek.is, w.phase-is) refl
      | in-Trial w ↦ put ∙ rw (w.in-Trial.is, w.phase-is, w.nowhere-in-Trial.ensures) refl
    ]
