-- How many questions a pass asks: thirteen for each part that it finds, and guesses are made from what earlier parts left over.
use Rattle.std.proofs.Common.{ℕ, zero, suc, ◌+◌, ◌-◌, ◌*◌, ◌^◌, ◌<◌, ◌≤◌, Bool, List, length, arith}
use Rattle.bisect.specs.Search.{halved, cut, Pass, fresh, cut_of, answered}
use Rattle.bisect.proofs.Keep.{length_keep}
use Rattle.bisect.proofs.Cut.{cut_either, cut_inner}
use Rattle.bisect.proofs.Right.{Finds, Sized, sized_fresh, sized_found, sized_failed, sized_stood, failed, stood, answers}

-- between lo and the row's end halving asks at most e
unfoldable pub Near : ℕ → ℕ → ℕ → Type 0
Near lo row e = row - lo < 2 ^ e

near_13 : (row : ℕ) → row ≤ 4096 → Near 0 row 13
unfolding Near
near_13 row h = omega arith

near_12 : (lo row : ℕ) → row ≤ 4095 → Near lo row 12
unfolding Near
near_12 lo row h = omega arith

below : (lo row e : ℕ) → lo < row → row - lo < 2 * e → halved lo row - lo < e
below lo row e h g = omega arith

beyond : (lo row e : ℕ) → lo < row → row - lo < 2 * e → row - suc (halved lo row) < e
beyond lo row e h g = omega arith

-- what a cut at c leaves: d questions, either way
abbrev Leaves : (lo row spent found c : ℕ) → Type 0
Leaves lo row spent found c = (d : ℕ) × (suc spent + d ≤ 13 * suc found) × Near lo c d × Near (suc c) row d

halved_leaves : (lo row spent found e : ℕ) → lo < row → Near lo row e → spent + e ≤ 13 * suc found → Leaves lo row spent found (halved lo row)
unfolding Near
halved_leaves lo row spent found zero h g k = absurd (omega arith)
halved_leaves lo row spent found (suc e) h g k =
    let g₁ : row - lo < 2 * 2 ^ e = omega arith in
    (e, omega arith, below lo row (2 ^ e) h g₁, beyond lo row (2 ^ e) h g₁)

cut_leaves : (lo row begun spent found e : ℕ) → lo < row → row + found ≤ 4096 → Near lo row e → spent + e ≤ 13 * suc found
    → Leaves lo row spent found (cut lo row begun spent found)
cut_leaves lo row begun spent found e h l g k =
    cut_either (Leaves lo row spent found) lo row begun spent found h
    (λ w c i. (12, omega (arith, w.spare), near_12 lo c (omega (arith, w.some)), near_12 (suc c) row (omega (arith, w.some))))
    (halved_leaves lo row spent found e h g k)

-- so many questions were spent in this pass, and halving spends at most `bits` more until the next part is found
pub record Paid (most : ℕ) (p : Pass) : Type 0 where
  pub sized : Sized most p
  pub bits : ℕ
  pub near : Near p.at.lo p.at.row bits
  pub paid : p.at.spent + bits ≤ 13 * suc (length p.held - p.at.row)

module _ (most : ℕ) (few : most ≤ 4096) where
  pub paid_fresh : (ks : List ℕ) → length ks ≤ most → Paid most (fresh ks)
  paid_fresh ks h = record { sized = sized_fresh most ks h; bits = 13; near = near_13 (length ks) (omega arith); paid = omega arith }

  pub paid_found : Finds (Paid most)
  paid_found p r e i t = record {
    sized = sized_found most p r e i t.sized;
    bits = 12;
    near = near_12 0 r (omega (arith, t.sized.high, t.sized.fewer, t.sized.old));
    paid = omega (arith, t.sized.high);
  }

  module _ (p : Pass) (h : p.at.lo < p.at.row) (t : Paid most p) where
    leaves : Leaves p.at.lo p.at.row p.at.spent (length p.held - p.at.row) (cut_of p)
    leaves =
        cut_leaves p.at.lo p.at.row p.at.begun p.at.spent (length p.held - p.at.row) t.bits h
        (omega (arith, t.sized.high, t.sized.fewer, t.sized.old)) t.near t.paid

    pub paid_failed : Paid most (failed (cut_of p) p)
    paid_failed =
        let i = cut_inner p h in
        let len = length_keep (cut_of p) p.at.row p.held (omega (arith, i.1)) t.sized.high in
        let w = leaves in
        record { sized = sized_failed most (cut_of p) p i.0 i.1 t.sized; bits = w.0; near = w.2; paid = omega (arith, w.1, len, i.1) }

    pub paid_stood : Paid most (stood (cut_of p) p)
    paid_stood =
        let i = cut_inner p h in
        let w = leaves in
        record { sized = sized_stood most (cut_of p) p i.0 i.1 t.sized; bits = w.0; near = w.3; paid = omega (arith, w.1) }

    pub paid_answered : (b : Bool) → Paid most (answered (cut_of p) p b)
    paid_answered b =
        let i = cut_inner p h in answers (Paid most) paid_found (cut_of p) p i.0 i.1 b (λ q. paid_failed) (λ q. paid_stood)
