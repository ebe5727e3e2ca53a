use Rattle.std.proofs.Common.{◌≡◌, ℕ, ◌*◌, ◌/◌, ◌<◌, length, get_or, true, w64, Fits, rules}
use Rattle.subset.specs.Says.{placed}
use Rattle.subset.proofs.Words.{out_holds, done}
use Rattle.subset.proofs.take_out.Goals as goal

pub returns-clause-after : goal.returns-clause-after
returns-clause-after c =
    let fit : placed c.args.words.now c.args.part ≡ true = search rules in
    let inside : c.args.part < 64 * length c.args.words.now = search rules in
    let e : c.in_ok-i.i ≡ c.args.part / 64 = search rules in
    let small : (i : ℕ) → Fits w64 (get_or c.args.words.now i 0) = λ i. search rules in
    let low : Fits w64 c.mask.result = search rules in
    rw e (done _ c.args.words.now _ _ fit (out_holds c.args.words.now (λ i. (small i).fits) c.args.part c.mask.result inside c.mask.ensures low.fits))
