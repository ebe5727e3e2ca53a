use Rattle.std.proofs.Common.{◌≡◌, ℕ, ◌-◌, ◌*◌, ◌^◌, ◌<◌, min, get_or, true, arith, rules}
use lib.Bits.{bit_and, and_le_l}
use Rattle.subset.specs.Says.{few}
use Rattle.subset.proofs.Find.{from_word, from_found, from_none, place_on, place_first, word_none, from_on}
use Rattle.subset.proofs.next_from.Goals as goal

pub returns-then-left-ne0 : goal.returns-then-left-ne0
returns-then-left-ne0 c =
    let fit : few c.args.words.now ≡ true = search rules in
    let word : ℕ = bit_and (get_or c.args.words.now c.loop-i.i 0) (18446744073709551615 - c.low.result) in
    let e : c.low.result ≡ 2 ^ min (c.args.part - 64 * c.loop-i.i) 64 - 1 = search (rules, arith) in
    let small : word < 2 ^ 64 = omega (arith, and_le_l (get_or c.args.words.now c.loop-i.i 0) (18446744073709551615 - c.low.result), (c.type_inv.words c.loop-i.i).fits) in
    let pos : 0 < word = omega (arith, c.if-left-ne0.true) in
    let here = λ (b : ℕ) (l : b < 64). from_word c.args.words.now c.args.part c.loop-i.i c.low.result b e c.low.type_inv l in
    rw fit (from_found c.args.words.now c.args.part _
    (place_on (from_on c.args.words.now c.args.part) c.loop-i.i word small pos here)
    (place_first (from_on c.args.words.now c.args.part) c.loop-i.i word small pos here c.loop-i.invariant))

pub loop-i-preserved : goal.loop-i-preserved
loop-i-preserved c =
    let e : c.low.result ≡ 2 ^ min (c.args.part - 64 * c.loop-i.i) 64 - 1 = search (rules, arith) in
    word_none (from_on c.args.words.now c.args.part) c.loop-i.i _ c.if-left-ne0.false
    (λ b l. from_word c.args.words.now c.args.part c.loop-i.i c.low.result b e c.low.type_inv l) c.loop-i.invariant

pub returns : goal.returns
returns c =
    let fit : few c.args.words.now ≡ true = search rules in rw fit (from_none c.args.words.now c.args.part (λ q l. c.loop-i.invariant q (omega arith)))
