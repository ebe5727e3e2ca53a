use Rattle.std.proofs.Common.{◌≡◌, ℕ, ◌+◌, ◌*◌, ◌≤◌, true, Some, List, [], ◌∷◌, ◌++◌, map, length, get_or, drop, sym, refl, ap, ◌∙◌, ap₂, arith, rules}
use lib.ListN.{length-map}
use Rattle.subset.specs.Parts.{all_parts}
use Rattle.subset.specs.Row.{bit, members}
use Rattle.subset.specs.Says.{laid, room}
use Rattle.subset.proofs.Changes.{upto}
use Rattle.subset.proofs.Blocks.{upto_word, upto_all, told_word, members_up}
use Rattle.subset.proofs.Lowest.{laid_behind}
use Rattle.subset.proofs.tell.Goals as goal

pub loop-i-init : goal.loop-i-init
unfolding all_parts
loop-i-init c = (refl, refl)

pub tell_word-told-requires-clause-room : goal.tell_word-told-requires-clause-room
tell_word-told-requires-clause-room c =
    let fit : length (members c.args.words.now) ≤ length c.args.out.now = search rules in
    omega (arith, told_word c.args.words.now c.loop-i.i, members_up c.args.words.now c.loop-i.i c.loop-i-test.true, c.loop-i.invariant.0, c.loop-i.auto.out, fit)

pub loop-i-preserved : goal.loop-i-preserved
loop-i-preserved c =
    let ws : List ℕ = c.args.words.now in
    let i : ℕ = c.loop-i.i in
    let ys : List ℕ = map (λ b. 64 * i + b) (members (get_or ws i 0 ∷ [])) in
    let long : length ys ≡ length (members (get_or ws i 0 ∷ [])) = length-map (members (get_or ws i 0 ∷ [])) (λ b. 64 * i + b) in (
      omega (arith, told_word ws i, c.loop-i.invariant.0, c.tell_word-told.ensures.end),
      c.tell_word-told.ensures.row ∙ ap (λ o. laid o c.loop-i.told ys) c.loop-i.invariant.1
          ∙ laid_behind c.args.out.now (upto (bit ws) (64 * i)) ys c.loop-i.told c.loop-i.invariant.0
          ∙ ap₂ (λ xs k. xs ++ drop k c.args.out.now) (sym (upto_word ws i)) (let z : c.loop-i.told + length ys ≡ c.tell_word-told.result = omega (arith, c.tell_word-told.ensures.end) in z),
    )

pub returns : goal.returns
returns c =
    let fit : room c.args.words.now c.args.out.now ≡ true = search rules in
    let all : upto (bit c.args.words.now) (64 * c.loop-i.i) ≡ members c.args.words.now = upto_all c.args.words.now c.loop-i.i (omega arith) in
    let count : c.loop-i.told ≡ length (members c.args.words.now) = c.loop-i.invariant.0 ∙ ap length all in
    rw fit (ap (λ n. Some n) count, c.loop-i.invariant.1 ∙ ap₂ (λ xs k. xs ++ drop k c.args.out.now) all count)
