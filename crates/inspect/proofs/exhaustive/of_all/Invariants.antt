use Rattle.std.proofs.Common.{◌≡◌, ℕ, ◌<◌, true}
use Rattle.inspect.proofs.exhaustive.of_all.Given as goal

abbrev pub invariant-loop-code : goal.invariant-loop-code
invariant-loop-code g l =
    (g.J.Judge.meaning l.judge ≡ g.J.Judge.meaning l.initial.judge)
    × ((c : ℕ) → c < l.code → (j : _) × (k : _) × (g.J.Judge.meaning j.now ≡ g.J.Judge.meaning l.initial.judge) × goal.F-post g l.holds j c true k)
