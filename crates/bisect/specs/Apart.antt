-- Where one part alone decides, the answers have to tell which, so there have to be enough. Assumes nothing: these are definitions and statements.
use Rattle.std.specs.Prelude.{◌≡◌, ℕ, ◌+◌, ◌^◌, ◌<◌, ◌≤◌, false, cond, ◌≢◌, List, map, length}
use Rattle.subset.specs.Parts.{same, has}
use Rattle.bisect.specs.Judge.{Judge}
use Rattle.bisect.specs.Engine.{Engine, run_of, told_left}
use Rattle.bisect.specs.Promise.{Reduces}

-- what contains part x fails, and nothing else
abbrev pub Decider : ℕ → Judge
Decider x js = cond (has js x) 1 0

-- what a judge says of each question
abbrev pub answers : Judge → List (List ℕ) → List ℕ
answers f qs = map f qs

-- Of any two parts that may decide alone, an engine that is right for every judge hears different answers.
unfoldable pub ToldApart : Type 0
ToldApart =
    (e : Engine) (n x y k j : ℕ) → Reduces e → n ≤ 4096 → x < n → y < n → x ≢ y →
    (run_of k n e (Decider x)).end ≡ told_left → (run_of j n e (Decider y)).end ≡ told_left →
    same (answers (Decider x) (run_of k n e (Decider x)).asked) (answers (Decider y) (run_of j n e (Decider y)).asked) ≡ false

-- If such an engine finds whichever of n parts decides alone with at most q + 1 questions, n is at most 2 ^ q: the first question is always of all parts,
-- so its answer tells none of them apart, and each other answer one half from the other at best.
unfoldable pub EnoughAsked : Type 0
EnoughAsked =
    (e : Engine) (n q : ℕ) → Reduces e → n ≤ 4096 →
    ((x : ℕ) → x < n → (k : ℕ) × ((run_of k n e (Decider x)).end ≡ told_left) × (length (run_of k n e (Decider x)).asked ≤ q + 1)) → n ≤ 2 ^ q
