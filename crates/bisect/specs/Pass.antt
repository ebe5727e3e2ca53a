-- One pass alone, from any subset that fails, and what it has asked. Assumes nothing: these are definitions and statements.
use Rattle.std.specs.Prelude.{◌≡◌, ℕ, zero, suc, ◌*◌, ◌<◌, ◌≤◌, Bool, true, false, cond, ltb, ◌⊎◌, List, [], ◌∷◌, ◌++◌, length, nat_lt}
use Rattle.std.specs.List.{filter, list_any}
use Rattle.subset.specs.Parts.{same, some_of, has, within}
use Rattle.bisect.specs.Judge.{Judge, fails, lean, Monotone}
use Rattle.bisect.specs.Search.{Pass, fresh, cut_of, question, answered}

-- how far it came, and what it asked, the last first
pub record Progress : Type 0 where
  pub now : Pass
  pub asked : List (List ℕ)

abbrev pub progress : Pass → List (List ℕ) → Progress
progress p qs = record { now = p; asked = qs }

-- at most so many questions of a pass that is cut by `cuts`, after those that were asked before
unfoldable pub pass_runs : (cuts : Pass → ℕ) → Judge → ℕ → Pass → List (List ℕ) → Progress
pass_runs cuts f zero p qs = progress p qs
pass_runs cuts f (suc k) p qs =
    cond (nat_lt 0 p.at.row) (pass_runs cuts f k (answered (cuts p) p (fails f (question (cuts p) p))) (question (cuts p) p ∷ qs)) (progress p qs)

abbrev pub pass_of : (cuts : Pass → ℕ) → Judge → ℕ → List ℕ → Progress
pass_of cuts f k ks = pass_runs cuts f k (fresh ks) []

-- every cut lies in the row, and not below what is known
abbrev pub Inner : (Pass → ℕ) → Type 0
Inner cuts = (p : Pass) → p.at.lo < p.at.row → (p.at.lo ≤ cuts p) × (cuts p < p.at.row)

-- ---- what was asked
abbrev pub asked_of : List (List ℕ) → List ℕ → Bool
asked_of qs q = list_any (same q) qs

-- what was asked before did not fail
abbrev pub Repeats : Judge → List (List ℕ) → Type 0
Repeats f [] = Unit {0}
Repeats f (q ∷ qs) = (asked_of qs q ≡ true → fails f q ≡ false) × Repeats f qs

-- the first list lies within the second, which has a part more
abbrev pub StrictlyWithin : List ℕ → List ℕ → Type 0
StrictlyWithin ks js = (within ks js ≡ true) × ((x : ℕ) × (has js x ≡ true) × (has ks x ≡ false))

abbrev pub before : ℕ → List ℕ → List ℕ
before y ks = filter (λ z. ltb z y) ks

abbrev pub beyond : ℕ → List ℕ → List ℕ
beyond y ks = filter (λ z. ltb y z) ks

-- a pass over ks that ended
pub record Passed (n : ℕ) (f : Judge) (ks : List ℕ) (R : Progress) : Type 0 where
  pub done : R.now.at.row ≡ 0
  pub some : some_of n R.now.held ≡ true
  pub inside : within R.now.held ks ≡ true
  pub bad : fails f R.now.held ≡ true
  -- what is left was asked of, unless it is ks
  pub came : (asked_of R.asked R.now.held ≡ true) ⊎ (R.now.held ≡ ks)
  -- each part that is left is needed after all of ks that stand before it
  pub shown : (y : ℕ) → has R.now.held y ≡ true →
      (asked_of R.asked (before y ks ++ beyond y R.now.held) ≡ true) × (fails f (before y ks ++ beyond y R.now.held) ≡ false)
  -- what is left lies within all that failed, and what was asked before did not fail
  pub nest : (q : List ℕ) → asked_of R.asked q ≡ true → fails f q ≡ true → within R.now.held q ≡ true
  pub repeats : Repeats f R.asked
  -- if failing is monotone, it is lean already
  pub slim : Monotone f n → lean f R.now.held ≡ true
  pub slowly : 2 * length R.asked ≤ length ks * suc (length ks)

-- ANY PASS, whatever its cuts are
unfoldable pub AnyPass : Type 0
AnyPass =
    (cuts : Pass → ℕ) → Inner cuts → (n : ℕ) (f : Judge) (ks : List ℕ) → length ks ≤ 4096 → some_of n ks ≡ true → fails f ks ≡ true →
    (k : ℕ) × Passed n f ks (pass_of cuts f k ks)

-- and with the cuts that are made so many questions
unfoldable pub OnePass : Type 0
OnePass =
    (n : ℕ) (f : Judge) (ks : List ℕ) → length ks ≤ 4096 → some_of n ks ≡ true → fails f ks ≡ true →
    (k : ℕ) × Passed n f ks (pass_of cut_of f k ks)
    × (length (pass_of cut_of f k ks).asked ≤ 13 * suc (length (pass_of cut_of f k ks).now.held))

-- NESTED: a question at a cut in the row lies strictly within what is held; if it fails, it is what is held next, else that stays
unfoldable pub Nested : Type 0
Nested =
    (n c : ℕ) (p : Pass) → some_of n p.held ≡ true → p.at.row ≤ length p.held → c < p.at.row →
    StrictlyWithin (question c p) p.held
    × ((answered c p true).held ≡ question c p) × ((answered c p false).held ≡ p.held)
