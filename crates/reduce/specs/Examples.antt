-- Worked examples, as one table that is computed. Assumes nothing: these are definitions.
use Rattle.std.specs.Prelude.{◌≡◌, ℕ, zero, suc, ◌<◌, Bool, true, false, cond, ◌&&◌, ◌||◌, List, [], ◌∷◌, reverse, length, take, drop, ◌==◌, slice_index_or}
use Rattle.std.specs.List.{list_all}
use Rattle.subset.specs.Parts.{same, has}
use Rattle.bisect.specs.Judge.{Judge, fails, lean}
use Rattle.bisect.specs.Engine.{Act, ask, left, sound, refused, Ran, told_left}
use Rattle.bisect.specs.Machine.{plays}
use Rattle.reduce.specs.State.{State, idle, first, seek, try, over, calm, many, next, begin, act_of, reducing}

-- the judge that fails what has 1 and 4; and one that fails 0 1 2 and 1 alone, which is not monotone
abbrev pub both : Judge
both ks = cond (has ks 1 && has ks 4) 1 0

abbrev pub odd : Judge
odd ks = cond (same ks (0 ∷ 1 ∷ 2 ∷ []) || same ks (1 ∷ [])) 1 0

pub data Example : Type 0 where
  -- what a judge says of a subset
  says : Judge → List ℕ → ℕ → Example
  is_lean : Judge → List ℕ → Example
  -- of n parts, after the answer about a question: the row, and what is needed
  stands : Judge → (n : ℕ) → (question row needed : List ℕ) → Example
  -- of n parts, all that is asked, the first first, and what is left
  runs : Judge → (n : ℕ) → List (List ℕ) → List ℕ → Example

-- where the machine stands after the answer about q, if it asks of that within k questions
abbrev pub asked : (List ℕ → State) → Act → State
asked go (ask q) = go q
asked go (left ks) = idle
asked go sound = idle
asked go refused = idle

unfoldable pub after : Judge → List ℕ → ℕ → State → State
after f q zero s = idle
after f q (suc k) s = asked (λ q₁. cond (same q q₁) (next s (fails f q₁)) (after f q k (next s (fails f q₁)))) (act_of s)

abbrev pub parted : State → (row needed : List ℕ) → Bool
parted idle row needed = false
parted (first ks) row needed = false
parted (seek p) row needed = same (take p.at.row p.held) row && same (drop p.at.row p.held) needed
parted (try i ks) row needed = false
parted (over ks) row needed = false
parted calm row needed = false
parted many row needed = false

unfoldable pub alike : List (List ℕ) → List (List ℕ) → Bool
alike [] [] = true
alike [] (r ∷ rs) = false
alike (q ∷ qs) [] = false
alike (q ∷ qs) (r ∷ rs) = same q r && alike qs rs

abbrev pub ended : Ran → List (List ℕ) → List ℕ → Bool
ended R qs ks = R.end == told_left && (alike (reverse R.asked) qs && same R.rest ks)

abbrev pub holds : Example → Bool
holds (says f ks v) = f ks == v
holds (is_lean f ks) = lean f ks
holds (stands f n q row needed) = parted (after f q 100 (begin n)) row needed
holds (runs f n qs ks) = ended (plays reducing n f 100 (begin n) []) qs ks

abbrev pub transcript : List (List ℕ)
transcript =
    (0 ∷ 1 ∷ 2 ∷ 3 ∷ 4 ∷ 5 ∷ [])
    ∷ (0 ∷ 1 ∷ [])
    ∷ (0 ∷ 1 ∷ 2 ∷ 3 ∷ [])
    ∷ (0 ∷ 1 ∷ 2 ∷ 3 ∷ 4 ∷ [])
    ∷ (0 ∷ 4 ∷ [])
    ∷ (0 ∷ 1 ∷ 4 ∷ [])
    ∷ (1 ∷ 4 ∷ [])
    ∷ (4 ∷ [])
    ∷ (1 ∷ [])
    ∷ []

abbrev pub table : List Example
table =
    says both (0 ∷ 1 ∷ []) 0
    ∷ says both (0 ∷ 1 ∷ 2 ∷ 3 ∷ 4 ∷ []) 1
    ∷ says both (0 ∷ 1 ∷ 4 ∷ []) 1
    ∷ is_lean both (1 ∷ 4 ∷ [])
    ∷ is_lean odd (1 ∷ [])
    ∷ is_lean odd (0 ∷ 1 ∷ 2 ∷ [])
    ∷ stands both 6 (0 ∷ 1 ∷ 2 ∷ 3 ∷ 4 ∷ []) (0 ∷ 1 ∷ 2 ∷ 3 ∷ []) (4 ∷ [])
    ∷ stands both 6 (0 ∷ 1 ∷ 4 ∷ []) (0 ∷ []) (1 ∷ 4 ∷ [])
    ∷ runs both 6 transcript (1 ∷ 4 ∷ [])
    ∷ []

-- every row of the table holds
unfoldable pub Examples : Type 0
Examples = list_all holds table ≡ true

-- so each row does
unfoldable pub EachHolds : Type 0
EachHolds = (i : ℕ) (e : Example) → i < length table → holds (slice_index_or table i e) ≡ true
