-- What a rising row of numbers picks.
use Rattle.std.proofs.Common.{◌≡◌, ℕ, zero, suc, ◌+◌, ◌-◌, ◌<◌, ◌≤◌, Bool, false, cond, ◌||◌, ◌⊎◌, inl, inr, List, [], ◌∷◌, ◌++◌, length, map, get_or, sym, refl, ap, ◌∙◌, arith, add-one}
use Rattle.std.specs.List.{All, concat, flat_map, enumerate_from, range_with_len, slice_index, zip}
use Rattle.std.specs.List.Sorted.{IsStrictlyIncreasing}
use Rattle.std.proofs.lemmas.Bool.{cases_lt, eq-eqb, ne_eqb, or_from, or_left}
use Rattle.candidate.specs.Lines.{lines, has, if_asked, picked}
use Rattle.candidate.specs.Laws.{IsEnded, IsUnended, AreLines, line_at}
use Rattle.candidate.proofs.Cutting.{lines_cut, lines_known}

-- a rising row of numbers from b up, below n
abbrev Row : ℕ → ℕ → List ℕ → Type 0
Row b n [] = Unit {0}
Row b n (k ∷ ks) = (b ≤ k) × (k < n) × Row (suc k) n ks

row_from : (b n : ℕ) (ks : List ℕ) → IsStrictlyIncreasing ks → All (λ k. k < n) ks → (0 < length ks → b ≤ slice_index ks 0) → Row b n ks
row_from b n [] rises below from = tt
row_from b n (k ∷ ks) rises below from =
    let rest : IsStrictlyIncreasing ks = λ j h.
    let up : slice_index (k ∷ ks) (suc j) < slice_index (k ∷ ks) (suc j + 1) = rises (suc j) (omega arith) in
    rw add-one (rw add-one at up) in
    (from (omega arith), below 0 k (omega arith), row_from (suc k) n ks rest (λ j d h. below (suc j) d (omega arith)) (λ h. rises 0 (omega arith)))

row_lower : (a b n : ℕ) (ks : List ℕ) → a ≤ b → Row b n ks → Row a n ks
row_lower a b n [] h r = tt
row_lower a b n (k ∷ ks) h r = (omega arith, r.1, r.2)

-- ---- the lines that a row picks, where they are numbered from n on
has_not : (n b m : ℕ) (ks : List ℕ) → n < b → Row b m ks → has ks n ≡ false
has_not n b m [] h r = refl
has_not n b m (k ∷ ks) h r = or_from _ _ (ne_eqb n k (λ e. omega arith)) (has_not n (suc k) m ks (omega arith) r.2)

none_picked : (n : ℕ) (ls : List (List ℕ)) → flat_map (if_asked []) (enumerate_from n ls) ≡ []
none_picked n [] = refl
none_picked n (l ∷ ls) = none_picked (n + 1) ls

-- a number that has gone by picks nothing more
gone_by : (k n : ℕ) (ks : List ℕ) (ls : List (List ℕ)) → k < n → flat_map (if_asked (k ∷ ks)) (enumerate_from n ls) ≡ flat_map (if_asked ks) (enumerate_from n ls)
gone_by k n ks [] h = refl
gone_by k n ks (l ∷ ls) h =
    let same : if_asked (k ∷ ks) (n, l) ≡ if_asked ks (n, l) = ap (λ v. cond (v || has ks n) l []) (ne_eqb n k (λ e. omega arith)) in
    rw (same, gone_by k (n + 1) ks ls (omega arith)) refl

line_from : List (List ℕ) → ℕ → ℕ → List ℕ
line_from ls n k = get_or ls (k - n) []

line_from_next : (l : List ℕ) (ls : List (List ℕ)) (n k : ℕ) → n < k → line_from (l ∷ ls) n k ≡ line_from ls (n + 1) k
unfolding line_from
line_from_next l ls n k h = let e : k - n ≡ suc (k - (n + 1)) = omega arith in rw e refl

lines_from_next : (l : List ℕ) (ls : List (List ℕ)) (n m : ℕ) (ks : List ℕ) → Row (n + 1) m ks → flat_map (line_from (l ∷ ls) n) ks ≡ flat_map (line_from ls (n + 1)) ks
lines_from_next l ls n m [] r = refl
lines_from_next l ls n m (k ∷ ks) r =
    rw (line_from_next l ls n k (omega arith), lines_from_next l ls n m ks (row_lower (n + 1) (suc k) m ks (omega arith) r.2)) refl

line_from_first : (l : List ℕ) (ls : List (List ℕ)) (n k : ℕ) → k ≡ n → line_from (l ∷ ls) n k ≡ l
unfolding line_from
line_from_first l ls n k h = let e : k - n ≡ 0 = omega arith in rw e refl

picks_from : (ls : List (List ℕ)) (n m : ℕ) (ks : List ℕ) → m ≡ n + length ls → Row n m ks → flat_map (if_asked ks) (enumerate_from n ls) ≡ flat_map (line_from ls n) ks
picks_from [] n m [] e r = refl
picks_from [] n m (k ∷ ks) e r = absurd (omega arith)
picks_from (l ∷ ls) n m [] e r = none_picked n (l ∷ ls)
picks_from (l ∷ ls) n m (k ∷ ks) e r = elim (cases_lt n k) [
  | inl h ↦
      let passed : if_asked (k ∷ ks) (n, l) ≡ [] = ap (λ v. cond v l []) (has_not n k m (k ∷ ks) h (omega arith, r.1, r.2)) in
      let next : Row (n + 1) m (k ∷ ks) = (omega arith, r.1, r.2) in
      rw passed (picks_from ls (n + 1) m (k ∷ ks) (omega arith) next ∙ sym (lines_from_next l ls n m (k ∷ ks) next))
  | inr h ↦
      let here : if_asked (k ∷ ks) (n, l) ≡ l = ap (λ v. cond v l []) (or_left _ _ (eq-eqb n k (omega arith))) in
      let next : Row (n + 1) m ks = row_lower (n + 1) (suc k) m ks (omega arith) r.2 in
      let rest = gone_by k (n + 1) ks ls (omega arith) ∙ picks_from ls (n + 1) m ks (omega arith) next ∙ sym (lines_from_next l ls n m ks next) in
      rw (here, line_from_first l ls n k (omega arith)) (ap (λ v. l ++ v) rest)
]

lines_from_zero : (ls : List (List ℕ)) (ks : List ℕ) → flat_map (line_from ls 0) ks ≡ flat_map (line_at ls) ks
unfolding line_from
lines_from_zero ls [] = refl
lines_from_zero ls (k ∷ ks) = let e : k - 0 ≡ k = omega arith in rw (e, lines_from_zero ls ks) refl

row_below : (n : ℕ) (ks : List ℕ) → IsStrictlyIncreasing ks → All (λ k. k < n) ks → Row 0 n ks
row_below n ks rises below = row_from 0 n ks rises below (λ h. omega arith)

pub picks_asked : (ls : List (List ℕ)) (ks : List ℕ) → IsStrictlyIncreasing ks → All (λ k. k < length ls) ks → picked ls ks ≡ flat_map (line_at ls) ks
picks_asked ls ks rises below =
    picks_from ls 0 (length ls) ks (omega arith) (row_below (length ls) ks rises below) ∙ lines_from_zero ls ks

-- ---- what is picked has just those lines
ended_before : (ls : List (List ℕ)) (k : ℕ) → AreLines ls → k + 1 < length ls → IsEnded (line_at ls k)
ended_before [] k are h = absurd (omega arith)
ended_before (l ∷ []) k are h = absurd (omega arith)
ended_before (l ∷ m ∷ ls) zero are h = are.0
ended_before (l ∷ m ∷ ls) (suc k) are h = ended_before (m ∷ ls) k are.1 (omega arith)

kind_at : (ls : List (List ℕ)) (k : ℕ) → AreLines ls → k < length ls → IsEnded (line_at ls k) ⊎ IsUnended (line_at ls k)
kind_at [] k are h = absurd (omega arith)
kind_at (l ∷ []) zero are h = are
kind_at (l ∷ []) (suc k) are h = absurd (omega arith)
kind_at (l ∷ m ∷ ls) zero are h = inl are.0
kind_at (l ∷ m ∷ ls) (suc k) are h = kind_at (m ∷ ls) k are.1 (omega arith)

lines_at : (ls : List (List ℕ)) (b : ℕ) (ks : List ℕ) → AreLines ls → Row b (length ls) ks → AreLines (map (line_at ls) ks)
lines_at ls b [] are r = tt
lines_at ls b (k ∷ []) are r = kind_at ls k are r.1
lines_at ls b (k ∷ j ∷ ks) are r = (ended_before ls k are (omega (arith, r.2.0, r.2.1)), lines_at ls (suc k) (j ∷ ks) are r.2)

concat_map : (f : ℕ → List ℕ) (ks : List ℕ) → concat (map f ks) ≡ flat_map f ks
concat_map f [] = refl
concat_map f (k ∷ ks) = ap (λ v. f k ++ v) (concat_map f ks)

pub picked_lines : (bs ks : List ℕ) → IsStrictlyIncreasing ks → All (λ k. k < length (lines bs)) ks → lines (picked (lines bs) ks) ≡ map (line_at (lines bs)) ks
picked_lines bs ks rises below =
    let ls = lines bs in
    ap lines (picks_asked ls ks rises below ∙ sym (concat_map (line_at ls) ks))
    ∙ lines_known (map (line_at ls) ks) (lines_at ls 0 ks (lines_cut bs) (row_below (length ls) ks rises below))

-- ---- what a walk along lines and marks keeps
if_marked : List ℕ × Bool → List ℕ
if_marked p = cond p.1 p.0 []

marked_picked : (ks : List ℕ) (n : ℕ) (ls : List (List ℕ)) → flat_map if_marked (zip ls (map (has ks) (range_with_len n (length ls)))) ≡ flat_map (if_asked ks) (enumerate_from n ls)
unfolding if_marked
marked_picked ks n [] = refl
marked_picked ks n (l ∷ ls) = ap (λ v. cond (has ks n) l [] ++ v) (marked_picked ks (n + 1) ls)

flat_map_map : {X Y A : Type 0} (f : Y → List A) (v : X → Y) (xs : List X) → flat_map f (map v xs) ≡ flat_map (λ x. f (v x)) xs
flat_map_map f v [] = refl
flat_map_map f v (x ∷ xs) = ap (λ w. f (v x) ++ w) (flat_map_map f v xs)

-- v reads the line and the mark of each item
pub picked_by_marks : {X : Type 0} (v : X → List ℕ × Bool) (xs : List X) (ls : List (List ℕ)) (ks : List ℕ) → map v xs ≡ zip ls (map (has ks) (range_with_len 0 (length ls))) → flat_map (λ x. cond (v x).1 (v x).0 []) xs ≡ picked ls ks
unfolding if_marked
picked_by_marks v xs ls ks e = sym (flat_map_map if_marked v xs) ∙ ap (λ w. flat_map if_marked w) e ∙ marked_picked ks 0 ls
