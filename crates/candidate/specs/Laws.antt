-- What holds of lines, as statements. Assumes nothing: these are definitions.
use Rattle.std.specs.Prelude.{◌≡◌, ◌≢◌, ℕ, ◌<◌, ◌⊎◌, List, [], ◌∷◌, ◌++◌, length, map, slice_index_or, All}
use Rattle.std.specs.List.{concat, flat_map}
use Rattle.std.specs.List.Sorted.{IsStrictlyIncreasing}
use Rattle.candidate.specs.Lines.{lines, picked}

-- no newline
abbrev pub IsPlain : List ℕ → Type 0
IsPlain bs = All (λ b. b ≢ 10) bs

-- it ends in a newline, which is its only one
abbrev pub IsEnded : List ℕ → Type 0
IsEnded l = (bs : List ℕ) × (l ≡ bs ++ 10 ∷ []) × IsPlain bs

-- it has bytes, and no newline
abbrev pub IsUnended : List ℕ → Type 0
IsUnended l = (0 < length l) × IsPlain l

-- each ends in its only newline, but the last may have none
abbrev pub AreLines : List (List ℕ) → Type 0
AreLines [] = Unit {0}
AreLines (l ∷ []) = IsEnded l ⊎ IsUnended l
AreLines (l ∷ m ∷ ls) = IsEnded l × AreLines (m ∷ ls)

-- the lines in a row are the text
unfoldable pub LinesJoin : Type 0
LinesJoin = (bs : List ℕ) → concat (lines bs) ≡ bs

-- they are lines
unfoldable pub LinesCut : Type 0
LinesCut = (bs : List ℕ) → AreLines (lines bs)

-- no other lines make the same text
unfoldable pub LinesKnown : Type 0
LinesKnown = (ls : List (List ℕ)) → AreLines ls → lines (concat ls) ≡ ls

-- the line at a number
abbrev pub line_at : List (List ℕ) → ℕ → List ℕ
line_at ls k = slice_index_or ls k []

-- a rising row of numbers of lines picks just those lines, in order
unfoldable pub PicksAsked : Type 0
PicksAsked =
    (ls : List (List ℕ)) (ks : List ℕ) → IsStrictlyIncreasing ks → All (λ k. k < length ls) ks → picked ls ks ≡ flat_map (line_at ls) ks

-- and they are the lines of what they make
unfoldable pub PickedLines : Type 0
PickedLines =
    (bs ks : List ℕ) → IsStrictlyIncreasing ks → All (λ k. k < length (lines bs)) ks → lines (picked (lines bs) ks) ≡ map (line_at (lines bs)) ks
