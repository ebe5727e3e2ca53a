-- What is printed of parts.
use Rattle.std.specs.Prelude.{ℕ, List, [], ◌∷◌, ◌++◌, codes, decimal, flat_map}
use Rattle.std.specs.List.{join_by}

-- each part behind a blank
abbrev pub behind_blanks : List ℕ → List ℕ
behind_blanks ps = flat_map (λ p. 32 ∷ decimal p) ps

-- a question: the parts, with a blank between two, and a question mark
abbrev pub question_line : List ℕ → List ℕ
question_line ps = join_by decimal (32 ∷ []) ps ++ (63 ∷ [])

-- the end: the word, and each part that is left behind a blank
abbrev pub left_line : List ℕ → List ℕ
left_line ps = codes "left" ++ behind_blanks ps
