-- The lines of a text, and what some of them make. A text is a list of bytes. Assumes nothing: these are definitions.
use Rattle.std.specs.Prelude.{ℕ, Bool, cond, List, [], ◌∷◌, ◌==◌, nat_eq}
use Rattle.std.specs.List.{enumerate_from, flat_map, list_any, onto_first}

-- the lines of a text that begins with this byte, from the lines of what follows it
abbrev pub behind_byte : ℕ → List (List ℕ) → List (List ℕ)
behind_byte b ls = cond (b == 10) ((b ∷ []) ∷ ls) (onto_first b ls)

-- the lines, each with the newline that ends it; what stands behind the last newline is a line too, where that is anything
abbrev pub lines : List ℕ → List (List ℕ)
lines [] = []
lines (b ∷ bs) = behind_byte b (lines bs)

-- whether a number stands in a row
abbrev pub has : List ℕ → ℕ → Bool
has ks k = list_any (nat_eq k) ks

-- one of the lines, with its number: its bytes if that stands in the row
abbrev pub if_asked : List ℕ → ℕ × List ℕ → List ℕ
if_asked ks p = cond (has ks p.0) p.1 []

-- the bytes of those lines whose number, from 0 on, stands in the row
abbrev pub picked : List (List ℕ) → List ℕ → List ℕ
picked ls ks = flat_map (if_asked ks) (enumerate_from 0 ls)
