-- A subset as a row of words: part p is in it where bit p % 64 of word p / 64 is set. Assumes nothing: these are definitions.
use Rattle.std.specs.Prelude.{ℕ, zero, suc, ◌+◌, ◌*◌, ◌/◌, ◌%◌, ◌^◌, Bool, cond, ◌&&◌, ◌||◌, List, ◌∷◌, ◌++◌, map, length, take, drop, ◌==◌, nat_lt, slice_index}
use Rattle.std.specs.List.{filter}
use Rattle.std.specs.List.{range_with_len}
use Rattle.subset.specs.Parts.{all_parts, has, within}

-- bit b of a number
unfoldable pub digit : ℕ → ℕ → Bool
digit w b = w / 2 ^ b % 2 == 1

-- part p of a row of words
unfoldable pub bit : List ℕ → ℕ → Bool
bit ws p = digit (slice_index ws (p / 64)) (p % 64)

-- the members, rising
unfoldable pub members : List ℕ → List ℕ
members ws = filter (bit ws) (all_parts (64 * length ws))

-- the number whose lowest k bits are f's
unfoldable pub number : (ℕ → Bool) → ℕ → ℕ
number f zero = 0
number f (suc k) = cond (f 0) 1 0 + 2 * number (λ b. f (suc b)) k

-- the n words of the row that has just the parts f, and of the row that has just ks: the encoding
unfoldable pub word_by : (ℕ → Bool) → ℕ → ℕ
word_by f i = number (λ b. f (i * 64 + b)) 64

unfoldable pub words_by : (ℕ → Bool) → ℕ → List ℕ
words_by f n = map (word_by f) (range_with_len 0 n)

unfoldable pub words_of : ℕ → List ℕ → List ℕ
words_of n ks = words_by (has ks) n

-- with p put in
abbrev pub with_part : ℕ → List ℕ → List ℕ
with_part p ks = filter (λ j. nat_lt j p) ks ++ p ∷ filter (λ j. nat_lt p j) ks

-- with those whose rank is in from..to taken out
abbrev pub cut_out : ℕ → ℕ → List ℕ → List ℕ
cut_out from to ks = take from ks ++ drop to ks

-- what is in either, below n
abbrev pub joined : ℕ → List ℕ → List ℕ → List ℕ
joined n ks js = filter (λ p. has ks p || has js p) (all_parts n)

-- how many members come before p
abbrev pub rank : List ℕ → ℕ → ℕ
rank ks p = length (filter (λ j. nat_lt j p) ks)

-- the half of the members, rounded down
abbrev pub half : List ℕ → ℕ
half ks = length ks / 2

-- each is within the other
abbrev pub alike : List ℕ → List ℕ → Bool
alike ks js = within ks js && within js ks
