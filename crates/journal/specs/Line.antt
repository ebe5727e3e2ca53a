-- The lines of a journal: what is written, and what a line says. Lines are lists of bytes. Assumes nothing: these are definitions.
use Rattle.std.specs.Prelude.{◌≡◌, All, ℕ, ◌+◌, ◌^◌, ◌<◌, Bool, true, false, cond, not, List, [], ◌∷◌, ◌++◌, length, take, drop, reverse, codes, decimal, fold, find, filter, position, option_map, Some, None, Option, Ok, Err, Result, ◌==◌, nat_le}
use Rattle.std.specs.List.{list_any, prefix_len, slice_split}
use Rattle.std.specs.Str.{bytes_eq}
use Rattle.std.specs.Option.{ok_or, option_map_or}
use Rattle.std.specs.Result.{result_ok}
use Rattle.bisect.specs.declared.verdict.Verdict.{Verdict}
use Rattle.bisect.specs.declared.verdict.Verdict.TheVariants.{No, Yes, Unclear}
use Rattle.dialog.specs.Lines.{question_line}
use Rattle.dialog.specs.Reading.{blank, line_verdict, text_size}
use Rattle.subset.specs.Parts.{rising, some_of}
use Rattle.journal.specs.declared.line.Fault.{Fault}
use Rattle.journal.specs.declared.line.Fault.TheVariants.{Version, NoExchange, NoPart, NotRising, Foreign, OutOfMemory}

-- ---- what is written
-- the name of the format and its version
abbrev pub heading_words : List ℕ
heading_words = codes "hidlombe 1, parts: "

-- the first line, of n parts
abbrev pub heading : ℕ → List ℕ
heading n = heading_words ++ decimal n

abbrev pub letter : Verdict → ℕ
letter Yes = 121
letter No = 110
letter Unclear = 117

-- a question with its verdict
abbrev pub exchange_line : List ℕ → Verdict → List ℕ
exchange_line ks v = question_line ks ++ (32 ∷ letter v ∷ [])

-- what is said of a fault
abbrev pub text_of : Fault → List ℕ
text_of Version = codes "no journal of this version"
text_of NoExchange = codes "no question with its answer"
text_of (NoPart p) = codes "there is no part " ++ decimal p
text_of NotRising = codes "the parts don't rise"
text_of Foreign = codes "the reducer asks something else here"
text_of OutOfMemory = codes "out of memory"

-- ---- what a line says
-- the last byte, blanks at the end aside
abbrev pub last_byte : List ℕ → Option ℕ
last_byte bs = find (λ b. not (blank b)) (reverse bs)

-- nothing but blanks, or cut off, which `#` at the end says
abbrev pub skipped : List ℕ → Bool
skipped bs = option_map_or (λ b. b == 35) (last_byte bs) true

abbrev pub without_blanks_before : List ℕ → List ℕ
without_blanks_before bs = drop (prefix_len blank bs) bs

-- on with the value; or the error, and no further
infixl 10 ◌>>=◌
abbrev pub ◌>>=◌ : {A B : Type 0} → Result A Fault → (A → Result B Fault) → Result B Fault
(Ok x) >>= f = f x
(Err e) >>= f = Err e

-- what stands behind the heading's words, if the line begins with them
abbrev pub behind_words : List ℕ → Option (List ℕ)
behind_words bs = cond (bytes_eq (take (length heading_words) bs) heading_words) (Some (drop (length heading_words) bs)) None

-- how many parts a heading tells of
abbrev pub heading_in : List ℕ → Result ℕ Fault
heading_in bs = do
  rest ← ok_or (behind_words (without_blanks_before bs)) Version
  ok_or (result_ok (text_size rest)) Version

-- what stands between blanks, where that is something
abbrev pub words : List ℕ → List (List ℕ)
words bs = filter (λ w. not (length w == 0)) (slice_split (λ b. b == 32) bs)

-- the numbers so far, and the one that a further word says
abbrev pub and_word : Option (List ℕ) → List ℕ → Option (List ℕ)
and_word None w = None
and_word (Some ks) w = option_map (λ k. ks ++ k ∷ []) (result_ok (text_size w))

-- the numbers that words say, if each says one
abbrev pub numbers : List (List ℕ) → Option (List ℕ)
numbers ws = fold and_word (Some []) ws

-- what is wrong with parts that are to be some of n: one is above n - 1, or they don't rise
abbrev pub checked : ℕ → List ℕ → Result (Unit {0}) Fault
checked n ks = option_map_or (λ p. Err (NoPart p)) (find (nat_le n) ks) (cond (rising ks) (Ok tt) (Err NotRising))

-- a question of some of the n parts, which stands before the first question mark, and behind it the verdict
abbrev pub exchange_read : ℕ → List ℕ → Result (List ℕ × Verdict) Fault
exchange_read n bs = do
  i ← ok_or (position (λ b. b == 63) bs) NoExchange
  v ← ok_or (line_verdict (drop (i + 1) bs)) NoExchange
  ks ← ok_or (numbers (words (take i bs))) NoExchange
  _ ← checked n ks
  Ok (ks, v)

-- ---- what holds of lines
-- it is one line, and who reads doesn't pass over it
abbrev pub IsOneLine : List ℕ → Type 0
IsOneLine bs = (list_any (λ b. b == 10) bs ≡ false) × (skipped bs ≡ false)

-- what is written of numbers of 64 bits is read back
unfoldable pub ReadsBack : Type 0
ReadsBack =
    ((n : ℕ) → n < 2 ^ 64 → (heading_in (heading n) ≡ Ok n) × IsOneLine (heading n))
    × ((n : ℕ) (ks : List ℕ) (v : Verdict) → some_of n ks ≡ true → All (λ k. k < 2 ^ 64) ks → (exchange_read n (exchange_line ks v) ≡ Ok (ks, v)) × IsOneLine (exchange_line ks v))
