-- A transcript, and what an inspector finds in it. Assumes nothing: these are definitions.
use Rattle.std.specs.Prelude.{◌≡◌, ℕ, ◌+◌, ◌*◌, ◌<◌, ◌≤◌, Bool, true, cond, not, ◌&&◌, ◌||◌, ◌⊎◌, List, [], ◌∷◌, map, reverse, length, drop, ◌==◌, nat_le, slice_index, codes, Result, Ok, Err}
use Rattle.std.specs.List.{list_all}
use Rattle.subset.specs.Parts.{all_parts, some_of, without}
use Rattle.bisect.specs.Judge.{Judge, fails, Monotone}
use Rattle.bisect.specs.Engine.{Ran, ran, told_left, told_sound, told_refused, still_asks}
use Rattle.inspect.specs.Exhaustive.{grows, spared}
use Rattle.judges.specs.Kept.{Kept}
use Rattle.inspect.specs.declared.inspector.End.{End}
use Rattle.inspect.specs.declared.inspector.End.TheVariants as end
use Rattle.inspect.specs.declared.inspector.Finding.{Finding}
use Rattle.inspect.specs.declared.inspector.Finding.TheVariants.{Misheard, Strayed, NotRefused, Refused, Unended, Unasked, AskedMore, NotSound, NoSubset, Passes, Loose, WasSound, TooMany, ManyIfMonotone, SmallerFails}

-- ---- the run that a transcript tells of: exchanges, the first first, each the answer and then the question
abbrev pub answer_of : List ℕ → ℕ
answer_of e = slice_index e 0

abbrev pub question_of : List ℕ → List ℕ
question_of e = drop 1 e

-- how it ended: what is left; all together don't fail; refused; or it still asked
pub data Ending : Type 0 where
  left : List ℕ → Ending
  sound : Ending
  refused : Ending
  unended : Ending

abbrev pub ending : End → Ending
ending (end.Left ks) = left ks.now
ending end.Sound = sound
ending end.Refused = refused
ending end.Unended = unended

abbrev pub end_number : Ending → ℕ
end_number (left ks) = told_left
end_number sound = told_sound
end_number refused = told_refused
end_number unended = still_asks

-- what is left, where something is
abbrev pub rest_of : Ending → List ℕ
rest_of (left ks) = ks
rest_of sound = []
rest_of refused = []
rest_of unended = []

unfoldable pub recorded : List (List ℕ) → Ending → Ran
recorded es x = ran (reverse (map question_of es)) (end_number x) (rest_of x)

-- ---- what is found: the first promise that is broken
-- an answer is what the judge says
abbrev pub rightly : Judge → List ℕ → Bool
rightly f e = f (question_of e) == answer_of e

-- a question is a subset of the n parts
abbrev pub there : ℕ → List ℕ → Bool
there n e = some_of n (question_of e)

-- on, if this holds
abbrev pub check : Bool → Finding → Result (Unit {0}) Finding → Result (Unit {0}) Finding
check b broken go = cond b go (Err broken)

-- of more than 4,096 parts
abbrev pub of_many : List (List ℕ) → Ending → Result (Unit {0}) Finding
of_many [] refused = Ok tt
of_many [] (left ks) = Err NotRefused
of_many [] sound = Err NotRefused
of_many [] unended = Err NotRefused
of_many (e ∷ es) x = Err NotRefused

-- where it said "sound": the first question was of all (a subset of n parts that has n), it was the last, and it did not fail
abbrev pub of_sound : ℕ → List (List ℕ) → Result (Unit {0}) Finding
of_sound n [] = Err Unasked
of_sound n (e ∷ es) =
    check (length (question_of e) == n) Unasked
    (check (length es == 0) AskedMore (check (not (answer_of e == 1)) NotSound (Ok tt)))

-- whether failing is known to be monotone: one was told so, or, up to nine parts, it was tried
abbrev pub known : Bool → ℕ → Judge → Bool
known told n f = told || (nat_le n 9 && grows n f)

-- where failing is known to be monotone
abbrev pub of_monotone : ℕ → Judge → ℕ → List ℕ → Result (Unit {0}) Finding
of_monotone n f asked ks =
    check (nat_le asked (14 * (length ks + 1))) ManyIfMonotone (check (cond (nat_le n 9) (spared n f ks) true) SmallerFails (Ok tt))

-- how many questions there were
abbrev pub of_count : Bool → ℕ → Judge → ℕ → List ℕ → Result (Unit {0}) Finding
of_count told n f asked ks =
    check (nat_le asked (15 * (n + 1) * (n + 1))) TooMany (cond (known told n f) (of_monotone n f asked ks) (Ok tt))

-- no single part of ks can be left out
abbrev pub all_needed : Judge → List ℕ → Bool
all_needed f ks = list_all (λ k. not (fails f (without k ks))) ks

-- where something is left
abbrev pub of_left : Bool → ℕ → Judge → ℕ → List ℕ → Result (Unit {0}) Finding
of_left told n f asked ks =
    check (some_of n ks) NoSubset
    (check (fails f ks) Passes
    (check (all_needed f ks) Loose (check (fails f (all_parts n)) WasSound (of_count told n f asked ks))))

abbrev pub of_end : Bool → ℕ → Judge → List (List ℕ) → Ending → Result (Unit {0}) Finding
of_end told n f es (left ks) = of_left told n f (length es) ks
of_end told n f es sound = of_sound n es
of_end told n f es refused = Err Refused
of_end told n f es unended = Err Unended

abbrev pub finding : Bool → ℕ → Judge → List (List ℕ) → Ending → Result (Unit {0}) Finding
finding told n f es x =
    check (list_all (rightly f) es) Misheard
    (check (list_all (there n) es) Strayed (cond (nat_le n 4096) (of_end told n f es x) (of_many es x)))

-- ---- what that means
-- failing is known to be monotone
abbrev pub Known : Bool → ℕ → Judge → Type 0
Known told n f = (told ≡ true) ⊎ ((n ≤ 9) × Monotone f n)

-- the answers are the judge's, and the promises are kept
abbrev pub Clean : Bool → ℕ → Judge → List (List ℕ) → Ending → Type 0
Clean told n f es x = (list_all (rightly f) es ≡ true) × Kept (Known told n f) n f (recorded es x)

-- NOTHING IS FOUND exactly where that holds; of more than nine parts one must not be told falsely that failing is monotone
abbrev pub Exact : Bool → ℕ → Judge → List (List ℕ) → Ending → Result (Unit {0}) Finding → Type 0
Exact told n f es x r =
    (9 < n → told ≡ true → Monotone f n) → (r ≡ Ok tt → Clean told n f es x) × (Clean told n f es x → r ≡ Ok tt)

-- ---- what a finding prints
abbrev pub words : Finding → List ℕ
words Misheard = codes "an answer isn't the judge's"
words Strayed = codes "it asked of what isn't there"
words NotRefused = codes "it didn't refuse too many parts"
words Refused = codes "it refused, though there aren't too many parts"
words Unended = codes "it never ended"
words Unasked = codes "it said sound, and did not ask of all"
words AskedMore = codes "it said sound after asking more"
words NotSound = codes "it said sound, and all together fail"
words NoSubset = codes "what is left is no subset of the parts"
words Passes = codes "what is left doesn't fail"
words Loose = codes "something can be left out"
words WasSound = codes "all together don't fail, and it didn't say sound"
words TooMany = codes "too many questions"
words ManyIfMonotone = codes "too many questions where failing is monotone"
words SmallerFails = codes "something smaller fails"
