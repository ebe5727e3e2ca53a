-- How a text is cut into lines.
use Rattle.std.proofs.Common.{◌≡◌, ◌≢◌, ℕ, suc, ◌+◌, ◌-◌, ◌<◌, ◌≤◌, min, true, false, cond, eqb, inl, inr, List, [], ◌∷◌, ◌++◌, length, get_or, take, drop, sym, refl, ap, ◌∙◌, arith, length-take, take-append-drop}
use Rattle.std.specs.List.{concat, onto_first, IsFirstMatchOrLen}
use Rattle.std.proofs.lemmas.Bool.{eqb-true, eqb-false, ne_eqb, cases_Bool, cases_lt}
use Rattle.std.proofs.lemmas.List.{append-nil, append_assoc, drop_more, take_more, take_all, drop_all, take_rest, take_at, drop_at, get_or-take}
use Rattle.std.proofs.lemmas.List.Elements.{All-cons, All-head, All-tail}
use Rattle.candidate.specs.Lines.{behind_byte, lines}
use Rattle.candidate.specs.Laws.{IsPlain, IsEnded, IsUnended, AreLines}

-- what `IsPlain` says of each byte
abbrev Other : ℕ → Type 0
Other b = b ≢ 10

behind_other : (b : ℕ) (ls : List (List ℕ)) → b ≢ 10 → behind_byte b ls ≡ onto_first b ls
behind_other b ls other = ap (λ v. cond v ((b ∷ []) ∷ ls) (onto_first b ls)) (ne_eqb b 10 other)

behind_newline : (b : ℕ) (ls : List (List ℕ)) → b ≡ 10 → behind_byte b ls ≡ (10 ∷ []) ∷ ls
behind_newline b ls e = ap (λ v. behind_byte v ls) e

-- a line with its newline is the first
pub lines_ended : (x rest : List ℕ) → IsPlain x → lines (x ++ 10 ∷ rest) ≡ (x ++ 10 ∷ []) ∷ lines rest
lines_ended [] rest plain = refl
lines_ended (b ∷ x) rest plain =
    ap (behind_byte b) (lines_ended x rest (All-tail Other b x plain)) ∙ behind_other b _ (All-head Other b x plain)

-- what has no newline is one line
pub lines_unended : (b : ℕ) (x : List ℕ) → IsPlain (b ∷ x) → lines (b ∷ x) ≡ (b ∷ x) ∷ []
lines_unended b [] plain = behind_other b [] (All-head Other b [] plain)
lines_unended b (a ∷ x) plain =
    ap (behind_byte b) (lines_unended a x (All-tail Other b (a ∷ x) plain)) ∙ behind_other b _ (All-head Other b (a ∷ x) plain)

lines_plain : (x : List ℕ) → 0 < length x → IsPlain x → lines x ≡ x ∷ []
lines_plain [] some plain = absurd (omega arith)
lines_plain (b ∷ x) some plain = lines_unended b x plain

-- ---- the first line, as `split_inclusive` tells it
newline_at : (bs : List ℕ) (i : ℕ) → i < length bs → get_or bs i 10 ≡ 10 → lines bs ≡ lines (take i bs ++ 10 ∷ drop (i + 1) bs)
newline_at bs i h e =
    let back = take-append-drop i bs in
    let more = rw e at (drop_more bs i 10 h) in
    ap lines (sym back ∙ ap (λ v. take i bs ++ v) more)

taken_at : (bs : List ℕ) (i : ℕ) → i < length bs → get_or bs i 10 ≡ 10 → take (i + 1) bs ≡ take i bs ++ 10 ∷ []
taken_at bs i h e = take_more bs i 10 h ∙ ap (λ v. take i bs ++ v ∷ []) e

not_newline : (b : ℕ) → eqb b 10 ≡ false → b ≢ 10
not_newline b h = eqb-false b 10 h

module _ (bs : List ℕ) (i : ℕ) (first : IsFirstMatchOrLen (λ b. eqb b 10) bs i) where
  plain_before : IsPlain (take i bs)
  plain_before k d h =
      let short : k < i = omega (arith, length-take i bs) in
      rw (get_or-take i bs k d short) (not_newline _ (first.0 k d (omega arith) short))

  first_ended : i < length bs → lines bs ≡ take (i + 1) bs ∷ lines (drop (i + 1) bs)
  first_ended h =
      let e = eqb-true _ 10 (first.1 h 10) in
      rw (taken_at bs i h e) (newline_at bs i h e ∙ lines_ended (take i bs) (drop (i + 1) bs) plain_before)

  first_whole : length bs ≤ i → 0 < length bs → lines bs ≡ bs ∷ []
  first_whole h some = lines_plain bs some (rw (take_all i bs h) at plain_before)

lines_first : (bs x rest : List ℕ) (i : ℕ) → bs ≡ x ++ rest → length x ≡ min (i + 1) (length bs) → IsFirstMatchOrLen (λ b. eqb b 10) bs i → 0 < length bs → lines bs ≡ x ∷ lines rest
lines_first bs x rest i cut long first some =
    let front : take (length x) bs ≡ x = rw cut (take_at x rest (length x) refl) in
    let back : drop (length x) bs ≡ rest = rw cut (drop_at x rest (length x) refl) in
    elim (cases_lt i (length bs)) [
      | inl h ↦ let n : length x ≡ i + 1 = omega arith in
          rw (sym (rw n at front), sym (rw n at back)) (first_ended bs i first h)
      | inr h ↦ let n : length bs ≤ length x = omega arith in
          rw (sym front ∙ take_all _ bs n, sym back ∙ drop_all _ bs n) (first_whole bs i first h some)
    ]

-- the same where what is left is cut from the text
pub lines_next : (bs all x rest : List ℕ) (i : ℕ) → all ≡ bs → all ≡ x ++ rest → length x ≡ min (i + 1) (length all) → IsFirstMatchOrLen (λ b. eqb b 10) all i → 0 < length all → lines bs ≡ x ∷ lines (take (length bs - length x) (drop (length x) bs))
lines_next bs all x rest i same cut long first some =
    let left = take_rest bs (length x) ∙ ap (λ v. drop (length x) v) (sym same ∙ cut) ∙ drop_at x rest _ refl in
    rw left (rw (← same) (lines_first all x rest i cut long first some))

-- ---- the laws
concat_onto : (b : ℕ) (ls : List (List ℕ)) → concat (onto_first b ls) ≡ b ∷ concat ls
concat_onto b [] = refl
concat_onto b (l ∷ ls) = refl

concat_behind : (b : ℕ) (ls : List (List ℕ)) → concat (behind_byte b ls) ≡ b ∷ concat ls
concat_behind b ls =
    elim (eqb b 10) as (λ v. concat (cond v ((b ∷ []) ∷ ls) (onto_first b ls)) ≡ b ∷ concat ls) [
      | true ↦ refl
      | false ↦ concat_onto b ls
    ]

pub lines_join : (bs : List ℕ) → concat (lines bs) ≡ bs
lines_join [] = refl
lines_join (b ∷ bs) = concat_behind b (lines bs) ∙ ap (λ v. b ∷ v) (lines_join bs)

ended_longer : (b : ℕ) (l : List ℕ) → b ≢ 10 → IsEnded l → IsEnded (b ∷ l)
ended_longer b l other e = (b ∷ e.0, ap (λ v. b ∷ v) e.1, All-cons Other b e.0 other e.2)

unended_longer : (b : ℕ) (l : List ℕ) → b ≢ 10 → IsUnended l → IsUnended (b ∷ l)
unended_longer b l other u = (omega arith, All-cons Other b l other u.1)

one_byte : (b : ℕ) → b ≢ 10 → IsUnended (b ∷ [])
one_byte b other = (omega arith, All-cons Other b [] other (λ k d h. absurd (omega arith)))

newline_ended : IsEnded (10 ∷ [])
newline_ended = ([], refl, λ k d h. absurd (omega arith))

are_behind_newline : (ls : List (List ℕ)) → AreLines ls → AreLines ((10 ∷ []) ∷ ls)
are_behind_newline [] are = inl newline_ended
are_behind_newline (l ∷ ls) are = (newline_ended, are)

are_onto_first : (b : ℕ) (ls : List (List ℕ)) → b ≢ 10 → AreLines ls → AreLines (onto_first b ls)
are_onto_first b [] other are = inr (one_byte b other)
are_onto_first b (l ∷ []) other are = elim are [ inl e ↦ inl (ended_longer b l other e) | inr u ↦ inr (unended_longer b l other u) ]
are_onto_first b (l ∷ m ∷ ls) other are = (ended_longer b l other are.0, are.1)

are_behind : (b : ℕ) (ls : List (List ℕ)) → AreLines ls → AreLines (behind_byte b ls)
are_behind b ls are = elim (cases_Bool (eqb b 10)) [
  | inl newline ↦ rw (behind_newline b ls (eqb-true b 10 newline)) (are_behind_newline ls are)
  | inr other ↦ rw (behind_other b ls (eqb-false b 10 other)) (are_onto_first b ls (eqb-false b 10 other) are)
]

pub lines_cut : (bs : List ℕ) → AreLines (lines bs)
lines_cut [] = tt
lines_cut (b ∷ bs) = are_behind b (lines bs) (lines_cut bs)

lines_ended_concat : (l rest : List ℕ) → IsEnded l → lines (l ++ rest) ≡ l ∷ lines rest
lines_ended_concat l rest e =
    rw e.1 (ap lines (append_assoc e.0 (10 ∷ []) rest) ∙ lines_ended e.0 rest e.2)

pub lines_known : (ls : List (List ℕ)) → AreLines ls → lines (concat ls) ≡ ls
lines_known [] are = refl
lines_known (l ∷ []) are = elim are [
  | inl e ↦ lines_ended_concat l [] e
  | inr u ↦ ap lines (append-nil l) ∙ lines_plain l u.0 u.1
]
lines_known (l ∷ m ∷ ls) are =
    lines_ended_concat l (concat (m ∷ ls)) are.0 ∙ ap (λ v. l ∷ v) (lines_known (m ∷ ls) are.1)

-- ---- there are no more lines than bytes
length_onto : (b : ℕ) (ls : List (List ℕ)) → length (onto_first b ls) ≤ suc (length ls)
length_onto b [] = omega arith
length_onto b (l ∷ ls) = omega arith

length_behind : (b : ℕ) (ls : List (List ℕ)) → length (behind_byte b ls) ≤ suc (length ls)
length_behind b ls =
    elim (eqb b 10) as (λ v. length (cond v ((b ∷ []) ∷ ls) (onto_first b ls)) ≤ suc (length ls)) [
      | true ↦ omega arith
      | false ↦ length_onto b ls
    ]

pub length_lines : (bs : List ℕ) → length (lines bs) ≤ length bs
length_lines [] = omega arith
length_lines (b ∷ bs) = omega (arith, length_behind b (lines bs), length_lines bs)
