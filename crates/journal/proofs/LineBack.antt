-- What is written is read back.
use Rattle.std.proofs.Common.{arith, ◌≡◌, ℕ, ◌+◌, ◌<◌, ◌^◌, Bool, true, false, not, ltb, List, [], ◌∷◌, ◌++◌, length, take, drop, map, decimal, fold, filter, find, position, All, Some, None, Ok, ◌==◌, nat_le, ◌∙◌, sym, ap, refl}
use Rattle.std.specs.Char.{is_ascii_digit}
use Rattle.std.specs.List.{join_by, list_all, position_or_len, slice_split}
use Rattle.std.specs.Result.{result_ok}
use Rattle.std.specs.Option.{option_map}
use Rattle.std.proofs.lemmas.Bool.{and_parts, cond-false, eq-eqb, ltb-true, lt-ltb, lt-leb, ne_eqb, not_from_false}
use Rattle.std.proofs.lemmas.Fmt.{decimal_nonempty}
use Rattle.std.proofs.lemmas.List.{append-nil, append_assoc, drop_at, get_or_append_left, get_or_at, length-append, length_push, reverse-append, take_at}
use Rattle.std.proofs.lemmas.List.Elements.{All-append, All-cons, All-map, All-head, All-nil, All-tail, All-weaker}
use Rattle.std.proofs.lemmas.List.Folds.{list_any_none}
use Rattle.std.proofs.lemmas.List.Splits.{slice_split_at, slice_split_none}
use Rattle.std.proofs.lemmas.List.Sums.{position_or_len_is}
use Rattle.bisect.specs.declared.verdict.Verdict.{Verdict}
use Rattle.bisect.specs.declared.verdict.Verdict.TheVariants.{No, Yes, Unclear}
use Rattle.dialog.specs.Lines.{behind_blanks, question_line}
use Rattle.dialog.specs.Reading.{line_verdict}
use Rattle.subset.specs.Parts.{rising, some_of}
use Rattle.journal.specs.Line.{IsOneLine, ReadsBack, and_word, checked, exchange_line, exchange_read, heading, heading_in, heading_words, letter, numbers, skipped, words}
use Rattle.journal.proofs.Lists.{Differs, Lacks, Lacks-from_any, filter_all}
use Rattle.journal.proofs.LineNumerals.{digits_only, other_byte, skipped-digits, text_size-decimal}

-- ---- which bytes are not there
abbrev Fits : ℕ → Type 0
Fits k = k < 2 ^ 64

abbrev Small : List ℕ → Type 0
Small ks = All Fits ks

Lacks-decimal : (c n : ℕ) → is_ascii_digit c ≡ false → n < 2 ^ 64 → Lacks c (decimal n)
Lacks-decimal c n other small = All-weaker _ _ (λ b digit. other_byte c b other digit) (decimal n) (digits_only n small)

-- the parts of a question, a blank between two
abbrev joined : List ℕ → List ℕ
joined ks = join_by decimal (32 ∷ []) ks

Lacks-behind : (c : ℕ) (ks : List ℕ) → (32 == c) ≡ false → is_ascii_digit c ≡ false → Small ks → Lacks c (behind_blanks ks)
Lacks-behind c [] blank other small = All-nil (Differs c)
Lacks-behind c (k ∷ ks) blank other small =
    All-cons (Differs c) 32 _ blank
    (All-append (Differs c) (decimal k) (behind_blanks ks) (Lacks-decimal c k other (All-head Fits k ks small))
    (Lacks-behind c ks blank other (All-tail Fits k ks small)))

Lacks-joined : (c : ℕ) (ks : List ℕ) → (32 == c) ≡ false → is_ascii_digit c ≡ false → Small ks → Lacks c (joined ks)
Lacks-joined c [] blank other small = All-nil (Differs c)
Lacks-joined c (k ∷ ks) blank other small = All-tail (Differs c) 32 (joined (k ∷ ks)) (Lacks-behind c (k ∷ ks) blank other small)

-- ---- the numbers of a question
slice_split-joined : (k : ℕ) (ks : List ℕ) → Small (k ∷ ks) → slice_split (λ b. b == 32) (joined (k ∷ ks)) ≡ map decimal (k ∷ ks)
slice_split-joined k [] small =
    rw (append-nil (decimal k)) (slice_split_none _ (decimal k) (Lacks-decimal 32 k refl (All-head Fits k [] small)))
slice_split-joined k (j ∷ ks) small =
    slice_split_at _ (decimal k) 32 (joined (j ∷ ks)) (Lacks-decimal 32 k refl (All-head Fits k (j ∷ ks) small)) refl
    ∙ ap (λ ws. decimal k ∷ ws) (slice_split-joined j ks (All-tail Fits k (j ∷ ks) small))

is_word : (k : ℕ) → k < 2 ^ 64 → not (length (decimal k) == 0) ≡ true
is_word k small = let some = decimal_nonempty k small in not_from_false _ (ne_eqb (length (decimal k)) 0 (λ e. omega arith))

words-joined : (ks : List ℕ) → Small ks → words (joined ks) ≡ map decimal ks
words-joined [] small = refl
words-joined (k ∷ ks) small =
    let kept : List ℕ → Bool = λ w. not (length w == 0) in
    ap (filter kept) (slice_split-joined k ks small) ∙ filter_all kept (map decimal (k ∷ ks)) (All-map (λ w. kept w ≡ true) decimal (k ∷ ks) (All-weaker _ _ is_word (k ∷ ks) small))

fold-decimal : (js ks : List ℕ) → Small ks → fold and_word (Some js) (map decimal ks) ≡ Some (js ++ ks)
fold-decimal js [] small = ap (λ l. Some l) (sym (append-nil js))
fold-decimal js (k ∷ ks) small =
    let said = text_size-decimal k (All-head Fits k ks small) in
    ap (λ size. fold and_word (option_map (λ j. js ++ j ∷ []) (result_ok size)) (map decimal ks)) said
    ∙ fold-decimal (js ++ k ∷ []) ks (All-tail Fits k ks small)
    ∙ ap (λ l. Some l) (append_assoc js (k ∷ []) ks)

-- ---- some of the parts
find-some : (n : ℕ) (ks : List ℕ) → list_all (λ k. ltb k n) ks ≡ true → find (nat_le n) ks ≡ None
find-some n [] within = refl
find-some n (k ∷ ks) within =
    let both = and_parts (ltb k n) (list_all (λ j. ltb j n) ks) within in
    cond-false _ _ _ (lt-leb n k (ltb-true k n both.0)) ∙ find-some n ks both.1

checked-some : (n : ℕ) (ks : List ℕ) → some_of n ks ≡ true → checked n ks ≡ Ok tt
checked-some n ks some =
    let both = and_parts (rising ks) (list_all (λ k. ltb k n) ks) some in
    rw (find-some n ks both.1, both.0) refl

-- ---- where the question ends
position-at : (c : ℕ) (bs cs : List ℕ) → Lacks c bs → position (λ b. b == c) (bs ++ c ∷ cs) ≡ Some (length bs)
position-at c bs cs lacks =
    let p : ℕ → Bool = λ b. b == c in
    let long : length bs < length (bs ++ c ∷ cs) = omega (arith, length-append bs (c ∷ cs)) in
    let place : position_or_len p (bs ++ c ∷ cs) ≡ length bs =
    position_or_len_is p (bs ++ c ∷ cs) (length bs) 0 (omega arith)
    (λ k low. rw (get_or_append_left bs (c ∷ cs) 0 k low) (lacks k 0 low))
    (λ _. rw (get_or_at bs c cs 0 (length bs) refl) (eq-eqb c c refl)) in
    rw (place, lt-ltb (length bs) (length (bs ++ c ∷ cs)) long) refl

line_verdict-letter : (v : Verdict) → line_verdict (32 ∷ letter v ∷ []) ≡ Some v
line_verdict-letter Yes = refl
line_verdict-letter No = refl
line_verdict-letter Unclear = refl

exchange_read-written : (n : ℕ) (ks : List ℕ) (v : Verdict) → some_of n ks ≡ true → Small ks → exchange_read n (exchange_line ks v) ≡ Ok (ks, v)
exchange_read-written n ks v some small =
    let bs = exchange_line ks v in
    let ps = joined ks in
    let back : List ℕ = 32 ∷ letter v ∷ [] in
    let apart = append_assoc ps (63 ∷ []) back in
    let mark : position (λ b. b == 63) bs ≡ Some (length ps) = rw apart (position-at 63 ps back (Lacks-joined 63 ks refl refl small)) in
    let verdict : line_verdict (drop (length ps + 1) bs) ≡ Some v =
    ap line_verdict (drop_at (ps ++ 63 ∷ []) back (length ps + 1) (length_push ps 63)) ∙ line_verdict-letter v in
    let question : numbers (words (take (length ps) bs)) ≡ Some ks =
    ap (λ cs. numbers (words (take (length ps) cs))) apart ∙ ap (λ cs. numbers (words cs)) (take_at ps (63 ∷ back) (length ps) refl) ∙ ap numbers (words-joined ks small) ∙ fold-decimal [] ks small in
    rw (mark, verdict, question, checked-some n ks some) refl

skipped-letter : (bs : List ℕ) (v : Verdict) → skipped (bs ++ (32 ∷ letter v ∷ [])) ≡ false
skipped-letter bs Yes = rw (reverse-append bs) refl
skipped-letter bs No = rw (reverse-append bs) refl
skipped-letter bs Unclear = rw (reverse-append bs) refl

Lacks-verdict : (v : Verdict) → Lacks 10 (32 ∷ letter v ∷ [])
Lacks-verdict Yes = Lacks-from_any 10 (32 ∷ 121 ∷ []) refl
Lacks-verdict No = Lacks-from_any 10 (32 ∷ 110 ∷ []) refl
Lacks-verdict Unclear = Lacks-from_any 10 (32 ∷ 117 ∷ []) refl

Lacks-exchange : (ks : List ℕ) (v : Verdict) → Small ks → Lacks 10 (exchange_line ks v)
Lacks-exchange ks v small =
    let question = All-append (Differs 10) (joined ks) (63 ∷ []) (Lacks-joined 10 ks refl refl small) (Lacks-from_any 10 (63 ∷ []) refl) in
    All-append (Differs 10) (question_line ks) (32 ∷ letter v ∷ []) question (Lacks-verdict v)

-- ---- a heading and an exchange
pub heading_back : (n : ℕ) → n < 2 ^ 64 → (heading_in (heading n) ≡ Ok n) × IsOneLine (heading n)
heading_back n small = (
  rw (text_size-decimal n small) refl,
  (list_any_none _ (decimal n) (Lacks-decimal 10 n refl small), skipped-digits heading_words n small),
)

pub exchange_back : (n : ℕ) (ks : List ℕ) (v : Verdict) → some_of n ks ≡ true → Small ks → (exchange_read n (exchange_line ks v) ≡ Ok (ks, v)) × IsOneLine (exchange_line ks v)
exchange_back n ks v some small = (
  exchange_read-written n ks v some small,
  (list_any_none _ (exchange_line ks v) (Lacks-exchange ks v small), skipped-letter (question_line ks) v),
)

pub reads_back : ReadsBack
unfolding ReadsBack
reads_back = (heading_back, exchange_back)
