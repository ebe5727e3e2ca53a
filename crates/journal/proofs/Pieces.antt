-- A text as its lines, and how they are read.
use Rattle.std.proofs.Common.{arith, ◌≡◌, ℕ, ◌+◌, Bool, true, false, not, List, [], ◌∷◌, ◌++◌, length, reverse, fold, All, None, Option, Ok, Err, Result, ◌==◌, ◌∙◌, ap, refl}
use Rattle.std.specs.List.{enumerate_from, flat_map, prefix_len, slice_split}
use Rattle.std.proofs.lemmas.Bool.{cond_both, cond-true, eqb-true, not_from_false}
use Rattle.std.proofs.lemmas.List.{append_assoc, length-append, reverse-append, take_at}
use Rattle.std.proofs.lemmas.List.Elements.{All-cons, All-head, All-nil, All-tail}
use Rattle.std.proofs.lemmas.List.Folds.{prefix_len-append}
use Rattle.std.proofs.lemmas.List.Splits.{slice_split_at}
use Rattle.std.proofs.lemmas.List.Sums.{fold-append, suffix_len_is}
use Rattle.journal.specs.Line.{skipped}
use Rattle.journal.specs.Promise.{line}
use Rattle.journal.specs.Replay.{cut_off, read_line, read_lines, replayed, taken_up, whole_lines}
use Rattle.journal.specs.declared.replay.Broken.{Broken}
use Rattle.journal.specs.declared.replay.Replayed.{Replayed}
use Rattle.journal.proofs.Lists.{Differs, Lacks, enumerate_from-append}

abbrev inside : ℕ → Bool
inside b = not (b == 10)

abbrev pub pieces : List ℕ → List (List ℕ)
pieces bs = slice_split (λ b. b == 10) bs

abbrev pub text : List (List ℕ) → List ℕ
text ls = flat_map line ls

-- ---- lines, and what was cut off
cut_off-none : (bs : List ℕ) → Lacks 10 bs → cut_off bs ≡ length bs
cut_off-none bs none =
    let all = suffix_len_is inside bs 0 0 (omega arith) (λ k _ low. not_from_false _ (none k 0 low)) (λ some. absurd (omega arith)) in
    omega (arith, all)

cut_off-line : (l bs : List ℕ) → cut_off (line l ++ bs) ≡ cut_off bs
cut_off-line l bs =
    let whole : cut_off (line l) ≡ 0 = ap (prefix_len inside) (reverse-append l (10 ∷ [])) in
    ap (prefix_len inside) (reverse-append (line l) bs) ∙ prefix_len-append inside (reverse bs) (reverse (line l))
    ∙ cond_both (cut_off bs == length (reverse bs)) _ _ (λ n. n ≡ cut_off bs) (λ all. omega (arith, eqb-true _ _ all)) (λ some. refl)

pub cut_off-text : (ls : List (List ℕ)) (bs : List ℕ) → Lacks 10 bs → cut_off (text ls ++ bs) ≡ length bs
cut_off-text [] bs none = cut_off-none bs none
cut_off-text (l ∷ ls) bs none = ap cut_off (append_assoc (line l) (text ls) bs) ∙ cut_off-line l (text ls ++ bs) ∙ cut_off-text ls bs none

pub whole_lines-text : (ls : List (List ℕ)) (bs : List ℕ) → Lacks 10 bs → whole_lines (text ls ++ bs) ≡ text ls
whole_lines-text ls bs none = take_at (text ls) bs _ (omega (arith, length-append (text ls) bs, cut_off-text ls bs none))

pub pieces-text : (ls : List (List ℕ)) → All (Lacks 10) ls → pieces (text ls) ≡ ls ++ ([] ∷ [])
pieces-text [] each = refl
pieces-text (l ∷ ls) each =
    ap pieces (append_assoc l (10 ∷ []) (text ls)) ∙ slice_split_at (λ b. b == 10) l 10 (text ls) (All-head (Lacks 10) l ls each) refl
    ∙ ap (λ ms. l ∷ ms) (pieces-text ls (All-tail (Lacks 10) l ls each))

-- each text is so
pub record Lines (bs : List ℕ) : Type 0 where
  pub lines : List (List ℕ)
  pub rest : List ℕ
  pub each : All (Lacks 10) lines
  pub none : Lacks 10 rest
  pub joined : bs ≡ text lines ++ rest

pub lines_in : (bs : List ℕ) → Lines bs
lines_in [] = record { lines = []; rest = []; each = All-nil (Lacks 10); none = All-nil (Differs 10); joined = refl }
lines_in (b ∷ bs) = by (b == 10) refl (lines_in bs)
  where
    longer : (ls : List (List ℕ)) (rest : List ℕ) → All (Lacks 10) ls → Lacks 10 rest → bs ≡ text ls ++ rest → (b == 10) ≡ false → Lines (b ∷ bs)
    longer [] rest each none joined other =
        record { lines = []; rest = b ∷ rest; each = each; none = All-cons (Differs 10) b rest other none; joined = ap (λ cs. b ∷ cs) joined }
    longer (l ∷ ls) rest each none joined other = record {
      lines = (b ∷ l) ∷ ls;
      rest = rest;
      each = All-cons (Lacks 10) (b ∷ l) ls (All-cons (Differs 10) b l other (All-head (Lacks 10) l ls each)) (All-tail (Lacks 10) l ls each);
      none = none;
      joined = ap (λ cs. b ∷ cs) joined;
    }

    by : (t : Bool) → (b == 10) ≡ t → Lines bs → Lines (b ∷ bs)
    by true ends x = record {
      lines = [] ∷ x.lines;
      rest = x.rest;
      each = All-cons (Lacks 10) [] x.lines (All-nil (Differs 10)) x.each;
      none = x.none;
      joined = λ i. eqb-true b 10 ends i ∷ x.joined i;
    }
    by false other x = longer x.lines x.rest x.each x.none x.joined other

-- ---- how lines are read
pub read_lines-append : (ls ms : List (List ℕ)) → read_lines (ls ++ ms) ≡ fold read_line (read_lines ls) (enumerate_from (length ls) ms)
read_lines-append ls ms =
    let same : 0 + length ls ≡ length ls = omega arith in
    ap (fold read_line (Ok None)) (enumerate_from-append 0 ls ms ∙ ap (λ k. enumerate_from 0 ls ++ enumerate_from k ms) same)
    ∙ fold-append read_line (Ok None) (enumerate_from 0 ls) (enumerate_from (length ls) ms)

pub read_lines-skipped : (ls : List (List ℕ)) (l : List ℕ) → skipped l ≡ true → read_lines (ls ++ (l ∷ [])) ≡ read_lines ls
read_lines-skipped ls l skips = read_lines-append ls (l ∷ []) ∙ by (read_lines ls)
  where
    by : (r : Result (Option Replayed) Broken) → read_line r (length ls, l) ≡ r
    by (Err b) = refl
    by (Ok j) = cond-true _ _ _ skips

pub replayed-text : (ls : List (List ℕ)) (bs : List ℕ) → All (Lacks 10) ls → Lacks 10 bs → replayed (text ls ++ bs) ≡ taken_up (read_lines ls)
replayed-text ls bs each none =
    ap (λ cs. taken_up (read_lines (pieces cs))) (whole_lines-text ls bs none) ∙ ap (λ ms. taken_up (read_lines ms)) (pieces-text ls each)
    ∙ ap taken_up (read_lines-skipped ls [] refl)
