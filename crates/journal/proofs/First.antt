-- The first line that is at fault is named, with its fault.
use Rattle.std.proofs.Common.{◌≡◌, ℕ, ◌+◌, false, List, [], ◌∷◌, ◌++◌, length, fold, All, Some, None, Option, Ok, Err, Result, ◌∙◌, sym, ap, refl}
use Rattle.std.specs.List.{enumerate_from}
use Rattle.std.proofs.lemmas.Bool.{cond-false}
use Rattle.std.proofs.lemmas.Grind.{flat_map-append}
use Rattle.std.proofs.lemmas.List.{append-nil, append_assoc, length_push, nil_from_length}
use Rattle.std.proofs.lemmas.List.Elements.{All-append, All-cons}
use Rattle.std.proofs.lemmas.List.Folds.{fold_stays}
use Rattle.journal.specs.Line.{skipped}
use Rattle.journal.specs.Promise.{NamesTheFirst, line}
use Rattle.journal.specs.Replay.{at_line, by_line, cut_off, read_line, read_lines, replayed, taken_up}
use Rattle.journal.specs.declared.line.Fault.{Fault}
use Rattle.journal.specs.declared.replay.Broken.{Broken}
use Rattle.journal.specs.declared.replay.Replayed.{Replayed}
use Rattle.journal.proofs.Lists.{Lacks, Lacks-from_any}
use Rattle.journal.proofs.Pieces.{Lines, cut_off-text, lines_in, pieces, pieces-text, read_lines-append, replayed-text, text}

abbrev broken_at : ℕ → Fault → Result (Option Replayed) Broken
broken_at number e = Err (record { line = number; fault = e })

taken_up-some : (r : Result (Option Replayed) Broken) (j : Replayed) → taken_up r ≡ Ok j → r ≡ Ok (Some j)
taken_up-some (Err b) j e = cc
taken_up-some (Ok None) j e = cc
taken_up-some (Ok (Some k)) j e = cc

-- whatever lines follow
read_lines-broken : (j : Replayed) (ls : List (List ℕ)) (l : List ℕ) (ms : List (List ℕ)) (e : Fault) → read_lines ls ≡ Ok (Some j) → skipped l ≡ false → by_line (Some j) l ≡ Err e
    → read_lines (ls ++ l ∷ ms) ≡ broken_at (length ls + 1) e
read_lines-broken j ls l ms e so_far read bad =
    let rest = enumerate_from (length ls + 1) ms in
    let broken : read_line (Ok (Some j)) (length ls, l) ≡ broken_at (length ls + 1) e = cond-false _ _ _ read ∙ ap (at_line (length ls + 1)) bad in
    read_lines-append ls (l ∷ ms) ∙ ap (λ r. fold read_line (read_line r (length ls, l)) rest) so_far
    ∙ ap (λ r. fold read_line r rest) broken ∙ fold_stays read_line (broken_at (length ls + 1) e) (λ x. refl) rest

-- a text that ends with a newline
whole_text : (bs : List ℕ) (x : Lines bs) → cut_off bs ≡ 0 → bs ≡ text x.lines
whole_text bs x whole =
    let empty : length x.rest ≡ 0 = sym (cut_off-text x.lines x.rest x.none) ∙ sym (ap cut_off x.joined) ∙ whole in
    x.joined ∙ ap (λ cs. text x.lines ++ cs) (nil_from_length x.rest empty) ∙ append-nil (text x.lines)

text-line : (ls : List (List ℕ)) (l : List ℕ) (ms : List (List ℕ)) (bs : List ℕ) → text ls ++ (line l ++ (text ms ++ bs)) ≡ text (ls ++ l ∷ ms) ++ bs
text-line ls l ms bs = simp (flat_map-append, append_assoc)

pub names_the_first : NamesTheFirst
unfolding NamesTheFirst
names_the_first bs j l more e whole stood one bad =
    let x = lines_in bs in
    let y = lines_in more in
    let ls = x.lines in
    let before = whole_text bs x whole in
    let so_far : read_lines ls ≡ Ok (Some j) = taken_up-some (read_lines ls) j (sym (replayed-text ls x.rest x.each x.none) ∙ sym (ap replayed x.joined) ∙ stood) in
    let each : All (Lacks 10) (ls ++ l ∷ y.lines) = All-append (Lacks 10) ls (l ∷ y.lines) x.each (All-cons (Lacks 10) l y.lines (Lacks-from_any 10 l one.0) y.each) in
    let number : length ls + 1 ≡ length (pieces bs) = sym (ap (λ cs. length (pieces cs)) before ∙ ap length (pieces-text ls x.each) ∙ length_push ls []) in
    ap (λ cs. replayed (cs ++ (line l ++ more))) before ∙ ap (λ cs. replayed (text ls ++ (line l ++ cs))) y.joined ∙ ap replayed (text-line ls l y.lines y.rest)
    ∙ replayed-text (ls ++ l ∷ y.lines) y.rest each y.none
    ∙ ap taken_up (read_lines-broken j ls l y.lines e so_far one.1 bad ∙ ap (λ k. broken_at k e) number)
