-- Only what the reducer asks itself is taken up, and all that tells just that.
use Rattle.std.proofs.Common.{◌≡◌, ℕ, ◌+◌, subst, Bool, true, false, cond, not, List, [], ◌∷◌, map, filter, fold, Some, None, Option, Ok, Err, Result, ◌∙◌, sym, ap, refl}
use Rattle.std.specs.Prelude.{nat_eq}
use Rattle.std.specs.Cmp.Lexicographic.{pointwise, bytes_decides}
use Rattle.std.specs.List.{enumerate_from}
use Rattle.std.specs.Option.{ok_or, option_map_or}
use Rattle.std.specs.Result.{result_ok}
use Rattle.std.proofs.lemmas.List.Folds.{fold_stays}
use Rattle.bisect.specs.Engine.{Step}
use Rattle.bisect.specs.declared.verdict.Verdict.{Verdict}
use Rattle.session.specs.Session.{begun}
use Rattle.journal.specs.Line.{◌>>=◌, heading_in, exchange_read, skipped}
use Rattle.journal.specs.Promise.{OnlyItsOwn, Tells, after, exchanged, exchanges, lines_of, went}
use Rattle.journal.specs.Replay.{answered, at_line, awaited, awaits, begun_by, by_line, gone_on, read_line, replayed, taken_up, told_verdict, whole_lines}
use Rattle.journal.specs.declared.line.Fault.{Fault}
use Rattle.journal.specs.declared.line.Fault.TheVariants.{Foreign, Version}
use Rattle.journal.specs.declared.replay.Broken.{Broken}
use Rattle.journal.specs.declared.replay.Replayed.{Replayed}
use Rattle.journal.proofs.Pieces.{pieces}

-- the lines that aren't skipped
abbrev kept : List (List ℕ) → List (List ℕ)
kept ls = filter (λ l. not (skipped l)) ls

-- what comes of lines, counted from i
abbrev taken_from : Result (Option Replayed) Broken → ℕ → List (List ℕ) → Result Replayed Broken
taken_from x i ls = taken_up (fold read_line x (enumerate_from i ls))

-- and of those that aren't skipped, with no numbers
abbrev followed : Option Replayed → List (List ℕ) → Result Replayed Fault
followed o [] = ok_or o Version
followed o (l ∷ ls) = by_line o l >>= (λ j. followed (Some j) ls)

result_ok-kept : (o : Option Replayed) (i : ℕ) (ls : List (List ℕ)) → result_ok (taken_from (Ok o) i ls) ≡ result_ok (followed o (kept ls))
result_ok-kept None i [] = refl
result_ok-kept (Some j) i [] = refl
result_ok-kept o i (l ∷ ls) = by (skipped l) (λ p. result_ok-kept p (i + 1) ls)
  where
    Rest : Type 0
    Rest = (p : Option Replayed) → result_ok (taken_from (Ok p) (i + 1) ls) ≡ result_ok (followed p (kept ls))

    gone : (x : Result Replayed Fault) → Rest → result_ok (taken_from (at_line (i + 1) x) (i + 1) ls) ≡ result_ok (x >>= (λ j. followed (Some j) (kept ls)))
    gone (Err e) rest = ap (λ y. result_ok (taken_up y)) (fold_stays read_line (at_line (i + 1) (Err e)) (λ x. refl) (enumerate_from (i + 1) ls))
    gone (Ok j) rest = rest (Some j)

    by : (b : Bool) → Rest → result_ok (taken_from (cond b (Ok o) (at_line (i + 1) (by_line o l))) (i + 1) ls) ≡ result_ok (followed o (cond (not b) (l ∷ kept ls) (kept ls)))
    by true rest = rest o
    by false rest = gone (by_line o l) rest

from_result_ok : {E : Type 0} (x : Result Replayed E) (j : Replayed) → result_ok x ≡ Some j → x ≡ Ok j
from_result_ok (Ok k) j e = cc
from_result_ok (Err b) j e = absurd (cc)

-- ---- lines that tell just what is asked
abbrev pub verdicts : List (List ℕ × Verdict) → List Verdict
verdicts es = map (λ e. e.1) es

abbrev run : ℕ → Step → Replayed
run n s = record { parts = n; session = s }

record Goes (n : ℕ) (s : Step) (ls : List (List ℕ)) (j : Replayed) : Type 0 where
  recorded : List (List ℕ × Verdict)
  read : map (exchange_read n) ls ≡ map Ok recorded
  own : recorded ≡ exchanges s (verdicts recorded)
  stands : j ≡ run n (after s (verdicts recorded))

awaited_from : (o : Option (List ℕ)) (ks : List ℕ) → option_map_or (λ js. pointwise nat_eq js ks) o false ≡ true → o ≡ Some ks
awaited_from None ks e = absurd (cc)
awaited_from (Some js) ks e = ap (λ l. Some l) ((bytes_decides js ks).0 e)

goes_from : (n : ℕ) (s : Step) (ls : List (List ℕ)) (j : Replayed) → followed (Some (run n s)) ls ≡ Ok j → Goes n s ls j
unfolding exchanges after
goes_from n s [] j e = record { recorded = []; read = refl; own = refl; stands = cc }
goes_from n s (l ∷ ls) j e = by (exchange_read n l) refl e (λ v. goes_from n (told_verdict s v) ls j)
  where
    by : (x : Result (List ℕ × Verdict) Fault) → exchange_read n l ≡ x → (gone_on n (answered s x) >>= (λ k. followed (Some k) ls)) ≡ Ok j
        → ((v : Verdict) → followed (Some (run n (told_verdict s v))) ls ≡ Ok j → Goes n (told_verdict s v) ls j) → Goes n s (l ∷ ls) j
    by (Err f) said e rest = absurd (cc)
    by (Ok (ks, v)) said e rest = asked_so (awaits s ks) refl e
      where
        asked_so : (b : Bool) → awaits s ks ≡ b → (gone_on n (cond b (Ok (told_verdict s v)) (Err Foreign)) >>= (λ k. followed (Some k) ls)) ≡ Ok j → Goes n s (l ∷ ls) j
        asked_so false own e = absurd (cc)
        asked_so true own e =
            let asked = awaited_from (awaited s) ks own in
            let x = rest v e in
            record { recorded = (ks, v) ∷ x.recorded; read = λ i. said i ∷ x.read i; own = rw asked (ap (λ es. (ks, v) ∷ es) x.own); stands = rw asked x.stands }

followed_from : (n : ℕ) (s : Step) (ls : List (List ℕ)) (es : List (List ℕ × Verdict)) → map (exchange_read n) ls ≡ map Ok es → es ≡ exchanges s (verdicts es)
    → followed (Some (run n s)) ls ≡ Ok (run n (after s (verdicts es)))
unfolding exchanges after
followed_from n s [] [] read own = refl
followed_from n s [] (e ∷ es) read own = absurd (cc)
followed_from n s (l ∷ ls) [] read own = absurd (cc)
followed_from n s (l ∷ ls) ((ks, v) ∷ es) read own = by (awaited s) refl own (cc) (cc) (followed_from n (told_verdict s v) ls es)
  where
    by : (o : Option (List ℕ)) → awaited s ≡ o → (ks, v) ∷ es ≡ exchanged o v (exchanges (told_verdict s v) (verdicts es)) → exchange_read n l ≡ Ok (ks, v) → map (exchange_read n) ls ≡ map Ok es
        → (map (exchange_read n) ls ≡ map Ok es → es ≡ exchanges (told_verdict s v) (verdicts es) → followed (Some (run n (told_verdict s v))) ls ≡ Ok (run n (after (told_verdict s v) (verdicts es))))
        → followed (Some (run n s)) (l ∷ ls) ≡ Ok (run n (went o s (after (told_verdict s v) (verdicts es))))
    by None asked own said read rest = absurd (cc)
    by (Some js) asked own said read rest =
        let one : ◌≡◌ {A = List ℕ × Verdict} (ks, v) (js, v) = cc own in
        rw (said, asked, (bytes_decides js ks).1 (sym (ap (λ p. p.0) one))) (rest read (cc))

-- ---- before them the heading
tells : (bs : List ℕ) (j : Replayed) (ls : List (List ℕ)) → lines_of bs ≡ ls → followed None ls ≡ Ok j → Tells bs j
tells bs j [] lines e = absurd (cc)
tells bs j (l ∷ ls) lines e = by (heading_in l) refl e
  where
    by : (x : Result ℕ Fault) → heading_in l ≡ x → (begun_by x >>= (λ k. followed (Some k) ls)) ≡ Ok j → Tells bs j
    by (Err f) parts e = absurd (cc)
    by (Ok n) parts e =
        let g = goes_from n (begun n) ls j e in
        subst (Tells bs) (sym g.stands) (record { first = l; rest = ls; lines = lines; parts = parts; recorded = g.recorded; read = g.read; own = g.own; stands = refl })

pub replayed_from : (bs : List ℕ) (j : Replayed) → Tells bs j → replayed bs ≡ Ok j
replayed_from bs j t =
    let taken : followed None (lines_of bs) ≡ Ok j =
    ap (followed None) t.lines ∙ ap (λ x. begun_by x >>= (λ k. followed (Some k) t.rest)) t.parts
    ∙ followed_from j.parts (begun j.parts) t.rest t.recorded t.read t.own ∙ ap (λ s. Ok (run j.parts s)) (sym t.stands) in
    from_result_ok (replayed bs) j (result_ok-kept None 0 (pieces (whole_lines bs)) ∙ ap result_ok taken)

pub only_its_own : OnlyItsOwn
unfolding OnlyItsOwn
only_its_own bs j = (
  (λ e. tells bs j (lines_of bs) refl (from_result_ok (followed None (lines_of bs)) j (sym (result_ok-kept None 0 (pieces (whole_lines bs))) ∙ ap result_ok e))),
  replayed_from bs j,
)
