-- What was written of a run leads back to where it stood.
use Rattle.std.proofs.Common.{arith, ◌≡◌, ℕ, ◌<◌, ◌^◌, Bool, true, not, ltb, List, [], ◌∷◌, ◌++◌, map, filter, All, Ok, ◌∙◌, sym, ap, refl}
use Rattle.std.specs.List.{list_all}
use Rattle.std.proofs.lemmas.Bool.{and_parts, ltb-true, not_from_false}
use Rattle.std.proofs.lemmas.List.{append-nil}
use Rattle.std.proofs.lemmas.List.Elements.{All-cons, All-nil, All-weaker, filter-append}
use Rattle.std.proofs.lemmas.List.Folds.{flat_map-map}
use Rattle.std.proofs.lemmas.List.Sums.{AllPass-from_list_all}
use Rattle.subset.specs.Parts.{rising, some_of}
use Rattle.bisect.specs.Engine.{Step}
use Rattle.bisect.specs.declared.verdict.Verdict.{Verdict}
use Rattle.session.specs.Session.{begun}
use Rattle.journal.specs.Line.{IsOneLine, exchange_line, exchange_read, heading, skipped}
use Rattle.journal.specs.Promise.{GoesOn, Tells, after, exchanges, journal_of, line, lines_of}
use Rattle.journal.specs.Replay.{whole_lines}
use Rattle.journal.proofs.Asks.{along, exchanges_some}
use Rattle.journal.proofs.LineBack.{exchange_back, heading_back}
use Rattle.journal.proofs.Lists.{Lacks, Lacks-from_any, filter_all}
use Rattle.journal.proofs.Pieces.{pieces, pieces-text, text, whole_lines-text}
use Rattle.journal.proofs.Own.{replayed_from, verdicts}

-- ---- a text of lines, and its lines
lines_of_text : (ls : List (List ℕ)) → All IsOneLine ls → lines_of (text ls) ≡ ls
lines_of_text ls ones =
    let kept : List ℕ → Bool = λ l. not (skipped l) in
    let each : All (Lacks 10) ls = All-weaker IsOneLine (Lacks 10) (λ l one. Lacks-from_any 10 l one.0) ls ones in
    let whole : whole_lines (text ls) ≡ text ls = ap whole_lines (sym (append-nil (text ls))) ∙ whole_lines-text ls [] (Lacks-from_any 10 [] refl) in
    ap (λ bs. filter kept (pieces bs)) whole ∙ ap (filter kept) (pieces-text ls each) ∙ filter-append kept ls ([] ∷ []) ∙ append-nil (filter kept ls)
    ∙ filter_all kept ls (All-weaker IsOneLine (λ l. kept l ≡ true) (λ l one. not_from_false (skipped l) one.1) ls ones)

-- ---- the lines of a run
abbrev written : List ℕ × Verdict → List ℕ
written e = exchange_line e.0 e.1

small_parts : (n : ℕ) (ks : List ℕ) → n < 2 ^ 64 → some_of n ks ≡ true → All (λ k. k < 2 ^ 64) ks
small_parts n ks small some =
    let below = AllPass-from_list_all (λ k. ltb k n) ks (and_parts (rising ks) (list_all (λ k. ltb k n) ks) some).1 in
    All-weaker (λ k. ltb k n ≡ true) (λ k. k < 2 ^ 64) (λ k low. omega (arith, ltb-true k n low)) ks below

all_back : (n : ℕ) → n < 2 ^ 64 → (es : List (List ℕ × Verdict)) → list_all (λ e. some_of n e.0) es ≡ true
    → (map (exchange_read n) (map written es) ≡ map Ok es) × All IsOneLine (map written es)
all_back n small [] some = (refl, All-nil IsOneLine)
all_back n small ((ks, v) ∷ es) some =
    let both = and_parts (some_of n ks) (list_all (λ e. some_of n e.0) es) some in
    let one = exchange_back n ks v both.0 (small_parts n ks small both.0) in
    let rest = all_back n small es both.1 in
    (λ i. one.0 i ∷ rest.0 i, All-cons IsOneLine (exchange_line ks v) (map written es) one.1 rest.1)

-- ---- told the verdicts that it asked for, a run is the same
exchanges_again : (s : Step) (vs : List Verdict) → exchanges s (verdicts (exchanges s vs)) ≡ exchanges s vs
unfolding exchanges
exchanges_again =
    along (λ s vs. exchanges s (verdicts (exchanges s vs)) ≡ exchanges s vs) (λ s. refl) (λ s v vs asked. rw asked refl) (λ s v vs ks asked rest. rw (asked, rest, asked))

after_again : (s : Step) (vs : List Verdict) → after s (verdicts (exchanges s vs)) ≡ after s vs
unfolding exchanges after
after_again =
    along (λ s vs. after s (verdicts (exchanges s vs)) ≡ after s vs) (λ s. refl) (λ s v vs asked. rw asked refl) (λ s v vs ks asked rest. rw (asked, rest, asked))

-- ---- so the journal tells it
told : (n : ℕ) (vs : List Verdict) → n < 2 ^ 64 → Tells (journal_of n (exchanges (begun n) vs)) (record { parts = n; session = after (begun n) vs })
told n vs small =
    let es = exchanges (begun n) vs in
    let first = heading_back n small in
    let rest = all_back n small es (exchanges_some n vs) in
    let ones = All-cons IsOneLine (heading n) (map written es) first.1 rest.1 in
    record {
      first = heading n;
      rest = map written es;
      lines = ap (λ bs. lines_of (line (heading n) ++ bs)) (sym (flat_map-map line written es)) ∙ lines_of_text (heading n ∷ map written es) ones;
      parts = first.0;
      recorded = es;
      read = rest.0;
      own = sym (exchanges_again (begun n) vs);
      stands = sym (after_again (begun n) vs);
    }

pub goes_on : GoesOn
unfolding GoesOn
goes_on n vs small = replayed_from _ _ (told n vs small)
