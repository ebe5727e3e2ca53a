-- What was cut off counts as not written.
use Rattle.std.proofs.Common.{◌≡◌, ℕ, true, List, [], ◌∷◌, ◌++◌, ◌∙◌, sym, ap, refl}
use Rattle.std.proofs.lemmas.Grind.{flat_map-append}
use Rattle.std.proofs.lemmas.List.{append-nil, append_assoc, reverse-append}
use Rattle.std.proofs.lemmas.List.Elements.{All-append, All-push}
use Rattle.journal.specs.Line.{skipped}
use Rattle.journal.specs.Promise.{CutOffIsNothing}
use Rattle.journal.specs.Replay.{read_lines, replayed, taken_up, whole_lines}
use Rattle.journal.proofs.Lists.{Differs, Lacks, Lacks-from_any}
use Rattle.journal.proofs.Pieces.{lines_in, read_lines-skipped, replayed-text, text, whole_lines-text}

-- a blank and the sign
abbrev signed : List ℕ → List ℕ
signed bs = bs ++ (32 ∷ 35 ∷ [])

skipped-signed : (bs : List ℕ) → skipped (signed bs) ≡ true
skipped-signed bs = rw (reverse-append bs (32 ∷ 35 ∷ [])) refl

Lacks-signed : (bs : List ℕ) → Lacks 10 bs → Lacks 10 (signed bs)
Lacks-signed bs none = All-append (Differs 10) bs (32 ∷ 35 ∷ []) none (Lacks-from_any 10 (32 ∷ 35 ∷ []) refl)

text-signed : (ls : List (List ℕ)) (bs : List ℕ) → (text ls ++ bs) ++ (32 ∷ 35 ∷ 10 ∷ []) ≡ text (ls ++ (signed bs ∷ [])) ++ []
text-signed ls bs = simp (flat_map-append, append_assoc, append-nil)

pub cut_off_is_nothing : CutOffIsNothing
unfolding CutOffIsNothing
cut_off_is_nothing bs =
    let x = lines_in bs in
    let ls = x.lines in
    let l = signed x.rest in
    let none : Lacks 10 [] = Lacks-from_any 10 [] refl in
    let here : replayed bs ≡ taken_up (read_lines ls) = ap replayed x.joined ∙ replayed-text ls x.rest x.each x.none in (
      ap (λ cs. replayed (cs ++ (32 ∷ 35 ∷ 10 ∷ []))) x.joined ∙ ap replayed (text-signed ls x.rest)
          ∙ replayed-text (ls ++ (l ∷ [])) [] (All-push (Lacks 10) ls l x.each (Lacks-signed x.rest x.none)) none
          ∙ ap taken_up (read_lines-skipped ls l (skipped-signed x.rest)) ∙ sym here,
      ap replayed (ap whole_lines x.joined ∙ whole_lines-text ls x.rest x.none ∙ sym (append-nil (text ls))) ∙ replayed-text ls [] x.each none ∙ sym here,
    )
