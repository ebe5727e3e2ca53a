-- A dialogue with the reducer goes through the stages of its run, so one that ended keeps the promises.
use Rattle.std.proofs.Common.{◌≡◌, ℕ, ◌≤◌, Bool, true, false, List, [], ◌∷◌, map, reverse, length, take, Ok, Err, Result, sym, refl, ap, ◌∙◌, arith}
use mathlib.Core.List.{reverse_aux}
use Rattle.std.proofs.lemmas.Bool.{and_from, eq-eqb, le-leb}
use Rattle.bisect.specs.Judge.{Judge}
use Rattle.bisect.specs.Engine.{parts}
use Rattle.reduce.specs.Own.{own}
use Rattle.reduce.specs.Entry.{Answers, Reacts, fits}
use Rattle.reduce.specs.declared.Event.{Event}
use Rattle.reduce.specs.declared.Event.TheVariants.{Parts, Said}
use Rattle.reduce.specs.declared.Refusal.{Refusal}
use Rattle.reduce.specs.declared.Refusal.TheVariants.{Unfit}
use Rattle.reduce.specs.declared.Told.{Told}
use Rattle.reduce.specs.declared.Told.TheVariants.{Ask, Rest, Sound, TooMany}
use Rattle.inspect.specs.Inspector.{question_of, recorded}
use Rattle.inspect.specs.Recorder.{Steps, Does, end_by, Dialogue, ReducerKept}
use Rattle.inspect.specs.declared.recorder.Machine.{Machine}
use Rattle.judges.specs.Whole.{run_told}
use Rattle.judges.proofs.Stages.{whole_run, Stage, asks, ended, begun, turn}

-- memory and row fitted: if they had not, the row would be as it was, and it is wide
ready : (m : List ℕ) (ev : Event) (out : List ℕ) (r : Result Told Refusal) (m₁ row : List ℕ) → length m ≡ 72 → (r ≡ Err Unfit → 4096 ≤ length row)
    → Reacts (fits m out) m ev out r m₁ row → fits m out ≡ true
ready m ev out r m₁ row h wide s = go (fits m out) refl s
  where
    go : (b : Bool) → fits m out ≡ b → Reacts b m ev out r m₁ row → fits m out ≡ true
    go true e s = e
    go false e (p, q, w) = and_from _ _ (eq-eqb _ _ h) (le-leb _ _ (omega (arith, wide p, ap length w)))

module _ (n : ℕ) (f : Judge) (m : List ℕ) (long : length m ≡ 72) where
  starts : (t : List ℕ) (r : Result Told Refusal) (out row : List ℕ) → Answers (own.step m (parts n)) r t out row → (told : Told) × (r ≡ Ok told) × Stage n f told [] t row
  starts t (Ok told) out row (d, x) = (told, refl, rw d (begun n f m told out row long x))
  starts t (Err e) out row y = absurd y

  -- each exchange is a turn; only what was told last may be that nothing fitted, since the others asked
  reaches : (es : List (List ℕ)) (t : List ℕ) (r : Result Told Refusal) (row : List ℕ) → (r ≡ Err Unfit → 4096 ≤ length row)
      → Dialogue Steps f (Steps m (Parts n)) es t r row → (told : Told) × (r ≡ Ok told) × Stage n f told (map question_of es) t row
  unfolding Dialogue
  reaches [] t r row wide (out, s) =
      go (fits m out) (ready m (Parts n) out r t row long wide s) s
    where
      go : (b : Bool) → b ≡ true → Reacts b m (Parts n) out r t row → (told : Told) × (r ≡ Ok told) × Stage n f told [] t row
      go true h s = starts t r out row s
      go false h s = absurd cc
  reaches (e ∷ es) t r row wide (u, before, d, q, v, (out, s)) =
      let (last, is, stage) = reaches es u _ before (λ z. absurd (let y : ◌≡◌ {A = ℕ} 0 1 = cc in omega arith)) d in
      elim stage [
        | asks k same a ↦
            let count : k ≡ length (question_of e) = cc in
            let asked : take k before ≡ question_of e = ap (λ j. take j before) count ∙ q in
            rw asked at (turn n f k _ u before _ out r t row a (v ∙ ap f (sym asked)) (ready u (Said _) out r t row a.long wide s) s)
        | ended w ↦ absurd (w.none (length (question_of e)) cc)
      ]

-- the questions, the other way round
map_turns : (es ds : List (List ℕ)) → map question_of (reverse_aux es ds) ≡ reverse_aux (map question_of es) (map question_of ds)
map_turns [] ds = refl
map_turns (e ∷ es) ds = map_turns es (e ∷ ds)

-- a transcript tells of the run as it was told
recorded_told : (es : List (List ℕ)) (t : Told) (row : List ℕ) → recorded es (end_by (Ok t) row) ≡ run_told t (reverse (map question_of es)) row
unfolding recorded
recorded_told es (Ask k) row = refl
recorded_told es (Rest k) row = refl
recorded_told es Sound row = refl
recorded_told es TooMany row = refl

-- with its memory is as without
along : (f : Judge) (n : ℕ) (m : Machine) (es : List (List ℕ)) (t : Machine) (r : Result Told Refusal) (row : List ℕ) → Dialogue Does f (Does m (Parts n)) es t r row
    → Dialogue Steps f (Steps m.memory (Parts n)) es t.memory r row
unfolding Dialogue
along f n m [] t r row d = d
along f n m (e ∷ es) t r row (u, before, d, q, v, s) = (u.memory, before, along f n m es u _ before d, q, v, s)

pub reducer_kept : ReducerKept
unfolding ReducerKept
reducer_kept f n m exchanges t r row long wide d over =
    let (told, is, stage) = reaches n f m.memory long (reverse exchanges) t.memory r row (λ _. wide) (along f n m (reverse exchanges) t r row d) in
    elim stage [
      | asks k e a ↦ absurd (over k (is ∙ ap Ok e))
      | ended w ↦ rw (is, recorded_told exchanges told row, ← map_turns exchanges [], ← w.on) (whole_run n f).1
    ]
