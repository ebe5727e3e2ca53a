-- Where a run stands while it goes on: with what is still to come it makes up the whole run, which keeps the promises.
use Rattle.std.proofs.Common.{◌≡◌, ℕ, zero, suc, ◌+◌, ◌*◌, ◌<◌, ◌≤◌, Bool, true, false, cond, eqb, leb, List, [], ◌∷◌, length, take, Some, None, Option, Ok, Err, Result, refl, ap, ◌∙◌, inl, inr, mul-le-mul, arith, MatchResult}
use Rattle.std.specs.List.{list_all}
use Rattle.std.proofs.lemmas.Bool.{both_ways, and_from, and_parts, eqb-true, leb-true, eq-eqb, le-leb, lt-leb, cases_lt, cases_Bool, cond_both}
use Rattle.subset.specs.Parts.{all_parts, some_of}
use Rattle.bisect.specs.Judge.{Judge, fails, Monotone}
use Rattle.bisect.specs.Engine.{Event, parts, said, Act, ask, left, sound, refused, Ran, ran, told_refused, strayed, acted, runs, run_of, Steady}
use Rattle.bisect.specs.Machine.{asking}
use Rattle.bisect.specs.Promise.{Demands, LeanLeast}
use Rattle.bisect.proofs.Demand.{square}
use Rattle.bisect.proofs.Least.{lean_least}
use Rattle.reduce.specs.State.{State, idle, first, seek, try, over, calm, many, begin, act_of, act_by}
use Rattle.reduce.specs.Own.{stored, fault, doing, goes, own}
use Rattle.reduce.specs.Entry.{ActTold, Heard, Reacts, fits}
use Rattle.reduce.specs.declared.Event.TheVariants.{Parts, Said}
use Rattle.reduce.specs.declared.Refusal.{Refusal}
use Rattle.reduce.specs.declared.Refusal.TheVariants.{Unawaited}
use Rattle.reduce.specs.declared.Told.{Told}
use Rattle.reduce.specs.declared.Told.TheVariants.{Ask, Rest, Sound, TooMany}
use Rattle.reduce.proofs.Stored.{step_said}
use Rattle.reduce.proofs.Steady.{steady}
use Rattle.reduce.proofs.Reduces.{sharp}
use Rattle.judges.specs.Kept.{Kept}
use Rattle.judges.specs.Driver.{most, Ends}
use Rattle.judges.specs.declared.driver.Ended.{Ended}
use Rattle.judges.specs.declared.driver.RunError.{RunError}
use Rattle.judges.specs.declared.driver.RunError.TheVariants as error
use Rattle.judges.specs.Whole.{Tells, ended_as, run_told}
use Rattle.judges.proofs.Shown.{shown}

-- ---- what each subset that is asked keeps holds of all that was asked
module _ (n : ℕ) (f : Judge) (P : List (List ℕ) → Type 0) (more : (q : List ℕ) (qs : List (List ℕ)) → some_of n q ≡ true → P qs → P (q ∷ qs)) where
  acted_keeps : (qs : List (List ℕ)) (go : ℕ → List (List ℕ) → Ran) (a : Act) → ((v : ℕ) (qs₁ : List (List ℕ)) → P qs₁ → P (go v qs₁).asked) → P qs
      → P (acted n f qs go a).asked
  unfolding acted
  acted_keeps qs go (ask q) h p =
      cond_both (some_of n q) (go (f q) (q ∷ qs)) (ran qs strayed []) (λ R. P R.asked) (λ e. h (f q) (q ∷ qs) (more q qs e p)) (λ e. p)
  acted_keeps qs go (left ks) h p = p
  acted_keeps qs go sound h p = p
  acted_keeps qs go refused h p = p

  runs_keep : (k : ℕ) (m : List ℕ) (ev : Event) (qs : List (List ℕ)) → P qs → P (runs k n own f m ev qs).asked
  unfolding runs
  runs_keep zero m ev qs p = p
  runs_keep (suc k) m ev qs p = acted_keeps qs _ (own.step m ev).act (λ v qs₁. runs_keep k (own.step m ev).memory (said v) qs₁) p

-- ---- the whole run keeps the promises
there : (n : ℕ) (f : Judge) (k : ℕ) → list_all (some_of n) (run_of k n own f).asked ≡ true
there n f k = runs_keep n f (λ qs. list_all (some_of n) qs ≡ true) (λ q qs. and_from (some_of n q) (list_all (some_of n) qs)) k own.start (parts n) [] refl

pub whole_run : (n : ℕ) (f : Judge) → (k : ℕ) × Kept (Monotone f n) n f (run_of k n own f) × (length (run_of k n own f).asked ≤ most)
unfolding Demands LeanLeast
whole_run n f =
    elim (cases_lt 4096 n) [
      | inl l ↦
          let (k, e) = (sharp.1 n f).0 l in (
            k,
            record { many = λ _. e; sound = λ h. absurd (omega arith); left = λ h. absurd (omega arith); there = there n f k },
            omega (arith, ap (λ (R : Ran). length R.asked) e),
          )
      | inr l ↦ elim (cases_Bool (fails f (all_parts n))) [
        | inl d ↦
            let (k, w, c) = (sharp.1 n f).2 l d in
            let small : n * n ≤ 4096 * 4096 = mul-le-mul l l in (
              k,
              record {
                many = λ h. absurd (omega arith);
                sound = λ _ b. absurd (both_ways _ b d);
                left = λ _ _. record { lessened = w; bounded = omega (arith, c.0, square n); few = λ x. (c.1 x, lean_least n f _ x w.some w.slim) };
                there = there n f k;
              },
              omega (arith, c.0, small),
            )
        | inr d ↦
            let (k, e) = (sharp.1 n f).1 l d in (
              k,
              record { many = λ h. absurd (omega arith); sound = λ _ _. e; left = λ _ b. absurd (both_ways _ d b); there = there n f k },
              omega (arith, ap (λ (R : Ran). length R.asked) e),
            )
      ]
    ]

-- so it told something, refused only before any question, and asked few
record Closed (R : Ran) : Type 0 where
  told : R.end ≤ 2
  refused : R.end ≡ 2 → length R.asked ≡ 0
  few : length R.asked ≤ most

closed_by : (n : ℕ) (f : Judge) (R : Ran) → Kept (Monotone f n) n f R → length R.asked ≤ most → Closed R
closed_by n f R w few =
    elim (cases_lt 4096 n) [
      | inl l ↦ let e = w.many l in record { told = rw e (omega arith); refused = λ z. rw e refl; few = few }
      | inr l ↦ elim (cases_Bool (fails f (all_parts n))) [
        | inl d ↦
            let v = w.left l d in
            record { told = omega (arith, v.lessened.done); refused = λ z. absurd (omega (arith, v.lessened.done)); few = few }
        | inr d ↦ let e = w.sound l d in record { told = rw e (omega arith); refused = λ z. absurd (let b = rw e at z in omega (arith, b)); few = few }
      ]
    ]

-- ---- a step leaves a memory as long as it was
step_long : (m : List ℕ) (ev : Event) → length m ≡ 72 → length (own.step m ev).memory ≡ 72
unfolding Steady
step_long m ev h = (steady.2 m ev).0 ∙ h

-- and one that asks nothing a memory that awaits no answer
stored_idle : (n : ℕ) (ks : List ℕ) (s : State) → asking (act_of s) ≡ false → fault (stored n ks s) ≡ Some Unawaited
unfolding stored act_by fault
stored_idle n ks idle h = refl
stored_idle n ks (first js) h = absurd (both_ways _ h refl)
stored_idle n ks (seek p) h = absurd (both_ways _ h refl)
stored_idle n ks (try i js) h = absurd (both_ways _ h refl)
stored_idle n ks (over js) h = refl
stored_idle n ks calm h = refl
stored_idle n ks many h = refl

step_idle : (m : List ℕ) (v : ℕ) → length m ≡ 72 → fault m ≡ None → asking (own.step m (said v)).act ≡ false → fault (own.step m (said v)).memory ≡ Some Unawaited
step_idle m v h z = rw (step_said m v h z) (stored_idle _ _ _)

-- an answer that is not awaited is refused
step_refuses : (m : List ℕ) (v : ℕ) (e : Refusal) → length m ≡ 72 → fault m ≡ Some e → own.step m (said v) ≡ doing m refused
unfolding own goes
step_refuses m v e h z = rw (h, z)

-- told how many parts there are, it begins the same from any memory
begins_same : (n : ℕ) (f : Judge) (m : List ℕ) (k : ℕ) → length m ≡ 72 → run_of (suc k) n own f ≡ runs (suc k) n own f m (parts n) []
unfolding runs acted own goes begin stored act_by
begins_same n f m k h =
    elim (cases_lt 4096 n) [ inl l ↦ rw (eq-eqb (length m) 72 h, lt-leb n 4096 l) | inr l ↦ rw (eq-eqb (length m) 72 h, le-leb n 4096 l) ]

begins_idle : (m : List ℕ) (n : ℕ) → length m ≡ 72 → asking (own.step m (parts n)).act ≡ false → fault (own.step m (parts n)).memory ≡ Some Unawaited
unfolding own goes
begins_idle m n h = rw (eq-eqb (length m) 72 h) (stored_idle _ _ _)

-- and too many leave the row as it was
many_row : (n : ℕ) (m : List ℕ) (r : Told) (out out₁ : List ℕ) → length m ≡ 72 → ActTold (own.step m (parts n)).act r out out₁ → 4096 < n → out₁ ≡ out
unfolding ActTold own goes begin act_by
many_row n m r out out₁ h t l = (rw (eq-eqb (length m) 72 h, lt-leb n 4096 l) at t).1

-- what was told last, after so many questions, as the end of a run
abbrev pub end_of : Told → (asked : ℕ) → Result Ended RunError
end_of (Ask k) asked = Err error.Unfit
end_of (Rest k) asked = Ok (record { left = Some k; asked = asked })
end_of Sound asked = Ok (record { left = None; asked = asked })
end_of TooMany asked = Err error.TooMany

-- ---- the stages of a run
module _ (n : ℕ) (f : Judge) where
  abbrev whole : Ran
  whole = run_of (whole_run n f).0 n own f

  closed : Closed whole
  closed = closed_by n f whole (whole_run n f).1 (whole_run n f).2

  -- after these questions, the last first, it asks of the row's first so many, and with the acts that are still to come, of which there is one at least,
  -- it makes up the whole run
  pub record Asks (count : ℕ) (questions : List (List ℕ)) (m out : List ℕ) : Type 0 where
    pub acts : ℕ
    pub on : whole ≡ runs (suc acts) n own f m (said (f (take count out))) (take count out ∷ questions)
    pub long : length m ≡ 72
    pub room : count ≤ length out

  -- after these questions it has ended, and told just how the whole run went
  pub record Over (told : Told) (questions : List (List ℕ)) (m out : List ℕ) : Type 0 where
    pub none : (count : ℕ) → told ≡ Ask count → ⊥
    pub on : whole ≡ run_told told questions out
    pub tells : end_of told (length questions) ≡ ended_as whole
    pub row : take (length whole.rest) out ≡ whole.rest
    pub idle : fault m ≡ Some Unawaited

  -- after an act it asks, or it has ended
  pub data Stage (told : Told) (questions : List (List ℕ)) (m out : List ℕ) : Type 0 where
    asks : (count : ℕ) → told ≡ Ask count → Asks count questions m out → Stage told questions m out
    ended : Over told questions m out → Stage told questions m out

  -- so an act leads to a stage, since the whole run neither strays nor stops while it asks
  stage : (k : ℕ) (qs : List (List ℕ)) (a : Act) (before : List ℕ) (told : Told) (m out : List ℕ)
      → whole ≡ acted n f qs (λ v qs₁. runs k n own f m (said v) qs₁) a → ActTold a told before out → length m ≡ 72
      → (asking a ≡ false → fault m ≡ Some Unawaited) → Stage told qs m out
  unfolding acted ActTold runs
  stage k qs (ask q) before told m out e (t, u) h i =
      let (row, room) = shown q before out u in
      let (j, on) = go k (some_of n q) e in
      asks (length q) t (record { acts = j; on = rw row on; long = h; room = room })
    where
      go : (k : ℕ) (b : Bool) → whole ≡ cond b (runs k n own f m (said (f q)) (q ∷ qs)) (ran qs strayed [])
          → (j : ℕ) × (whole ≡ runs (suc j) n own f m (said (f q)) (q ∷ qs))
      go (suc k) true e = (k, e)
      go zero true e = absurd (omega (arith, closed.told, ap (λ (R : Ran). R.end) e))
      go k false e = absurd (omega (arith, closed.told, ap (λ (R : Ran). R.end) e))
  stage k qs (left ks) before told m out e (t, u) h i =
      let row = (shown ks before out u).0 in
      ended (record {
        none = λ j z. absurd (let y : ◌≡◌ {A = ℕ} 0 1 = cc in omega arith);
        on = rw (t, row) e;
        tells = rw (e, t);
        row = rw e row;
        idle = i refl;
      })
  stage k qs sound before told m out e (t, u) h i =
      ended (record { none = λ j z. absurd (let y : ◌≡◌ {A = ℕ} 0 1 = cc in omega arith); on = rw t e; tells = rw (e, t); row = rw e; idle = i refl })
  stage k qs refused before told m out e (t, u) h i =
      ended (record { none = λ j z. absurd (let y : ◌≡◌ {A = ℕ} 0 1 = cc in omega arith); on = rw t e; tells = rw (e, t); row = rw e; idle = i refl })

  -- told how many parts there are
  pub begun : (m : List ℕ) (r : Told) (out out₁ : List ℕ) → length m ≡ 72 → ActTold (own.step m (parts n)).act r out out₁
      → Stage r [] (own.step m (parts n)).memory out₁
  unfolding runs acted
  begun m r out out₁ h t = go (whole_run n f).0 refl
    where
      go : (k : ℕ) → (whole_run n f).0 ≡ k → Stage r [] (own.step m (parts n)).memory out₁
      go zero e = absurd (omega (arith, closed.told, ap (λ (k : ℕ). (run_of k n own f).end) e))
      go (suc k) e =
          let on : whole ≡ runs (suc k) n own f m (parts n) [] = ap (λ (k : ℕ). run_of k n own f) e ∙ begins_same n f m k h in
          stage k [] _ out r _ out₁ on t (step_long m (parts n) h) (begins_idle m n h)

  asks_more : (count : ℕ) (qs : List (List ℕ)) (m out : List ℕ) → Asks count qs m out → length qs < length whole.asked
  asks_more count qs m out a =
      let now = take count out ∷ qs in
      let all = runs_keep n f (λ xs. length now ≤ length xs) (λ x xs e p. omega arith) (suc a.acts) m (said (f (take count out))) now (omega arith) in
      omega (arith, ap (λ (R : Ran). length R.asked) a.on)

  -- told the answer, of which nothing is refused
  pub turn : (count : ℕ) (qs : List (List ℕ)) (m before : List ℕ) (v : ℕ) (out : List ℕ) (r : Result Told Refusal) (m₁ out₁ : List ℕ) → Asks count qs m before
      → v ≡ f (take count before) → fits m out ≡ true → Reacts (fits m out) m (Said v) out r m₁ out₁
      → (t : Told) × (r ≡ Ok t) × Stage t (take count before ∷ qs) m₁ out₁
  unfolding runs acted
  turn count qs m before v out r m₁ out₁ a e ready s = go (fault m) refl r (rw (e, ready) at s)
    where
      go : (z : Option Refusal) → fault m ≡ z → (r : Result Told Refusal) → Heard z m (Said (f (take count before))) out r m₁ out₁
          → (t : Told) × (r ≡ Ok t) × Stage t (take count before ∷ qs) m₁ out₁
      go None z (Ok t) (d, x) = (t, refl, rw d (stage a.acts (take count before ∷ qs) _ out t _ out₁ a.on x (step_long m _ a.long) (step_idle m _ a.long z)))
      go None z (Err x) y = absurd y
      -- after a question its answer is awaited
      go (Some x) z r y =
          let on : whole ≡ ran (take count before ∷ qs) told_refused [] = rw (step_refuses m (f (take count before)) x a.long z) at a.on in
          absurd (omega (arith, closed.refused (ap (λ (R : Ran). R.end) on), ap (λ (R : Ran). length R.asked) on))

-- ---- the turns of the loop, where memory and row fit, from row o
pub record Goes (n : ℕ) (f : Judge) (o : List ℕ) (told : Told) (asked : ℕ) (m out : List ℕ) : Type 0 where
  pub questions : List (List ℕ)
  pub count : asked ≡ length questions
  pub many : 4096 < n → out ≡ o
  pub stage : Stage n f told questions m out

fitting : (m out : List ℕ) → fits m out ≡ true → (length m ≡ 72) × (4096 ≤ length out)
fitting m out e = let (a, b) = and_parts (eqb (length m) 72) (leb 4096 (length out)) e in (eqb-true _ _ a, leb-true _ _ b)

module _ (n : ℕ) (f : Judge) where
  pub goes_begins : (m out : List ℕ) (r : Result Told Refusal) (t : Told) (m₁ out₁ : List ℕ) → r ≡ Ok t → Reacts (fits m out) m (Parts n) out r m₁ out₁
      → (fits m out ≡ true) × Goes n f out t 0 m₁ out₁
  goes_begins m out r t m₁ out₁ is s = go (fits m out) refl (rw is at s)
    where
      go : (b : Bool) → fits m out ≡ b → Reacts b m (Parts n) out (Ok t) m₁ out₁ → (b ≡ true) × Goes n f out t 0 m₁ out₁
      go true e (d, x) =
          let long = (fitting m out e).0 in
          (refl, record { questions = []; count = refl; many = many_row n m t out out₁ long x; stage = rw d (begun n f m t out out₁ long x) })
      go false e (y, _, _) = absurd (let z : ◌≡◌ {A = ℕ} 0 1 = cc in omega arith)

  goes_on : (o : List ℕ) (told : Told) (count asked : ℕ) (m out : List ℕ) → told ≡ Ask count → (s : Goes n f o told asked m out) → Asks n f count s.questions m out
  goes_on o told count asked m out e s = go s.stage
    where
      go : Stage n f told s.questions m out → Asks n f count s.questions m out
      go (asks k t a) = let same : k ≡ count = cc in rw same at a
      go (ended w) = absurd (w.none count e)

  -- what it asks of stands in the row, and more may be asked
  pub goes_asks : (o : List ℕ) (told : Told) (count asked : ℕ) (m out : List ℕ) → told ≡ Ask count → Goes n f o told asked m out
      → (count ≤ length out) × (asked < most)
  goes_asks o told count asked m out e s =
      let a = goes_on o told count asked m out e s in (a.room, omega (arith, s.count, asks_more n f count s.questions m out a, (whole_run n f).2))

  -- an answer is never refused, and leads to the next turn
  pub goes_turn : (h : Judge) (m₀ o : List ℕ) (told : Told) (count asked : ℕ) (m out : List ℕ) (v : ℕ) (r : Result Told Refusal) (m₁ out₁ : List ℕ)
      → h ≡ f → fits m₀ o ≡ true → length out ≡ length o → told ≡ Ask count → v ≡ h (take count out)
      → Goes n f o told asked m out → Reacts (fits m out) m (Said v) out r m₁ out₁ → MatchResult r (λ t. Goes n f o t (asked + 1) m₁ out₁) (λ _. ⊥)
  goes_turn h m₀ o told count asked m out v r m₁ out₁ same w b e is s x =
      let a = goes_on o told count asked m out e s in
      let wide = (fitting m₀ o w).1 in
      let ready : fits m out ≡ true = and_from _ _ (eq-eqb _ _ a.long) (le-leb _ _ (omega arith)) in
      let (t, heard, next) = turn n f count s.questions m out v out r m₁ out₁ a (is ∙ ap (λ j. j (take count out)) same) ready x in
      let more : Goes n f o t (asked + 1) m₁ out₁ = record {
        questions = take count out ∷ s.questions;
        count = omega (arith, s.count);
        many = λ l. absurd (omega (arith, asks_more n f count s.questions m out a, ap (λ (R : Ran). length R.asked) ((whole_run n f).1.many l)));
        stage = next;
      } in
      rw heard more

  -- what is told of the whole run says how it ended
  pub tells_ends : (out : List ℕ) (r : Result Ended RunError) (m₁ out₁ : List ℕ) → Tells n f out r m₁ out₁ → Ends n f out r m₁ out₁
  tells_ends out r m₁ out₁ v = record {
    many = λ l. v.told ∙ ap ended_as (v.kept.many l);
    sound = λ l b. v.told ∙ ap ended_as (v.kept.sound l b);
    left = λ l b.
        let w = v.kept.left l b in
        record { run = run_of v.acts n own f; told = v.told ∙ rw w.lessened.done; row = v.row; keeps = w };
    rests = v.rests;
  }
