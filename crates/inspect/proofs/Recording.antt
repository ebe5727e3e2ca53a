-- What a recording rests on.
use Rattle.std.proofs.Common.{◌≡◌, ℕ, suc, ◌+◌, ◌-◌, ◌<◌, ◌≤◌, Bool, true, false, List, [], ◌∷◌, ◌++◌, reverse, length, take, drop, Some, None, Option, Ok, Err, Result, sym, refl, ap, ◌∙◌, subst, inl, inr, append_assoc, append-nil, arith, length-append, take_at}
use borrow.Rule.Slice.PartMut.{put_mid}
use Rattle.std.proofs.lemmas.List.{take_all, drop_all, drop-drop, length-take-le, length-drop, reverse-append, take-append-drop}
use Rattle.subset.specs.Says.{laid}
use Rattle.bisect.specs.Judge.{Judge}
use Rattle.bisect.specs.Engine.{Act, ask, left, sound, refused}
use Rattle.reduce.specs.Own.{own}
use Rattle.reduce.specs.Entry.{ActTold, Heard, Reacts, event_of, fault_of}
use Rattle.reduce.specs.declared.Event.{Event}
use Rattle.reduce.specs.declared.Event.TheVariants.{Parts, Said}
use Rattle.reduce.specs.declared.Refusal.{Refusal}
use Rattle.reduce.specs.declared.Refusal.TheVariants.{Unfit}
use Rattle.reduce.specs.declared.Told.{Told}
use Rattle.reduce.specs.declared.Told.TheVariants.{Ask, Rest, Sound, TooMany}
use Rattle.judges.specs.Spelled.{spelled}
use Rattle.inspect.specs.Recorder.{Roomy, WriteSays, Dialogue, Stopped, RecordSays}
use Rattle.judges.proofs.Shown.{shown}

-- ---- what a step tells of stands in the row
act_roomy : (a : Act) (t : Told) (out row : List ℕ) → ActTold a t out row → Roomy (Ok t) (length row)
unfolding ActTold
act_roomy (ask ks) r out row (e, t) = rw e (shown ks out row t).1
act_roomy (left ks) r out row (e, t) = rw e (shown ks out row t).1
act_roomy sound r out row (e, t) = rw e tt
act_roomy refused r out row (e, t) = rw e tt

refused_roomy : (e : Refusal) (r : Result Told Refusal) (row : List ℕ) → r ≡ Err e → Roomy r (length row)
refused_roomy e r row h = rw h tt

heard_roomy : (z : Option Refusal) (m : List ℕ) (ev : Event) (out : List ℕ) (r : Result Told Refusal) (m₁ row : List ℕ) → Heard z m ev out r m₁ row → Roomy r (length row)
heard_roomy None m ev out (Ok t) m₁ row (d, told) = act_roomy (own.step m (event_of ev)).act t out row told
heard_roomy None m ev out (Err e) m₁ row h = absurd h
heard_roomy (Some e) m ev out r m₁ row h = refused_roomy e r row h.0

pub react_roomy : (b : Bool) (m : List ℕ) (ev : Event) (out : List ℕ) (r : Result Told Refusal) (m₁ row : List ℕ) → Reacts b m ev out r m₁ row → Roomy r (length row)
react_roomy true m ev out r m₁ row h = heard_roomy (fault_of m ev) m ev out r m₁ row h
react_roomy false m ev out r m₁ row h = refused_roomy Unfit r row h.0

-- ---- an exchange written behind so many numbers of a row is laid there
module _ (row rest₁ : List ℕ) (i a : ℕ) (q : List ℕ) (low : i ≤ length row) where
  rest_is : take (length row - i) (drop i row) ≡ drop i row
  rest_is = take_all (length row - i) (drop i row) (omega (arith, length-drop i row))

  none_behind : drop (length row - i) (drop i row) ≡ []
  none_behind = drop_all (length row - i) (drop i row) (omega (arith, length-drop i row))

  pub written : (n : ℕ) → WriteSays (take (length row - i) (drop i row)) a q (Some n) rest₁
      → (i + n ≡ i + (2 + length q)) × (i + n ≤ length row) × (put_mid i (length row - i) row rest₁ ≡ laid row i (suc (length q) ∷ a ∷ q))
  written n (e, l, w) = (
    ap (λ k. i + k) e,
    omega (arith, l, ap length rest_is, length-drop i row),
    rw (none_behind, w, rest_is, append-nil (suc (length q) ∷ a ∷ (q ++ drop (2 + length q) (drop i row))), drop-drop (2 + length q) i row)
        (let two : 2 + length q ≡ suc (suc (length q)) = omega arith in rw two refl),
  )

  pub unwritten : WriteSays (take (length row - i) (drop i row)) a q None rest₁ → (put_mid i (length row - i) row rest₁ ≡ row) × (length row < i + (2 + length q))
  unwritten (w, l) = (
    rw (none_behind, w, rest_is, append-nil (drop i row)) (take-append-drop i row),
    omega (arith, l, ap length rest_is, length-drop i row),
  )

-- ---- a recording that goes on
laid_front : (row : List ℕ) (n end : ℕ) (ys : List ℕ) → n ≤ length row → end ≡ n + length ys → take end (laid row n ys) ≡ take n row ++ ys
laid_front row n end ys h e =
    ap (take end) (sym (append_assoc (take n row) ys (drop (n + length ys) row)))
    ∙ take_at (take n row ++ ys) (drop (n + length ys) row) end (length-append (take n row) ys ∙ ap (λ k. k + length ys) (length-take-le n row h) ∙ sym e)

spelled_push : (es : List (List ℕ)) (e : List ℕ) → spelled (es ++ e ∷ []) ≡ spelled es ++ (length e ∷ e)
unfolding spelled
spelled_push [] e = ap (λ (l : List ℕ). length e ∷ l) (append-nil e)
spelled_push (d ∷ es) e =
    ap (λ (l : List ℕ). length d ∷ (d ++ l)) (spelled_push es e) ∙ ap (λ (l : List ℕ). length d ∷ l) (sym (append_assoc d (spelled es) (length e ∷ e)))

module _ {S : Type 0} (does : S → Event → S → Result Told Refusal → List ℕ → Type 0) (f : Judge) where
  -- begun where one thing holds, it was begun where what follows from that does
  begun_so : (A B : S → Result Told Refusal → List ℕ → Type 0) (es : List (List ℕ)) (t : S) (r : Result Told Refusal) (row : List ℕ) → ((u : S) (q : Result Told Refusal) (out : List ℕ) → A u q out → B u q out)
      → Dialogue does f A es t r row → Dialogue does f B es t r row
  unfolding Dialogue
  begun_so A B [] t r row h d = h t r row d
  begun_so A B (e ∷ es) t r row h (u, before, d, q, a, m) = (u, before, begun_so A B es u _ before h d, q, a, m)

module _ {S : Type 0} (does : S → Event → S → Result Told Refusal → List ℕ → Type 0) (f : Judge) (s : S) (first : Result Told Refusal) (begun : List ℕ) where
  -- here, where the loop begins
  abbrev Here : S → Result Told Refusal → List ℕ → Type 0
  Here t r row = (t ≡ s) × (r ≡ first) × (row ≡ begun)

  pub record Going (asked used : ℕ) (t : S) (r : Result Told Refusal) (row out : List ℕ) : Type 0 where
    pub exchanges : List (List ℕ)
    pub dialogue : Dialogue does f Here (reverse exchanges) t r out
    pub spells : take used row ≡ spelled exchanges
    pub counted : length exchanges ≡ asked
    pub used_low : used ≤ length row
    pub roomy : Roomy r (length out)

  pub going_begins : (row : List ℕ) → Roomy first (length begun) → Going 0 0 s first row begun
  unfolding Dialogue spelled
  going_begins row h = record { exchanges = []; dialogue = (refl, refl, refl); spells = refl; counted = refl; used_low = omega arith; roomy = h }

  going_asks : (asked used k : ℕ) (t : S) (r : Result Told Refusal) (row out : List ℕ) → r ≡ Ok (Ask k) → Going asked used t r row out → Going asked used t (Ok (Ask k)) row out
  going_asks asked used k t r row out e g = subst (λ (x : Result Told Refusal). Going asked used t x row out) e g

  pub going_turn : (asked used v end : ℕ) (t u : S) (q : List ℕ) (was r : Result Told Refusal) (row row₁ out out₁ : List ℕ) → was ≡ Ok (Ask (length q)) → take (length q) out ≡ q
      → Going asked used t was row out → v ≡ f q → (end ≡ used + (2 + length q)) × (end ≤ length row) × (row₁ ≡ laid row used (suc (length q) ∷ v ∷ q)) → does t (Said v) u r out₁ → Roomy r (length out₁)
      → Going (asked + 1) end u r row₁ out₁
  unfolding Dialogue
  going_turn asked used v end t u q was r row row₁ out out₁ asks is on says (at, fit, put) d h =
      let g = going_asks asked used (length q) t was row out asks on in
      record {
        exchanges = g.exchanges ++ (v ∷ q) ∷ [];
        dialogue = subst (λ (es : List (List ℕ)). Dialogue does f Here es u r out₁) (sym (reverse-append g.exchanges ((v ∷ q) ∷ []))) (t, out, g.dialogue, is, says, d);
        spells = ap (take end) put ∙ laid_front row used end (suc (length q) ∷ v ∷ q) g.used_low (omega arith) ∙ ap (λ (l : List ℕ). l ++ (suc (length q) ∷ v ∷ q)) g.spells
            ∙ sym (spelled_push g.exchanges (v ∷ q));
        counted = length-append g.exchanges ((v ∷ q) ∷ []) ∙ ap (λ j. j + 1) g.counted;
        used_low =
            let e : List ℕ = suc (length q) ∷ v ∷ q in
            omega (arith, ap length put, length-append (take used row) (e ++ drop (used + length e) row), length-append e (drop (used + length e) row), length-take-le used row g.used_low);
        roomy = h;
      }

  -- where the exchange has no room
  pub going_full : (asked used v limit : ℕ) (t : S) (q : List ℕ) (r : Result Told Refusal) (row row₁ out : List ℕ) → r ≡ Ok (Ask (length q)) → Going asked used t r row out
      → (row₁ ≡ row) × (length row < used + (2 + length q)) → Going asked used t r row₁ out × Stopped r asked limit used (length row₁)
  going_full asked used v limit t q r row row₁ out asks on (same, full) = (subst (λ (x : List ℕ). Going asked used t r x out) (sym same) on, rw asks (inr (rw same full)))

  pub going_ends : (o : S) (n asked used limit : ℕ) (t : S) (r : Result Told Refusal) (row out : List ℕ) → does o (Parts n) s first begun → Going asked used t r row out → asked ≤ limit
      → Stopped r asked limit used (length row) → RecordSays does f o n limit r used t row out
  going_ends o n asked used limit t r row out d g few stop = record {
    exchanges = g.exchanges;
    dialogue = begun_so does f Here (does o (Parts n)) (reverse g.exchanges) t r out (λ u q x (i, j, k). here u q x i j k) g.dialogue;
    spells = g.spells;
    used_low = g.used_low;
    roomy = g.roomy;
    few = omega (arith, g.counted);
    stopped = subst (λ (k : ℕ). Stopped r k limit used (length row)) (sym g.counted) stop;
  }
    where
      here : (u : S) (q : Result Told Refusal) (x : List ℕ) → u ≡ s → q ≡ first → x ≡ begun → does o (Parts n) u q x
      here u q x i j k =
          subst (λ (v : S). does o (Parts n) v q x) (sym i) (subst (λ (v : Result Told Refusal). does o (Parts n) s v x) (sym j) (subst (λ (v : List ℕ). does o (Parts n) s first v) (sym k) d))

-- where it asks no more, nothing stopped it
pub not_stopped : (r : Result Told Refusal) (asked limit used room : ℕ) → ((k : ℕ) → r ≡ Ok (Ask k) → ⊥) → Stopped r asked limit used room
not_stopped (Ok (Ask k)) asked limit used room h = absurd (h k refl)
not_stopped (Ok (Rest k)) asked limit used room h = tt
not_stopped (Ok Sound) asked limit used room h = tt
not_stopped (Ok TooMany) asked limit used room h = tt
not_stopped (Err e) asked limit used room h = tt

-- where the limit is reached
pub limit_stops : (r : Result Told Refusal) (asked limit used room : ℕ) → asked ≡ limit → Stopped r asked limit used room
limit_stops (Ok (Ask k)) asked limit used room h = inl h
limit_stops (Ok (Rest k)) asked limit used room h = tt
limit_stops (Ok Sound) asked limit used room h = tt
limit_stops (Ok TooMany) asked limit used room h = tt
limit_stops (Err e) asked limit used room h = tt
