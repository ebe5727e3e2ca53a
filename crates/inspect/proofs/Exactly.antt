-- Nothing is found exactly where the answers are the judge's and the promises are kept.
use Rattle.std.proofs.Common.{◌≡◌, ℕ, ◌+◌, ◌*◌, ◌<◌, ◌≤◌, Bool, true, false, cond, not, ◌&&◌, eqb, leb, List, [], ◌∷◌, map, reverse, length, sym, refl, ap, ap₂, ◌∙◌, inl, inr, Result, Ok, arith}
use Rattle.std.specs.List.{list_all}
use Rattle.std.proofs.Math.Bool.{and_comm}
use Rattle.std.proofs.lemmas.List.Folds.{list_all-append, list_all-map}
use Rattle.std.proofs.lemmas.List.{length-map, length-reverse, reverse-append, nil_from_length}
use Rattle.std.proofs.lemmas.Bool.{and_parts, and_from, or_cases, or_left, or_right, both_ways, cases_Bool, cases_lt, not-true, not_from_false, eq-eqb, eqb-true, le-leb, leb-true, leb-false}
use Rattle.subset.specs.Parts.{all_parts, some_of}
use Rattle.subset.proofs.Lists.{length_all}
use Rattle.bisect.specs.Judge.{Judge, fails, lean, Monotone, Least}
use Rattle.bisect.specs.Engine.{Ran, ran, told_sound, told_refused}
use Rattle.bisect.specs.Promise.{LeanLeast}
use Rattle.bisect.proofs.Least.{lean_least}
use Rattle.inspect.specs.Exhaustive.{grows, spared}
use Rattle.judges.specs.Kept.{Leaves, Kept}
use Rattle.inspect.specs.Inspector.{answer_of, question_of, recorded, rightly, there, check, of_many, of_sound, known, of_monotone, all_needed, of_left, of_end, finding, Ending, left, sound, refused, unended, Known, Clean, Exact}
use Rattle.inspect.specs.declared.inspector.Finding.{Finding}
use Rattle.inspect.specs.declared.inspector.Finding.TheVariants.{Misheard, Strayed, Unasked, AskedMore, NotSound, NoSubset, Passes, Loose, WasSound, TooMany, ManyIfMonotone, SmallerFails}
use Rattle.inspect.proofs.Coded.{grows_decides, spared_decides}
use Rattle.inspect.proofs.Inspected.{subset_all}

-- ---- a check that found nothing held, and the others found nothing
on : (b : Bool) (x : Finding) (go : Result (Unit {0}) Finding) → check b x go ≡ Ok tt → (b ≡ true) × (go ≡ Ok tt)
on true x go e = (refl, e)
on false x go e = absurd cc

held : (b : Bool) (x : Finding) (go : Result (Unit {0}) Finding) → b ≡ true → go ≡ Ok tt → check b x go ≡ Ok tt
held b x go h e = rw h e

-- ---- what was asked, the last first
every_reverse : {A : Type 0} (p : A → Bool) (xs : List A) → list_all p (reverse xs) ≡ list_all p xs
every_reverse p [] = refl
every_reverse p (x ∷ xs) =
    ap (list_all p) (reverse-append (x ∷ []) xs) ∙ list_all-append p (reverse xs) (x ∷ []) ∙ and_comm (list_all p (reverse xs)) (p x && true)
    ∙ ap₂ (λ a b. a && b) (and_comm (p x) true) (every_reverse p xs)

asked_every : (p : List ℕ → Bool) (es : List (List ℕ)) → list_all p (reverse (map question_of es)) ≡ list_all (λ e. p (question_of e)) es
asked_every p es = every_reverse p (map question_of es) ∙ list_all-map p question_of es

asked_length : (es : List (List ℕ)) → length (reverse (map question_of es)) ≡ length es
asked_length es = length-reverse (map question_of es) ∙ length-map es question_of

-- ---- failing is known to be monotone, and nothing smaller fails
module _ (told : Bool) (n : ℕ) (f : Judge) (honest : 9 < n → told ≡ true → Monotone f n) where
  known_from : Known told n f → known told n f ≡ true
  known_from (inl t) = or_left _ _ t
  known_from (inr (l, m)) = or_right told _ (and_from _ _ (le-leb n 9 l) ((grows_decides n f (omega arith)).1 m))

  known_to : known told n f ≡ true → Known told n f
  known_to e =
      elim (or_cases told _ e) [
        | inl t ↦ inl t
        | inr h ↦ let (l, g) = and_parts (leb n 9) (grows n f) h in inr (leb-true n 9 l, (grows_decides n f (omega (arith, leb-true n 9 l))).0 g)
      ]

  -- nothing smaller fails: tried, or as failing is monotone
  least_to : (ks : List ℕ) → some_of n ks ≡ true → lean f ks ≡ true → Known told n f → cond (leb n 9) (spared n f ks) true ≡ true → Least f n ks
  unfolding LeanLeast
  least_to ks s ln k e =
      elim (cases_lt 9 n) [
        | inl l ↦ lean_least n f ks (elim k [ inl t ↦ honest l t | inr h ↦ h.1 ]) s ln
        | inr l ↦ (spared_decides n f (omega arith) ks s).0 (rw (le-leb n 9 l) at e)
      ]

  least_from : (ks : List ℕ) → some_of n ks ≡ true → Least f n ks → cond (leb n 9) (spared n f ks) true ≡ true
  least_from ks s m =
      elim (cases_Bool (leb n 9)) [ inl e ↦ rw e ((spared_decides n f (omega (arith, leb-true n 9 e)) ks s).1 m) | inr e ↦ rw e ]

  -- ---- where something is left
  left_to : (es : List (List ℕ)) (ks : List ℕ) → n ≤ 4096 → list_all (there n) es ≡ true → of_left told n f (length es) ks ≡ Ok tt
      → Kept (Known told n f) n f (recorded es (left ks))
  unfolding recorded
  left_to es ks l here e =
      let (some, e₁) = on (some_of n ks) NoSubset _ e in
      let (bad, e₂) = on (fails f ks) Passes _ e₁ in
      let (needed, e₃) = on (all_needed f ks) Loose _ e₂ in
      let (all, e₄) = on (fails f (all_parts n)) WasSound _ e₃ in
      let (few, e₅) = on (leb (length es) (15 * (n + 1) * (n + 1))) TooMany _ e₄ in
      let slim : lean f ks ≡ true = and_from _ _ bad needed in
      record {
        many = λ m. absurd (omega arith);
        sound = λ m b. absurd (both_ways _ b all);
        left = λ m b. record {
          lessened = record { done = refl; some = some; slim = slim };
          bounded = omega (arith, asked_length es, leb-true _ _ few);
          few = λ k.
              let e₆ = rw (known_from k) at e₅ in
              let (low, e₇) = on (leb (length es) (14 * (length ks + 1))) ManyIfMonotone _ e₆ in
              let (least, e₈) = on (cond (leb n 9) (spared n f ks) true) SmallerFails _ e₇ in
              (omega (arith, asked_length es, leb-true _ _ low), least_to ks some slim k least);
        };
        there = asked_every (some_of n) es ∙ here;
      }

  left_from : (es : List (List ℕ)) (ks : List ℕ) → fails f (all_parts n) ≡ true → Leaves (Known told n f) n f (recorded es (left ks)) → of_left told n f (length es) ks ≡ Ok tt
  unfolding recorded
  left_from es ks all w =
      let (bad, needed) = and_parts (fails f ks) (all_needed f ks) w.lessened.slim in
      held _ NoSubset _ w.lessened.some (held _ Passes _ bad (held _ Loose _ needed (held _ WasSound _ all
      (held _ TooMany _ (le-leb _ _ (omega (arith, asked_length es, w.bounded))) (go (known told n f) refl)))))
    where
      go : (b : Bool) → known told n f ≡ b → cond b (of_monotone n f (length es) ks) (Ok tt) ≡ Ok tt
      go true e =
          let (low, least) = w.few (known_to e) in
          held _ ManyIfMonotone _ (le-leb _ _ (omega (arith, asked_length es, low))) (held _ SmallerFails _ (least_from ks w.lessened.some least) refl)
      go false e = refl

  -- ---- where it said "sound"
  sound_to : (es : List (List ℕ)) → n ≤ 4096 → list_all (rightly f) es ≡ true → list_all (there n) es ≡ true → of_sound n es ≡ Ok tt
      → Kept (Known told n f) n f (recorded es sound)
  unfolding recorded
  sound_to [] l right here e = absurd cc
  sound_to (e ∷ es) l right here h =
      let (long, h₁) = on (eqb (length (question_of e)) n) Unasked _ h in
      let (last, h₂) = on (eqb (length es) 0) AskedMore _ h₁ in
      let (good, h₃) = on (not (eqb (answer_of e) 1)) NotSound _ h₂ in
      let all : question_of e ≡ all_parts n = subset_all n (question_of e) (and_parts _ _ here).0 (eqb-true _ _ long) in
      let none : es ≡ [] = nil_from_length es (eqb-true _ _ last) in
      let says : f (all_parts n) ≡ answer_of e = ap f (sym all) ∙ eqb-true _ _ (and_parts (rightly f e) _ right).0 in
      let fine : fails f (all_parts n) ≡ false = ap (λ v. eqb v 1) says ∙ not-true _ good in
      record {
        many = λ m. absurd (omega arith);
        sound = λ m b. ap (λ (x : List (List ℕ)). ran (reverse (map question_of (e ∷ x))) told_sound []) none ∙ ap (λ (q : List ℕ). ran (q ∷ []) told_sound []) all;
        left = λ m b. absurd (both_ways _ fine b);
        there = asked_every (some_of n) (e ∷ es) ∙ here;
      }

  sound_from : (es : List (List ℕ)) → list_all (rightly f) es ≡ true → fails f (all_parts n) ≡ false → reverse (map question_of es) ≡ all_parts n ∷ [] → of_sound n es ≡ Ok tt
  sound_from [] right fine q = absurd (let w = ap length q in omega arith)
  sound_from (e ∷ es) right fine q =
      let one : length es ≡ 0 = (let w = ap length q in omega (arith, w, asked_length (e ∷ es))) in
      let none : es ≡ [] = nil_from_length es one in
      let all : question_of e ≡ all_parts n = ap (λ (xs : List (List ℕ)). head (reverse (map question_of (e ∷ xs)))) (sym none) ∙ ap head q in
      let says : answer_of e ≡ f (all_parts n) = sym (eqb-true _ _ (and_parts (rightly f e) _ right).0) ∙ ap f all in
      held _ Unasked _ (eq-eqb _ _ (ap length all ∙ length_all n)) (held _ AskedMore _ (eq-eqb _ _ one)
      (held _ NotSound _ (not_from_false _ (ap (λ v. eqb v 1) says ∙ fine)) refl))
    where
      head : List (List ℕ) → List ℕ
      head [] = []
      head (x ∷ xs) = x

  -- ---- of more than 4,096 parts
  many_to : (es : List (List ℕ)) (x : Ending) → 4096 < n → of_many es x ≡ Ok tt → Kept (Known told n f) n f (recorded es x)
  unfolding recorded
  many_to [] refused l e = record { many = λ m. refl; sound = λ m. absurd (omega arith); left = λ m. absurd (omega arith); there = refl }
  many_to [] (left ks) l e = absurd cc
  many_to [] sound l e = absurd cc
  many_to [] unended l e = absurd cc
  many_to (e ∷ es) x l h = absurd cc

  many_from : (es : List (List ℕ)) (x : Ending) → recorded es x ≡ ran [] told_refused [] → of_many es x ≡ Ok tt
  unfolding recorded
  many_from [] refused e = refl
  many_from [] (left ks) e = absurd (omega (arith, ap (λ (R : Ran). R.end) e))
  many_from [] sound e = absurd (omega (arith, ap (λ (R : Ran). R.end) e))
  many_from [] unended e = absurd (omega (arith, ap (λ (R : Ran). R.end) e))
  many_from (e ∷ es) x h = absurd (omega (arith, asked_length (e ∷ es), ap (λ (R : Ran). length R.asked) h))

  -- ---- by the end
  end_to : (es : List (List ℕ)) (x : Ending) → n ≤ 4096 → list_all (rightly f) es ≡ true → list_all (there n) es ≡ true → of_end told n f es x ≡ Ok tt
      → Kept (Known told n f) n f (recorded es x)
  end_to es (left ks) l right here e = left_to es ks l here e
  end_to es sound l right here e = sound_to es l right here e
  end_to es refused l right here e = absurd cc
  end_to es unended l right here e = absurd cc

  lean_end : (es : List (List ℕ)) (x : Ending) → fails f (all_parts n) ≡ true → Leaves (Known told n f) n f (recorded es x) → of_end told n f es x ≡ Ok tt
  unfolding recorded
  lean_end es (left ks) b w = left_from es ks b w
  lean_end es sound b w = absurd (omega (arith, w.lessened.done))
  lean_end es refused b w = absurd (omega (arith, w.lessened.done))
  lean_end es unended b w = absurd (omega (arith, w.lessened.done))

  sound_end : (es : List (List ℕ)) (x : Ending) → list_all (rightly f) es ≡ true → fails f (all_parts n) ≡ false
      → recorded es x ≡ ran (all_parts n ∷ []) told_sound [] → of_end told n f es x ≡ Ok tt
  unfolding recorded
  sound_end es sound right b e = sound_from es right b (ap (λ (R : Ran). R.asked) e)
  sound_end es (left ks) right b e = absurd (omega (arith, ap (λ (R : Ran). R.end) e))
  sound_end es refused right b e = absurd (omega (arith, ap (λ (R : Ran). R.end) e))
  sound_end es unended right b e = absurd (omega (arith, ap (λ (R : Ran). R.end) e))

  clean_to : (es : List (List ℕ)) (x : Ending) → finding told n f es x ≡ Ok tt → Clean told n f es x
  clean_to es x e =
      let (right, e₁) = on (list_all (rightly f) es) Misheard _ e in
      let (here, e₂) = on (list_all (there n) es) Strayed _ e₁ in (
        right,
        elim (cases_Bool (leb n 4096)) [
          | inl l ↦ end_to es x (leb-true n 4096 l) right here (rw l at e₂)
          | inr l ↦ many_to es x (leb-false n 4096 l) (rw l at e₂)
        ],
      )

  clean_from : (es : List (List ℕ)) (x : Ending) → Clean told n f es x → finding told n f es x ≡ Ok tt
  unfolding recorded
  clean_from es x (right, k) =
      held _ Misheard _ right (held _ Strayed _ (sym (asked_every (some_of n) es) ∙ k.there) (elim (cases_Bool (leb n 4096)) [
        | inl l ↦ rw l (elim (cases_Bool (fails f (all_parts n))) [
          | inl b ↦ lean_end es x b (k.left (leb-true n 4096 l) b)
          | inr b ↦ sound_end es x right b (k.sound (leb-true n 4096 l) b)
        ])
        | inr l ↦ rw l (many_from es x (k.many (leb-false n 4096 l)))
      ]))

-- NOTHING IS FOUND exactly where the promises are kept
pub exactly : (told : Bool) (n : ℕ) (f : Judge) (es : List (List ℕ)) (x : Ending) → Exact told n f es x (finding told n f es x)
exactly told n f es x honest = (clean_to told n f honest es x, clean_from told n f honest es x)
