-- The machine over lists, run on any judge from any subset: it ends, what is left is lean, and so many are asked.
use Rattle.std.proofs.Common.{◌≡◌, ℕ, zero, suc, ◌+◌, ◌*◌, ◌≤◌, true, false, List, [], ◌∷◌, length, get_or, refl, ap, ◌∙◌, arith}
use Rattle.std.proofs.lemmas.Bool.{cond_both}
use Rattle.subset.specs.Parts.{some_of, has}
use Rattle.subset.proofs.Lists.{every_has, without_some}
use Rattle.bisect.specs.Judge.{Judge, fails, Monotone}
use Rattle.bisect.specs.Engine.{ask, left, sound, refused, Ran, ran, told_sound, strayed, acted}
use Rattle.bisect.specs.Machine.{plays}
use Rattle.bisect.specs.Pass.{Inner, asked_of}
use Rattle.bisect.specs.Promise.{Lessened}
use Rattle.bisect.specs.Search.{Pass, fresh, cut_of, question}
use Rattle.bisect.proofs.Cut.{cut_inner}
use Rattle.bisect.proofs.Follow.{plays_ask, plays_stop}
use Rattle.bisect.proofs.Keep.{keep_some}
use Rattle.bisect.proofs.Nest.{asked_new, asked_more, Came, came_known, came_asked}
use Rattle.bisect.proofs.Right.{tri_self}
use Rattle.reduce.specs.State.{State, idle, first, seek, try, over, calm, many, less, go_on, next_by, act_by, reducing_by, reducing}
use Rattle.reduce.specs.Start.{Reduced, Few, asking_first, FromCuts, FromAny}
use Rattle.reduce.proofs.Stays.{slow, Stays, stays_fresh, stays_seek, stays_try}
use Rattle.reduce.proofs.Tally.{Tally, tally_fresh, tally_seek, tally_try}
use Rattle.reduce.proofs.Witness.{Seen, seen_fresh, seen_seek, seen_try}

-- ---- whatever the cuts are it ends, and what each answer keeps stands at the end
module _ (cuts : Pass → ℕ) (inner : Inner cuts) (n : ℕ) (f : Judge) (X : List (List ℕ) → State → Type 0)
    (on-seek : (k : ℕ) (qs : List (List ℕ)) (p : Pass) → Stays n f k (seek p) → X qs (seek p)
    → X (question (cuts p) p ∷ qs) (next_by cuts (seek p) (fails f (question (cuts p) p))))
    (on-try : (k : ℕ) (qs : List (List ℕ)) (i : ℕ) (ks : List ℕ) → Stays n f k (try i ks) → X qs (try i ks)
    → X (less i ks ∷ qs) (next_by cuts (try i ks) (fails f (less i ks)))) where
  abbrev Ends : Ran → Type 0
  Ends R = Lessened n f R × X R.asked (over R.rest)

  ends : (k : ℕ) (s : State) (qs : List (List ℕ)) → Stays n f k s → X qs s → Ends (plays (reducing_by cuts) n f (suc k) s qs)
  unfolding act_by
  ends k idle qs s t = absurd s
  ends k (first ks) qs s t = absurd s
  ends zero (seek p) qs s t = absurd (omega (arith, s.0, s.2, tri_self p.at.row))
  ends (suc k) (seek p) qs s t =
      let q = question (cuts p) p in
      let i = inner p s.0 in
      rw (plays_ask (reducing_by cuts) n f (suc k) (seek p) qs q refl (keep_some n (cuts p) p.at.row p.held (omega (arith, i.1)) s.1.some))
      (ends k (next_by cuts (seek p) (fails f q)) (q ∷ qs) (unfold next_by in stays_seek n f k (cuts p) p i.0 i.1 s (fails f q) refl)
      (on-seek (suc k) qs p s t))
  ends zero (try i ks) qs s t = absurd (omega (arith, s.0, s.2))
  ends (suc k) (try i ks) qs s t =
      let q = less i ks in
      rw (plays_ask (reducing_by cuts) n f (suc k) (try i ks) qs q refl (without_some (get_or ks i 0) n ks s.1.some))
      (ends k (next_by cuts (try i ks) (fails f q)) (q ∷ qs) (stays_try n f k cuts i ks s (fails f q) refl) (on-try (suc k) qs i ks s t))
  ends k (over ks) qs s t =
      rw (plays_stop (reducing_by cuts) n f k (over ks) qs (left ks) refl refl) (record { done = refl; some = s.0; slim = s.1 }, t)
  ends k calm qs s t = absurd s
  ends k many qs s t = absurd s

-- what was asked of stays so
stays_asked : (cuts : Pass → ℕ) (n : ℕ) (f : Judge) (k : ℕ) (s : State) (qs : List (List ℕ)) (q : List ℕ) → asked_of qs q ≡ true
    → asked_of (plays (reducing_by cuts) n f k s qs).asked q ≡ true
unfolding plays acted
stays_asked cuts n f zero s qs q h = h
stays_asked cuts n f (suc k) s qs q h =
    let M = reducing_by cuts in
    elim (act_by cuts s) as (λ a. asked_of (acted n f qs (λ v qs₁. plays M n f k (next_by cuts s (M.reads v)) qs₁) a).asked q ≡ true) [
      | ask p ↦ cond_both (some_of n p) (plays M n f k (next_by cuts s (fails f p)) (p ∷ qs)) (ran qs strayed []) (λ R. asked_of R.asked q ≡ true)
          (λ e. stays_asked cuts n f k (next_by cuts s (fails f p)) (p ∷ qs) q (asked_more q p qs h)) (λ e. h)
      | left ks ↦ h
      | sound ↦ h
      | refused ↦ h
    ]

-- ---- from any start: so many acts at most, once it is known that ks fail
abbrev pub fuel : List ℕ → ℕ
fuel ks = suc (slow (suc (length ks)))

module _ (n : ℕ) (f : Judge) (ks : List ℕ) (small : length ks ≤ 4096) (sm : some_of n ks ≡ true) where
  module _ (cuts : Pass → ℕ) where
    first_asked : (k : ℕ) → plays (reducing_by cuts) n f (suc k) (first ks) [] ≡ plays (reducing_by cuts) n f k (next_by cuts (first ks) (fails f ks)) (ks ∷ [])
    unfolding act_by
    first_asked k = plays_ask (reducing_by cuts) n f k (first ks) [] ks refl sm

    pub from_sound : fails f ks ≡ false → plays (reducing_by cuts) n f 2 (first ks) [] ≡ ran (ks ∷ []) told_sound []
    unfolding next_by act_by
    from_sound h =
        first_asked 1 ∙ ap (λ b. plays (reducing_by cuts) n f 1 (next_by cuts (first ks) b) (ks ∷ [])) h
        ∙ plays_stop (reducing_by cuts) n f 0 calm (ks ∷ []) sound refl refl

    first_fails : fails f ks ≡ true → (k : ℕ) → plays (reducing_by cuts) n f (suc k) (first ks) [] ≡ plays (reducing_by cuts) n f k (go_on (fresh ks)) (ks ∷ [])
    unfolding next_by
    first_fails h k = first_asked k ∙ ap (λ b. plays (reducing_by cuts) n f k (next_by cuts (first ks) b) (ks ∷ [])) h

  module _ (bad : fails f ks ≡ true) where
    module _ (cuts : Pass → ℕ) (inner : Inner cuts) where
      reduced : (qs : List (List ℕ)) → Came f ks qs ks → Reduced n f ks (plays (reducing_by cuts) n f (fuel ks) (go_on (fresh ks)) qs)
      reduced qs v =
          let (w, (u, e)) = ends cuts inner n f (Seen n f ks)
          (λ k qs p s t. seen_seek n f ks qs k cuts p (inner p s.0).0 (inner p s.0).1 s t _ refl)
          (λ k qs i js s t. seen_try n f ks qs k cuts i js s t _ refl)
          (slow (suc (length ks))) (go_on (fresh ks)) qs (stays_fresh n f _ ks small sm bad (omega arith)) (seen_fresh n f ks qs ks sm v) in
          record {
            lessened = w;
            inside = every_has (has ks) _ u.inside;
            came = u.asked;
            each = e;
            nest = λ q h g. every_has (has q) _ (u.nest q h g);
            repeats = u.repeats;
          }

      asked_first : Reduced n f ks (asking_first cuts n f (suc (fuel ks)) ks) × (asked_of (asking_first cuts n f (suc (fuel ks)) ks).asked ks ≡ true)
      asked_first =
          rw (first_fails cuts bad (fuel ks))
          (reduced (ks ∷ []) (came_asked f ks), stays_asked cuts n f (fuel ks) (go_on (fresh ks)) (ks ∷ []) ks (asked_new ks []))

    few : (c : ℕ) (qs : List (List ℕ)) → length qs ≡ c → c ≤ 1 → Few n f ks c (plays reducing n f (fuel ks) (go_on (fresh ks)) qs)
    few c qs e l =
        let B = c + (7 * (length ks * length ks) + 20 * length ks + 13) in
        let w = ends cut_of cut_inner n f (λ qs s. Tally B (Monotone f n) (length qs) s)
        (λ k qs p s t. tally_seek n f k B (length qs) p s.0 t _) (λ k qs i js s t. tally_try n f k B (length qs) i js s t _ refl)
        (slow (suc (length ks))) (go_on (fresh ks)) qs (stays_fresh n f _ ks small sm bad (omega arith))
        (rw e (tally_fresh n f c ks small l)) in
        record { all = w.1.0; one = w.1.1 }

    pub from_first : Reduced n f ks (asking_first cut_of n f (suc (fuel ks)) ks) × Few n f ks 1 (asking_first cut_of n f (suc (fuel ks)) ks)
    from_first = rw (first_fails cut_of bad (fuel ks)) (reduced cut_of cut_inner (ks ∷ []) (came_asked f ks), few 1 (ks ∷ []) refl (omega arith))

pub from_any : FromAny
unfolding FromAny
from_any n f ks small sm bad =
    let w = from_first n f ks small sm bad in
    ((_, w.0, w.1), (_, reduced n f ks small sm bad cut_of cut_inner [] (came_known f ks), few n f ks small sm bad 0 [] refl (omega arith)))

pub from_cuts : FromCuts
unfolding FromCuts
from_cuts cuts inner n f ks small sm = (
  from_sound n f ks small sm cuts,
  λ bad. let w = asked_first n f ks small sm bad cuts inner in (_, w.0, w.1),
  λ bad. (_, reduced n f ks small sm bad cuts inner [] (came_known f ks)),
)
