-- Runs that hear the same answers end alike; and so many answers tell only so many parts apart.
use Rattle.std.proofs.Common.{rules, ◌≡◌, ℕ, zero, suc, ◌+◌, ◌^◌, ◌<◌, ◌≤◌, Bool, true, false, cond, not, List, [], ◌∷◌, ◌++◌, length, sym, refl, ap, ◌∙◌, subst, pow-suc, arith, length-append, pow_pos}
use Rattle.std.specs.List.{filter}
use mathlib.Core.List.{head-eq_of_cons-eq, tail-eq_of_cons-eq}
use Rattle.std.proofs.lemmas.List.{append_assoc, length-map}
use Rattle.std.proofs.lemmas.List.Filters.{length-filter_both}
use Rattle.std.proofs.lemmas.Bool.{cond_both, lt-ltb, ltb-true, not-true}
use Rattle.subset.specs.Parts.{all_parts, some_of, has}
use Rattle.subset.proofs.Lists.{Row, row_all, row_those, has_head, has_tail, has_those, length_all}
use Rattle.subset.proofs.Order.{must_false, same_is}
use Rattle.subset.proofs.Changes.{has_all}
use Rattle.bisect.specs.Judge.{Judge, Decides}
use Rattle.bisect.specs.Engine.{Event, parts, said, Act, ask, left, sound, refused, Engine, Ran, ran, told_left, strayed, acted, runs, run_of}
use Rattle.bisect.specs.Promise.{Demands, Reduces, OneDecides}
use Rattle.bisect.specs.Apart.{Decider, answers, ToldApart, EnoughAsked}
use Rattle.bisect.proofs.Least.{one_decides}

-- what is asked is added in front of what was
abbrev Grows : Ran → List (List ℕ) → Type 0
Grows R qs = (new : List (List ℕ)) × (R.asked ≡ new ++ qs)

abbrev Growing : (ℕ → List (List ℕ) → Ran) → Type 0
Growing go = (v : ℕ) (qs : List (List ℕ)) → Grows (go v qs) qs

grows_act : (n : ℕ) (f : Judge) (qs : List (List ℕ)) (go : ℕ → List (List ℕ) → Ran) → Growing go → (a : Act) → Grows (acted n f qs go a) qs
unfolding acted
grows_act n f qs go h (ask q) =
    cond_both (some_of n q) (go (f q) (q ∷ qs)) (ran qs strayed []) (λ R. Grows R qs)
    (λ b. let w = h (f q) (q ∷ qs) in (w.0 ++ q ∷ [], w.1 ∙ sym (append_assoc w.0 (q ∷ []) qs))) (λ b. ([], refl))
grows_act n f qs go h (left ks) = ([], refl)
grows_act n f qs go h sound = ([], refl)
grows_act n f qs go h refused = ([], refl)

grows : (n : ℕ) (e : Engine) (f : Judge) (k : ℕ) (m : List ℕ) (ev : Event) (qs : List (List ℕ)) → Grows (runs k n e f m ev qs) qs
unfolding runs
grows n e f zero m ev qs = ([], refl)
grows n e f (suc k) m ev qs = grows_act n f qs _ (λ v. grows n e f k (e.step m ev).memory (said v)) (e.step m ev).act

-- runs of one engine that agree on each answer to what both asked leave the same
module _ (n : ℕ) (f g : Judge) (Agree : List (List ℕ) → List (List ℕ) → Type 0)
    (agreed : (xs ys : List (List ℕ)) (q : List ℕ) (qs : List (List ℕ)) → Agree (xs ++ q ∷ qs) (ys ++ q ∷ qs) → f q ≡ g q) where
  abbrev Meet : Ran → Ran → Type 0
  Meet R S = R.end ≡ told_left → S.end ≡ told_left → Agree R.asked S.asked → R.rest ≡ S.rest

  meet_act : (qs : List (List ℕ)) (go go₁ : ℕ → List (List ℕ) → Ran) → Growing go → Growing go₁
      → ((v : ℕ) (qs₁ : List (List ℕ)) → Meet (go v qs₁) (go₁ v qs₁)) → (a : Act) → Meet (acted n f qs go a) (acted n g qs go₁ a)
  unfolding acted
  meet_act qs go go₁ w w₁ ih (ask q) =
      elim (some_of n q) as (λ b. Meet (cond b (go (f q) (q ∷ qs)) (ran qs strayed [])) (cond b (go₁ (g q) (q ∷ qs)) (ran qs strayed []))) [
        | true ↦ (λ d d₁ t.
            let r = w (f q) (q ∷ qs) in
            let s = w₁ (g q) (q ∷ qs) in
            let equal : f q ≡ g q = agreed r.0 s.0 q qs (rw (r.1, s.1) at t) in
            (subst (λ (v : ℕ). Meet (go (f q) (q ∷ qs)) (go₁ v (q ∷ qs))) equal (ih (f q) (q ∷ qs))) d d₁ t)
        | false ↦ (λ d d₁ t. refl)
      ]
  meet_act qs go go₁ w w₁ ih (left ks) = λ d d₁ t. refl
  meet_act qs go go₁ w w₁ ih sound = λ d d₁ t. refl
  meet_act qs go go₁ w w₁ ih refused = λ d d₁ t. refl

  meet : (e : Engine) (k j : ℕ) (m : List ℕ) (ev : Event) (qs : List (List ℕ)) → Meet (runs k n e f m ev qs) (runs j n e g m ev qs)
  unfolding runs
  meet e zero j m ev qs d d₁ t = absurd (omega arith)
  meet e (suc k) zero m ev qs d d₁ t = absurd (omega arith)
  meet e (suc k) (suc j) m ev qs d d₁ t =
      meet_act qs _ _ (λ v. grows n e f k (e.step m ev).memory (said v)) (λ v. grows n e g j (e.step m ev).memory (said v))
      (λ v. meet e k j (e.step m ev).memory (said v)) (e.step m ev).act d d₁ t

decides : (n x : ℕ) → Decides (Decider x) n x
decides n x js s = search rules

-- whatever run ends with what is left leaves the part that decides: one does, and another of the same engine and judge leaves the same
leaves_one : (e : Engine) (n x k : ℕ) → Reduces e → n ≤ 4096 → x < n → (run_of k n e (Decider x)).end ≡ told_left
    → (run_of k n e (Decider x)).rest ≡ x ∷ []
unfolding Demands OneDecides
leaves_one e n x k w h l d =
    let c = (w.1 n (Decider x)).2 h (rw (has_all n x ∙ lt-ltb x n l)) in
    meet n (Decider x) (Decider x) (λ ps qs. Unit {0}) (λ xs ys q qs t. refl) e k c.0 e.start (parts n) [] d c.1.done tt
    ∙ same_is _ _ (one_decides n x (Decider x) _ l (decides n x) c.1.some c.1.slim)

abbrev SameAnswers : Judge → Judge → List (List ℕ) → List (List ℕ) → Type 0
SameAnswers f g ps qs = answers f ps ≡ answers g qs

-- the same answers to q, if as many were heard before it
heard : (f g : Judge) (xs ys : List (List ℕ)) (q : List ℕ) (qs : List (List ℕ)) → SameAnswers f g (xs ++ q ∷ qs) (ys ++ q ∷ qs) → f q ≡ g q
heard f g [] [] q qs h = head-eq_of_cons-eq h
heard f g [] (y ∷ ys) q qs h = absurd (omega (arith, simp (length-map, length-append) at (ap length h)))
heard f g (x ∷ xs) [] q qs h = absurd (omega (arith, simp (length-map, length-append) at (ap length h)))
heard f g (x ∷ xs) (y ∷ ys) q qs h = heard f g xs ys q qs (tail-eq_of_cons-eq h)

pub told_apart : ToldApart
unfolding ToldApart
told_apart e n x y k j w h lx ly ne dx dy = must_false _ (λ s. ne (head-eq_of_cons-eq (
    sym (leaves_one e n x k w h lx dx)
    ∙ meet n f g (SameAnswers f g) (heard f g) e k j e.start (parts n) [] dx dy (same_is _ _ s)
    ∙ leaves_one e n y j w h ly dy)))
  where
    f : Judge
    f = Decider x

    g : Judge
    g = Decider y

-- if only p was asked, the first act asked of p
first_act : (n : ℕ) (f : Judge) (go : ℕ → List (List ℕ) → Ran) → Growing go → (a : Act) (p : List ℕ) → (acted n f [] go a).asked ≡ p ∷ [] → a ≡ ask p
unfolding acted
first_act n f go w (ask q) p =
    cond_both (some_of n q) (go (f q) (q ∷ [])) (ran [] strayed []) (λ R. R.asked ≡ p ∷ [] → ask q ≡ ask p)
    (λ b h. let r = w (f q) (q ∷ []) in ap ask (only r.0 (sym r.1 ∙ h))) (λ b h. absurd (omega (arith, ap length h)))
  where
    only : (new : List (List ℕ)) → new ++ q ∷ [] ≡ p ∷ [] → q ≡ p
    only [] h = cc
    only (x ∷ new) h = absurd (omega (arith, simp length-append at (ap length h)))
first_act n f go w (left ks) p = λ h. absurd (omega (arith, ap length h))
first_act n f go w sound p = λ h. absurd (omega (arith, ap length h))
first_act n f go w refused p = λ h. absurd (omega (arith, ap length h))

-- the first act is to ask of all parts: so it is where nothing fails, and no answer was heard before it
asks_all : (e : Engine) (n : ℕ) → Reduces e → n ≤ 4096 → (e.step e.start (parts n)).act ≡ ask (all_parts n)
unfolding Demands runs
asks_all e n w l = let c = (w.1 n (λ q. 0)).1 l refl in go c.0 (ap (λ R. R.asked) c.1)
  where
    go : (k : ℕ) → (run_of k n e (λ q. 0)).asked ≡ all_parts n ∷ [] → (e.step e.start (parts n)).act ≡ ask (all_parts n)
    go zero h = absurd (omega (arith, ap length h))
    go (suc k) h = first_act n (λ q. 0) _ (λ v. grows n e (λ q. 0) k (e.step e.start (parts n)).memory (said v)) _ (all_parts n) h

-- of different parts at most one is all that is left
one_left : (b n : ℕ) (xs ks : List ℕ) → Row b n xs → ((x : ℕ) → has xs x ≡ true → ks ≡ x ∷ []) → length xs ≤ 1
one_left b n [] ks r h = omega arith
one_left b n (x ∷ []) ks r h = omega arith
one_left b n (x ∷ y ∷ xs) ks r h =
    absurd (omega (arith, head-eq_of_cons-eq (sym (h x (has_head x (y ∷ xs))) ∙ h y (has_tail x (y ∷ xs) y (has_head y xs)))))

-- a run that leaves a part goes on after each question
goes_on : (n : ℕ) (f : Judge) (qs : List (List ℕ)) (go : ℕ → List (List ℕ) → Ran) (q : List ℕ) (x : ℕ)
    → (acted n f qs go (ask q)).rest ≡ x ∷ [] → acted n f qs go (ask q) ≡ go (f q) (q ∷ qs)
unfolding acted
goes_on n f qs go q x = search rules

-- a run for x leaves x alone, and asks at most c questions more
abbrev Leaves : ℕ → ℕ → List (List ℕ) → Ran → Type 0
Leaves c x qs R = (R.rest ≡ x ∷ []) × (length R.asked ≤ c + length qs)

module _ (n : ℕ) (e : Engine) where
  -- some run for x does so from an act on
  abbrev Finds : ℕ → List ℕ → List (List ℕ) → Act → ℕ → Type 0
  Finds c m qs a x = (k : ℕ) × Leaves c x qs (acted n (Decider x) qs (λ v qs₁. runs k n e (Decider x) m (said v) qs₁) a)

  -- from an event to the act; from a question to the answer; and from one act to the next
  acts : (c k : ℕ) (m : List ℕ) (ev : Event) (qs : List (List ℕ)) (x : ℕ) → Leaves c x qs (runs k n e (Decider x) m ev qs)
      → Finds c (e.step m ev).memory qs (e.step m ev).act x
  unfolding runs
  acts c zero m ev qs x h = absurd (omega (arith, ap length h.0))
  acts c (suc k) m ev qs x h = (k, h)

  hears : (c : ℕ) (m : List ℕ) (qs : List (List ℕ)) (q : List ℕ) (x v : ℕ) → Decider x q ≡ v → Finds c m qs (ask q) x
      → (k : ℕ) × Leaves c x qs (runs k n e (Decider x) m (said v) (q ∷ qs))
  hears c m qs q x v h t =
      let R : ℕ → Ran = λ u. runs t.0 n e (Decider x) m (said u) (q ∷ qs) in
      (t.0, subst (Leaves c x qs) (goes_on n (Decider x) qs _ q x t.1.0 ∙ ap R h) t.1)

  next : (c : ℕ) (m : List ℕ) (qs : List (List ℕ)) (q : List ℕ) (x v : ℕ) → Decider x q ≡ v → Finds (suc c) m qs (ask q) x
      → Finds c (e.step m (said v)).memory (q ∷ qs) (e.step m (said v)).act x
  next c m qs q x v h t = let s = hears (suc c) m qs q x v h t in acts c s.0 m (said v) (q ∷ qs) x (s.1.0, omega (arith, s.1.1))

  -- who asks has a question left
  spent : (m : List ℕ) (qs : List (List ℕ)) (q : List ℕ) (x : ℕ) → Finds 0 m qs (ask q) x → ⊥
  spent m qs q x t =
      let s = hears 0 m qs q x (Decider x q) refl t in
      let r = grows n e (Decider x) s.0 m (said (Decider x q)) (q ∷ qs) in
      omega (arith, s.1.1, simp length-append at (ap length r.1))

  -- from one act on, with at most c questions more, at most 2 ^ c parts are found
  abbrev Few : ℕ → Type 0
  Few c = (b : ℕ) (m : List ℕ) (qs : List (List ℕ)) (a : Act) (xs : List ℕ) → Row b n xs → ((x : ℕ) → has xs x ≡ true → Finds c m qs a x) → length xs ≤ 2 ^ c

  -- then also of those for which the answer to q is v, with q asked first
  few_hear : (c : ℕ) → Few c → (b : ℕ) (m : List ℕ) (qs : List (List ℕ)) (q xs : List ℕ) → Row b n xs
      → ((x : ℕ) → has xs x ≡ true → Finds (suc c) m qs (ask q) x)
      → (p : ℕ → Bool) (v : ℕ) → ((x : ℕ) → p x ≡ true → Decider x q ≡ v) → length (filter p xs) ≤ 2 ^ c
  few_hear c few b m qs q xs r h p v d =
      few b (e.step m (said v)).memory (q ∷ qs) (e.step m (said v)).act (filter p xs) (row_those p b n xs r)
      (λ x g. let t = has_those p xs x g in next c m qs q x v (d x t.1) (h x t.0))

  few_found : (c : ℕ) → Few c
  unfolding acted
  few_found zero b m qs (ask q) xs r h = one_left b n xs [] r (λ x g. absurd (spent m qs q x (h x g)))
  few_found (suc c) b m qs (ask q) xs r h =
      let hear = few_hear c (few_found c) b m qs q xs r h in
      omega (arith, length-filter_both (has q) (λ x. not (has q x)) (λ _. refl) xs, hear (has q) 1 (λ x g. rw g), hear (λ x. not (has q x)) 0 (λ x g. rw (not-true _ g)), pow-suc 2 c)
  few_found c b m qs (left ks) xs r h = omega (arith, one_left b n xs ks r (λ x g. (h x g).1.0), pow_pos c)
  few_found c b m qs sound xs r h = omega (arith, one_left b n xs [] r (λ x g. (h x g).1.0), pow_pos c)
  few_found c b m qs refused xs r h = omega (arith, one_left b n xs [] r (λ x g. (h x g).1.0), pow_pos c)

pub enough_asked : EnoughAsked
unfolding EnoughAsked
enough_asked e n q w l h =
    omega (arith, length_all n, few_found n e q 0 (e.step m (said 1)).memory (all_parts n ∷ []) (e.step m (said 1)).act (all_parts n) (row_all n) found)
  where
    m : List ℕ
    m = (e.step e.start (parts n)).memory

    found : (x : ℕ) → has (all_parts n) x ≡ true → Finds n e q (e.step m (said 1)).memory (all_parts n ∷ []) (e.step m (said 1)).act x
    found x g =
        let lx : x < n = ltb-true x n (sym (has_all n x) ∙ g) in
        let d = h x lx in
        let t = acts n e (suc q) d.0 e.start (parts n) [] x (leaves_one e n x d.0 w l lx d.1, omega (arith, d.2)) in
        next n e q m [] (all_parts n) x 1 (rw g) (rw (asks_all e n w l) at t)
