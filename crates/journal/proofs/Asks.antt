-- The reducer asks only of parts that are there, and awaits the answer, whatever it is told.
use Rattle.std.proofs.Common.{arith, ◌≡◌, ℕ, suc, ◌<◌, ◌==◌, Bool, true, false, cond, ltb, leb, List, [], ◌∷◌, length, get_or, Some, None, Option, ◌∙◌, sym, ap, refl}
use Rattle.std.specs.List.{list_all}
use Rattle.std.proofs.lemmas.Bool.{and_from, cond_both, ltb-true}
use Rattle.subset.specs.Parts.{all_parts, some_of}
use Rattle.subset.proofs.Changes.{some_of_all}
use Rattle.subset.proofs.Lists.{without_some}
use Rattle.bisect.specs.Engine.{Act, ask, left, sound, refused, Step}
use Rattle.bisect.specs.Machine.{asking}
use Rattle.bisect.specs.Search.{Pass, fresh, cut_of, question, answered}
use Rattle.bisect.specs.Verdict.{number_of}
use Rattle.bisect.specs.declared.verdict.Verdict.{Verdict}
use Rattle.bisect.proofs.Cut.{cut_inner}
use Rattle.bisect.proofs.Keep.{keep_some}
use Rattle.bisect.proofs.Right.{Ready, heard_ready}
use Rattle.reduce.specs.Own.{fault}
use Rattle.reduce.specs.State.{State, idle, first, seek, try, over, calm, many, less, trial, go_on, next, next_by, begin, act_of, act_by}
use Rattle.reduce.proofs.Stored.{Stands, follows}
use Rattle.session.specs.Session.{begun}
use Rattle.journal.specs.Promise.{AwaitsWhatItAsks, after, exchanges}
use Rattle.journal.specs.Replay.{awaited, faultless, question_of, told_verdict}

-- ---- over lists: what is held is some of the parts
module _ (n : ℕ) where
  abbrev Holds : State → Type 0
  Holds idle = Unit {0}
  Holds (first ks) = some_of n ks ≡ true
  Holds (seek p) = (p.at.lo < p.at.row) × (some_of n p.held ≡ true)
  Holds (try i ks) = some_of n ks ≡ true
  Holds (over ks) = Unit {0}
  Holds calm = Unit {0}
  Holds many = Unit {0}

  holds_trial : (i : ℕ) (ks : List ℕ) → some_of n ks ≡ true → Holds (trial i ks)
  unfolding trial
  holds_trial i ks some = cond_both (ltb i (length ks)) (try i ks) (over ks) Holds (λ e. some) (λ e. tt)

  holds_go : (p : Pass) → Ready p.at → some_of n p.held ≡ true → Holds (go_on p)
  unfolding go_on
  holds_go p ready some =
      cond_both (ltb 0 p.at.row) (seek p) (trial p.at.sure p.held) Holds (λ e. (ready (ltb-true _ _ e), some)) (λ e. holds_trial p.at.sure p.held some)

  some_asked : (p : Pass) → p.at.lo < p.at.row → some_of n p.held ≡ true → some_of n (question (cut_of p) p) ≡ true
  some_asked p low some = keep_some n (cut_of p) p.at.row p.held (omega (arith, (cut_inner p low).1)) some

  some_held : (p : Pass) (b : Bool) → p.at.lo < p.at.row → some_of n p.held ≡ true → some_of n (answered (cut_of p) p b).held ≡ true
  some_held p true low some = some_asked p low some
  some_held p false low some = some

  holds_next : (s : State) (b : Bool) → Holds s → Holds (next s b)
  unfolding next_by
  holds_next idle b h = tt
  holds_next (first ks) true some = holds_go (fresh ks) (λ e. e) some
  holds_next (first ks) false some = tt
  holds_next (seek p) b (low, some) = holds_go (answered (cut_of p) p b) (heard_ready (cut_of p) p.at b) (some_held p b low some)
  holds_next (try i ks) true some = holds_go (fresh (less i ks)) (λ e. e) (without_some (get_or ks i 0) n ks some)
  holds_next (try i ks) false some = holds_trial (suc i) ks some
  holds_next (over ks) b h = tt
  holds_next calm b h = tt
  holds_next many b h = tt

  holds_begin : Holds (begin n)
  unfolding begin
  holds_begin = cond_both (leb n 4096) (first (all_parts n)) many Holds (λ e. some_of_all n n (omega arith)) (λ e. tt)

  same_question : (js ks : List ℕ) → ask js ≡ ask ks → some_of n js ≡ true → some_of n ks ≡ true
  same_question js ks e some = let same : ks ≡ js = cc in rw same some

  asks_some : (s : State) (ks : List ℕ) → act_of s ≡ ask ks → Holds s → some_of n ks ≡ true
  unfolding act_by
  asks_some idle ks e h = absurd (cc)
  asks_some (first js) ks e some = same_question js ks e some
  asks_some (seek p) ks e (low, some) = same_question (question (cut_of p) p) ks e (some_asked p low some)
  asks_some (try i js) ks e some = same_question (less i js) ks e (without_some (get_or js i 0) n js some)
  asks_some (over js) ks e h = absurd (cc)
  asks_some calm ks e h = absurd (cc)
  asks_some many ks e h = absurd (cc)

-- ---- over the memory
record At (n : ℕ) (t : Step) : Type 0 where
  state : State
  act : t.act ≡ act_of state
  stands : asking (act_of state) ≡ true → Stands t.memory state
  holds : Holds n state

at_begun : (n : ℕ) → At n (begun n)
at_begun n = record { state = begin n; act = follows.begins_act n; stands = follows.begins n; holds = holds_begin n }

at_told : (n : ℕ) (t : Step) (ks : List ℕ) (v : Verdict) → At n t → t.act ≡ ask ks → At n (told_verdict t v)
at_told n t ks v at asked =
    let stands = at.stands (ap asking (sym at.act ∙ asked)) in
    record {
      state = next at.state (number_of v == 1);
      act = follows.tells t.memory at.state (number_of v) stands;
      stands = follows.keeps t.memory at.state (number_of v) stands;
      holds = holds_next n at.state (number_of v == 1) at.holds;
    }

-- where it asks, no memory is at fault
awaits_asked : (n : ℕ) (t : Step) → At n t → awaited t ≡ question_of t.act
awaits_asked n t at = by t.act refl
  where
    none : (b : Bool) → ◌≡◌ {A = Option (List ℕ)} (cond b None None) None
    none true = refl
    none false = refl

    by : (a : Act) → t.act ≡ a → cond (faultless (fault t.memory)) (question_of a) None ≡ question_of a
    by (ask ks) asked = rw ((at.stands (ap asking (sym at.act ∙ asked))).1) refl
    by (left ks) asked = none (faultless (fault t.memory))
    by sound asked = none (faultless (fault t.memory))
    by refused asked = none (faultless (fault t.memory))

-- what is awaited is asked
asked_so : (a : Act) (ks : List ℕ) → question_of a ≡ Some ks → a ≡ ask ks
asked_so (ask js) ks e = let same : js ≡ ks = cc in ap ask same
asked_so (left js) ks e = absurd (cc)
asked_so sound ks e = absurd (cc)
asked_so refused ks e = absurd (cc)

act_of_awaited : (n : ℕ) (t : Step) (ks : List ℕ) → At n t → awaited t ≡ Some ks → t.act ≡ ask ks
act_of_awaited n t ks at awaits = asked_so t.act ks (sym (awaits_asked n t at) ∙ awaits)

-- ---- along a run
-- what holds where it is told nothing more, where it awaits nothing, and of a step more, holds of each run
pub along : (P : Step → List Verdict → Type 0) → ((t : Step) → P t []) → ((t : Step) (v : Verdict) (vs : List Verdict) → awaited t ≡ None → P t (v ∷ vs))
    → ((t : Step) (v : Verdict) (vs : List Verdict) (ks : List ℕ) → awaited t ≡ Some ks → P (told_verdict t v) vs → P t (v ∷ vs)) → (t : Step) (vs : List Verdict) → P t vs
along P none ends goes t [] = none t
along P none ends goes t (v ∷ vs) = by (awaited t) refl (along P none ends goes (told_verdict t v) vs)
  where
    by : (o : Option (List ℕ)) → awaited t ≡ o → P (told_verdict t v) vs → P t (v ∷ vs)
    by None awaits rest = ends t v vs awaits
    by (Some ks) awaits rest = goes t v vs ks awaits rest

exchanges_at : (n : ℕ) (t : Step) (vs : List Verdict) → At n t → list_all (λ e. some_of n e.0) (exchanges t vs) ≡ true
unfolding exchanges
exchanges_at n =
    along (λ t vs. At n t → list_all (λ e. some_of n e.0) (exchanges t vs) ≡ true) (λ t at. refl) (λ t v vs awaits at. rw awaits refl)
    (λ t v vs ks awaits rest at.
    let act = act_of_awaited n t ks at awaits in
    rw awaits (and_from _ _ (asks_some n at.state ks (sym at.act ∙ act) at.holds) (rest (at_told n t ks v at act))))

at_after : (n : ℕ) (t : Step) (vs : List Verdict) → At n t → At n (after t vs)
unfolding after
at_after n =
    along (λ t vs. At n t → At n (after t vs)) (λ t at. at) (λ t v vs awaits at. rw awaits at)
    (λ t v vs ks awaits rest at. rw awaits (rest (at_told n t ks v at (act_of_awaited n t ks at awaits))))

pub exchanges_some : (n : ℕ) (vs : List Verdict) → list_all (λ e. some_of n e.0) (exchanges (begun n) vs) ≡ true
exchanges_some n vs = exchanges_at n (begun n) vs (at_begun n)

pub awaits_what_it_asks : AwaitsWhatItAsks
unfolding AwaitsWhatItAsks
awaits_what_it_asks n vs = awaits_asked n (after (begun n) vs) (at_after n (begun n) vs (at_begun n))
