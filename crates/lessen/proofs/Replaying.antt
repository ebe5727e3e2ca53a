-- What one answer does to what is heard from its line on.
use Rattle.std.proofs.Common.{◌≡◌, ℕ, ◌+◌, ◌<◌, List, [], ◌∷◌, length, get_or, drop, Some, None, Option, sym, ap, ◌∙◌, arith}
use Rattle.std.specs.List.{enumerate_from}
use Rattle.std.proofs.lemmas.List.{drop_more}
use Rattle.std.proofs.lemmas.List.FromFn.{length-enumerate_from, get_or-enumerate_from}
use Rattle.std.proofs.lemmas.Iterator.{YieldsList}
use Rattle.std.proofs.lemmas.Iterator.Consumers.{YieldsList-from_enumerate, YieldsList-from_first}
use Rattle.std.specs.Iterator.{YieldsFirstRef}
use Rattle.std.specs.Iterator.Adapters.{enumerate_source, enumerate_count, enumerate_steps}
use Rattle.std.specs.declared.iter.Enumerate.{Enumerate}
use Rattle.candidate.specs.Left.{lines_left}
use Rattle.candidate.specs.declared.Lines.{Lines}
use Rattle.bisect.specs.Engine.{Step}
use Rattle.bisect.specs.declared.verdict.Verdict.{Verdict}
use Rattle.reduce.specs.declared.Refusal.{Refusal}
use Rattle.reduce.specs.Own.{fault}
use Rattle.lessen.specs.declared.replay.Mishap.{Mishap}
use Rattle.lessen.specs.declared.replay.Mishap.TheVariants.{NoAnswer, Unasked}
use Rattle.lessen.specs.Replay.{Outcome, after, answer, heard_from}

apart : (m : Mishap) → Some m ≡ None → ⊥
apart m e = cc

module _ (n : ℕ) (s : Step) (ls : List (List ℕ)) where
  after_goes : (t : Step) (a : Option Verdict) (f : Option Refusal) → after n s (λ u. heard_from (n + 1) u []) a f ≡ (t, None) → after n s (λ u. heard_from (n + 1) u ls) a f ≡ heard_from (n + 1) t ls
  after_goes t None f e = absurd (apart (NoAnswer n) (ap (λ (o : Outcome). o.1) e))
  after_goes t (Some v) None e = ap (λ u. heard_from (n + 1) u ls) (ap (λ (o : Outcome). o.0) e)
  after_goes t (Some v) (Some x) e = absurd (apart (Unasked n) (ap (λ (o : Outcome). o.1) e))

  after_stops : (t : Step) (m : Mishap) (a : Option Verdict) (f : Option Refusal) → after n s (λ u. heard_from (n + 1) u []) a f ≡ (t, Some m) → after n s (λ u. heard_from (n + 1) u ls) a f ≡ (t, Some m)
  after_stops t m None f e = e
  after_stops t m (Some v) None e = absurd (apart m (sym (ap (λ (o : Outcome). o.1) e)))
  after_stops t m (Some v) (Some x) e = e

-- the line is the one at the place
module _ (ls : List (List ℕ)) (k : ℕ) (s : Step) (l : List ℕ) (within : k < length ls) (here : l ≡ get_or ls k l) where
  from_here : heard_from k s (drop k ls) ≡ heard_from k s (l ∷ drop (k + 1) ls)
  from_here = ap (λ v. heard_from k s v) (drop_more ls k l within ∙ ap (λ v. v ∷ drop (k + 1) ls) (sym here))

  pub heard_goes : (t : Step) → heard_from k s (l ∷ []) ≡ (t, None) → heard_from k s (drop k ls) ≡ heard_from (k + 1) t (drop (k + 1) ls)
  heard_goes t e = from_here ∙ after_goes k s (drop (k + 1) ls) t (answer l) (fault s.memory) e

  pub heard_stops : (t : Step) (m : Mishap) → heard_from k s (l ∷ []) ≡ (t, Some m) → heard_from k s (drop k ls) ≡ (t, Some m)
  heard_stops t m e = from_here ∙ after_stops k s (drop (k + 1) ls) t m (answer l) (fault s.memory) e

-- which line stands beside a place
pub placed : (ls : List (List ℕ)) (k n : ℕ) (l : List ℕ) → k < length (enumerate_from 0 ls) → (n, l) ≡ get_or (enumerate_from 0 ls) k (n, l) → (k < length ls) × (n ≡ k) × (l ≡ get_or ls k l)
placed ls k n l within e =
    let h : k < length ls = rw (length-enumerate_from 0 ls) at within in
    let both = e ∙ get_or-enumerate_from 0 ls k (n, l) h in
    let same : n ≡ 0 + k = ap (λ (p : ℕ × List ℕ). p.0) both in
    (h, omega arith, ap (λ (p : ℕ × List ℕ). p.1) both)

-- a walk along numbered lines; the facts are what the calls before the loop ensure
pub numbered : (s t : Enumerate Lines) (u : Lines) (ls : List (List ℕ)) → s ≡ t → enumerate_source t ≡ u → lines_left u ≡ ls → enumerate_count t ≡ 0 → YieldsList {B = ℕ × List ℕ} (enumerate_steps (YieldsFirstRef lines_left)) (λ p. (p.0, p.1.now)) s (enumerate_from 0 ls)
numbered s t u ls same source left count =
    let begin = ap (λ (e : Enumerate Lines). lines_left (enumerate_source e)) same ∙ ap lines_left source ∙ left in
    YieldsList-from_enumerate (YieldsList-from_first (λ x. x.now) lines_left ls begin) (ap (λ (e : Enumerate Lines). enumerate_count e) same ∙ count)
