-- An engine that follows a machine runs as it does; and one act of a machine's run.
use Rattle.std.proofs.Common.{◌≡◌, ℕ, zero, suc, true, false, cond, List, [], ◌∷◌, refl, ap}
use Rattle.std.proofs.lemmas.Bool.{both_ways}
use Rattle.subset.specs.Parts.{some_of}
use Rattle.bisect.specs.Judge.{Judge}
use Rattle.bisect.specs.Engine.{Event, parts, said, Act, ask, left, sound, refused, Engine, acted, runs, run_of}
use Rattle.bisect.specs.Engine.{Ran, ran, told_left, told_sound, told_refused, strayed}
use Rattle.bisect.specs.Machine.{Machine, plays, asking}

-- the memory holds where the machine stands, as long as it asks
pub record Follows {S V : Type 0} (M : Machine S V) (e : Engine) (Stands : List ℕ → S → Type 0) : Type 0 where
  pub begins_act : (n : ℕ) → (e.step e.start (parts n)).act ≡ M.act (M.begin n)
  pub begins : (n : ℕ) → asking (M.act (M.begin n)) ≡ true → Stands (e.step e.start (parts n)).memory (M.begin n)
  pub tells : (m : List ℕ) (s : S) (v : ℕ) → Stands m s → (e.step m (said v)).act ≡ M.act (M.next s (M.reads v))
  pub keeps : (m : List ℕ) (s : S) (v : ℕ) → Stands m s → asking (M.act (M.next s (M.reads v))) ≡ true
      → Stands (e.step m (said v)).memory (M.next s (M.reads v))

-- runs that go on alike after what an act asks are alike
acted_alike : (n : ℕ) (f : Judge) (qs : List (List ℕ)) (go go₁ : ℕ → List (List ℕ) → Ran) (a : Act)
    → (asking a ≡ true → (v : ℕ) (qs₁ : List (List ℕ)) → go v qs₁ ≡ go₁ v qs₁) → acted n f qs go a ≡ acted n f qs go₁ a
unfolding acted
acted_alike n f qs go go₁ (ask q) h = ap (λ R. cond (some_of n q) R (ran qs strayed [])) (h refl (f q) (q ∷ qs))
acted_alike n f qs go go₁ (left ks) h = refl
acted_alike n f qs go go₁ sound h = refl
acted_alike n f qs go go₁ refused h = refl

module _ {S V : Type 0} (M : Machine S V) (e : Engine) (Stands : List ℕ → S → Type 0) (t : Follows M e Stands) (n : ℕ) (f : Judge) where
  follows : (k : ℕ) (m : List ℕ) (ev : Event) (s : S) (qs : List (List ℕ)) → (e.step m ev).act ≡ M.act s
      → (asking (M.act s) ≡ true → Stands (e.step m ev).memory s) → runs k n e f m ev qs ≡ plays M n f k s qs
  unfolding runs plays
  follows zero m ev s qs h st = refl
  follows (suc k) m ev s qs h st = rw h
      (acted_alike n f qs _ _ (M.act s)
      (λ a v qs₁. follows k (e.step m ev).memory (said v) (M.next s (M.reads v)) qs₁ (t.tells (e.step m ev).memory s v (st a))
      (t.keeps (e.step m ev).memory s v (st a))))

  pub run_follows : (k : ℕ) → run_of k n e f ≡ plays M n f k (M.begin n) []
  run_follows k = follows k e.start (parts n) (M.begin n) [] (t.begins_act n) (t.begins n)

-- how a run ends that asks no more
abbrev pub told : List (List ℕ) → Act → Ran
told qs (ask q) = ran qs strayed []
told qs (left ks) = ran qs told_left ks
told qs sound = ran qs told_sound []
told qs refused = ran qs told_refused []

-- one act of a run
module _ {S V : Type 0} (M : Machine S V) (n : ℕ) (f : Judge) where
  pub plays_ask : (k : ℕ) (s : S) (qs : List (List ℕ)) (q : List ℕ) → M.act s ≡ ask q → some_of n q ≡ true
      → plays M n f (suc k) s qs ≡ plays M n f k (M.next s (M.reads (f q))) (q ∷ qs)
  unfolding plays acted
  plays_ask k s qs q e h = rw (e, h)

  pub plays_stop : (k : ℕ) (s : S) (qs : List (List ℕ)) (a : Act) → M.act s ≡ a → asking a ≡ false → plays M n f (suc k) s qs ≡ told qs a
  unfolding plays acted
  plays_stop k s qs (ask q) e h = absurd (both_ways _ h refl)
  plays_stop k s qs (left ks) e h = rw e
  plays_stop k s qs sound e h = rw e
  plays_stop k s qs refused e h = rw e
