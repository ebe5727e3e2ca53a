-- Events, acts, engines over a memory of numbers, and their runs against a judge. Assumes nothing: these are definitions.
use Rattle.std.specs.Prelude.{◌≡◌, ℕ, zero, suc, ◌≤◌, true, cond, List, [], ◌∷◌, length, nat_eq}
use Rattle.std.specs.List.{list_all}
use Rattle.subset.specs.Parts.{some_of}
use Rattle.subset.specs.Laws.{all_small}
use Rattle.bisect.specs.Judge.{Judge}

-- what an engine is told: how many parts there are; what the judge said of what was asked last
pub data Event : Type 0 where
  parts : ℕ → Event
  said : ℕ → Event

-- what it does: asks of a subset; tells the subset that is left; says that all together don't fail; or refuses
pub data Act : Type 0 where
  ask : List ℕ → Act
  left : List ℕ → Act
  sound : Act
  refused : Act

pub record Step : Type 0 where
  pub memory : List ℕ
  pub act : Act

pub record Engine : Type 0 where
  pub start : List ℕ
  pub step : List ℕ → Event → Step

-- how a run ended: it told what is left, or that all is sound, or refused; or it still asks; or it asked of what isn't there
abbrev pub told_left : ℕ
told_left = 0

abbrev pub told_sound : ℕ
told_sound = 1

abbrev pub told_refused : ℕ
told_refused = 2

abbrev pub still_asks : ℕ
still_asks = 3

abbrev pub strayed : ℕ
strayed = 4

-- a run: what was asked, the last first; how it ended; and what is left
pub record Ran : Type 0 where
  pub asked : List (List ℕ)
  pub end : ℕ
  pub rest : List ℕ

abbrev pub ran : List (List ℕ) → ℕ → List ℕ → Ran
ran qs e ks = record { asked = qs; end = e; rest = ks }

-- an act against a judge of n parts, where `go` is what follows the judge's answer
unfoldable pub acted : ℕ → Judge → List (List ℕ) → (ℕ → List (List ℕ) → Ran) → Act → Ran
acted n f qs go (ask q) = cond (some_of n q) (go (f q) (q ∷ qs)) (ran qs strayed [])
acted n f qs go (left ks) = ran qs told_left ks
acted n f qs go sound = ran qs told_sound []
acted n f qs go refused = ran qs told_refused []

-- at most so many acts, from a memory, an event and what was asked before
unfoldable pub runs : ℕ → ℕ → Engine → Judge → List ℕ → Event → List (List ℕ) → Ran
runs zero n e f m ev qs = ran qs still_asks []
runs (suc k) n e f m ev qs = acted n f qs (λ v qs₁. runs k n e f (e.step m ev).memory (said v) qs₁) (e.step m ev).act

abbrev pub run_of : ℕ → ℕ → Engine → Judge → Ran
run_of k n e f = runs k n e f e.start (parts n) []

-- memory is all 0 at the start; it never grows, nor do its numbers beyond 64 bits
unfoldable pub Steady : Engine → Type 0
Steady e =
    (length e.start ≤ 65536) × (list_all (λ m. nat_eq m 0) e.start ≡ true)
    × ((m : List ℕ) (ev : Event) → (length (e.step m ev).memory ≡ length m) × (all_small m ≡ true → all_small (e.step m ev).memory ≡ true))
