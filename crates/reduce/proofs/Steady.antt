-- The memory keeps its length, and its numbers stay within 64 bits.
use Rattle.std.proofs.Common.{◌≡◌, ℕ, suc, ◌≤◌, true, eqb, ltb, List, length, get_or, Option, Some, None, sym, refl, ◌∙◌, arith}
use Rattle.std.proofs.lemmas.Bool.{and_from, eqb-true, lt-ltb, cond_both}
use Rattle.subset.specs.Laws.{WordsSmall, all_small}
use Rattle.subset.proofs.Stands.{words_small}
use Rattle.bisect.specs.Engine.{Event, parts, said, refused, Steady}
use Rattle.bisect.specs.declared.Search.{Search}
use Rattle.bisect.specs.Stand.{sought}
use Rattle.reduce.specs.State.{State, idle, first, seek, try, over, calm, many, next, begin}
use Rattle.reduce.specs.Own.{Header, header, held, kept, idle_at, first_at, seek_at, try_at, nowhere, standing, stored, fault, faultless, doing, moved, goes, own}
use Rattle.reduce.specs.declared.Refusal.{Refusal}
use Rattle.reduce.proofs.Stored.{Fits, fits_next, fits_begin, fits_held, Modest, modest_carries, dear, length_kept}

-- a memory of 72 small numbers
abbrev Well : List ℕ → Type 0
Well m = (length m ≡ 72) × (all_small m ≡ true)

-- a number that is no word
abbrev Low : ℕ → Type 0
Low k = k ≤ 65536

abbrev Lows : Search → Type 0
Lows s = Low s.lo × Low s.row × Low s.begun × Low s.spent × Low s.sure

kept_well : (h : Header) (s : Search) (ks : List ℕ) → Low h.phase → Low h.size → Low h.index → Lows s → Well (kept h s ks)
unfolding all_small WordsSmall
kept_well h s ks p n i (l, r, b, u, v) = (
  length_kept h s ks,
  and_from _ _ (low p)
      (and_from _ _ (low n)
      (and_from _ _ (low l)
      (and_from _ _ (low r) (and_from _ _ (low i) (and_from _ _ (low b) (and_from _ _ (low u) (and_from _ _ (low v) (words_small 64 ks).1))))))),
)
  where
    low : {k : ℕ} → Low k → ltb k 18446744073709551616 ≡ true
    low {k} l = lt-ltb k 18446744073709551616 (omega arith)

-- where no pass goes on
bare_well : (h : Header) (ks : List ℕ) → Low h.phase → Low h.size → Low h.index → Well (kept h nowhere ks)
bare_well h ks p n i = kept_well h nowhere ks p n i (omega arith, omega arith, omega arith, omega arith, omega arith)

idle_well : (ks : List ℕ) → Well (kept idle_at nowhere ks)
idle_well ks = bare_well idle_at ks (omega arith) (omega arith) (omega arith)

stored_well : (n : ℕ) (js : List ℕ) (s : State) → Fits (Modest n (suc dear)) n s → Well (stored n js s)
unfolding stored
stored_well n js idle w = idle_well js
stored_well n js (first ks) (l, w) = bare_well (first_at n) ks (omega arith) (omega (arith, w.most)) (omega arith)
stored_well n js (seek p) (l, (t, u), w) =
    let low : length p.held ≤ n = omega (arith, t.fewer, t.old) in
    let most = w.most in
    kept_well (seek_at n) p.at p.held (omega arith) (omega arith) (omega arith)
    (omega (arith, t.high), omega (arith, t.high), omega (arith, t.old), omega (arith, u), omega (arith, t.known))
stored_well n js (try i ks) (l, w) = bare_well (try_at n i) ks (omega arith) (omega (arith, w.most)) (omega (arith, w.most, w.fewer))
stored_well n js (over ks) w = idle_well ks
stored_well n js calm w = idle_well js
stored_well n js many w = idle_well js

-- as long as before, and small if it was
abbrev Keeps : (m m₁ : List ℕ) → Type 0
Keeps m m₁ = (length m₁ ≡ length m) × (all_small m ≡ true → all_small m₁ ≡ true)

well_keeps : (m m₁ : List ℕ) → length m ≡ 72 → Well m₁ → Keeps m m₁
well_keeps m m₁ h w = (w.0 ∙ sym h, λ g. w.1)

goes_keeps : (m : List ℕ) (ev : Event) → length m ≡ 72 → Keeps m (goes m ev).memory
unfolding goes
goes_keeps m (parts n) h = well_keeps m _ h (stored_well n (held m) (begin n) (fits_begin (Modest n (suc dear)) n))
goes_keeps m (said v) h = go (fault m) refl
  where
    n : ℕ
    n = get_or m 1 0

    s : State
    s = standing (header m) (sought m) (held m)

    go : (o : Option Refusal) → fault m ≡ o → Keeps m (faultless o (moved n (held m) (next s (eqb v 1))) (doing m refused)).memory
    go None e = well_keeps m _ h (stored_well n (held m) _ (fits_next n _ _ (λ l. modest_carries n dear) s (eqb v 1) (fits_held m h e)))
    go (Some f) e = (refl, λ g. g)

pub steady : Steady own
unfolding Steady own
steady = (
  omega arith,
  refl,
  λ m ev. cond_both (eqb (length m) 72) (goes m ev) (doing m refused) (λ t. Keeps m t.memory) (λ e. goes_keeps m ev (eqb-true _ _ e)) (λ e. (refl, λ g. g)),
)
