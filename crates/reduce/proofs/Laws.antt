-- What a step is, case by case.
use Rattle.std.proofs.Common.{◌≡◌, ℕ, ◌+◌, ◌-◌, ◌*◌, ◌<◌, ◌≤◌, Bool, true, false, cond, ◌&&◌, eqb, ltb, leb, List, ◌++◌, length, get_or, take, drop, Option, Some, None, Result, Ok, Err, sym, refl, ap, ◌∙◌, subst, ap₂, append_assoc, length-append, arith}
use Rattle.std.proofs.lemmas.List.{take-append-drop, drop-append-le}
use Rattle.std.proofs.lemmas.Bool.{and_parts, and_from, both_ways, ltb-true, lt-ltb, le-ltb, le-leb, lt-leb}
use Rattle.subset.specs.Parts.{all_parts}
use Rattle.bisect.specs.Engine.{parts, said, Act, ask, left, sound, refused, Step}
use Rattle.bisect.specs.Search.{Pass, pass, heard, answered}
use Rattle.bisect.specs.Stand.{sought, placed, sane, given, cut_at}
use Rattle.bisect.specs.declared.Search.{Search}
use Rattle.bisect.proofs.Asking.{placed_true, true_placed}
use Rattle.bisect.proofs.Right.{Ready, heard_ready, Sized}
use Rattle.reduce.specs.State.{State, idle, first, seek, try, over, many, trial, go_on, next, begin}
use Rattle.reduce.specs.Own.{Header, header, held, standing, stored, bare, fine, staged, stage, fault, moved, goes, own}
use Rattle.reduce.specs.Entry.{ActTold, Does, Heard, event_of}
use Rattle.reduce.specs.declared.Event.{Event}
use Rattle.reduce.specs.declared.Event.TheVariants.{Said}
use Rattle.reduce.specs.declared.Refusal.{Refusal}
use Rattle.reduce.specs.declared.Refusal.TheVariants.{Torn, Unawaited}
use Rattle.reduce.specs.declared.Stage.{Stage}
use Rattle.reduce.specs.declared.Stage.TheVariants.{Idle, First, Seek, Trial}
use Rattle.reduce.specs.declared.Told.{Told}
use Rattle.reduce.proofs.Stored.{sane_from, modest_carries, step_said}

pub does : (s t : Step) (r : Told) (m₁ out out₁ : List ℕ) → s ≡ t → Does t r m₁ out out₁ → Does s r m₁ out out₁
does s t r m₁ out out₁ e d = subst (λ (v : Step). Does v r m₁ out out₁) (sym e) d

pub own_begins : (m : List ℕ) (n : ℕ) → length m ≡ 72 → own.step m (parts n) ≡ moved n (held m) (begin n)
unfolding own goes
own_begins m n h = rw h

pub begins_few : (n : ℕ) → n ≤ 4096 → begin n ≡ first (all_parts n)
unfolding begin
begins_few n h = rw (le-leb n 4096 h)

pub begins_many : (n : ℕ) → 4096 < n → begin n ≡ many
unfolding begin
begins_many n h = rw (lt-leb n 4096 h)

pub trial_asks : (i : ℕ) (ks : List ℕ) → i < length ks → trial i ks ≡ try i ks
unfolding trial
trial_asks i ks h = rw (lt-ltb i (length ks) h)

pub trial_ends : (i : ℕ) (ks : List ℕ) → length ks ≤ i → trial i ks ≡ over ks
unfolding trial
trial_ends i ks h = rw (le-ltb i (length ks) h)

pub pass_asks : (p : Pass) → 0 < p.at.row → go_on p ≡ seek p
unfolding go_on
pass_asks p h = rw (lt-ltb 0 p.at.row h)

pub pass_ends : (p : Pass) → p.at.row ≤ 0 → go_on p ≡ trial p.at.sure p.held
unfolding go_on
pass_ends p h = rw (le-ltb 0 p.at.row h)

-- what was held before does not matter to a trial or a pass
pub moved_trial : (n i : ℕ) (ks js ls : List ℕ) → moved n ks (trial i ls) ≡ moved n js (trial i ls)
unfolding trial stored
moved_trial n i ks js ls =
    elim (ltb i (length ls)) as (λ b. moved n ks (cond b (try i ls) (over ls)) ≡ moved n js (cond b (try i ls) (over ls))) [ true ↦ refl | false ↦ refl ]

pub moved_pass : (n : ℕ) (ks js : List ℕ) (p : Pass) → moved n ks (go_on p) ≡ moved n js (go_on p)
unfolding go_on stored
moved_pass n ks js p =
    let t = trial p.at.sure p.held in
    elim (ltb 0 p.at.row) as (λ b. moved n ks (cond b (seek p) t) ≡ moved n js (cond b (seek p) t))
    [ true ↦ refl | false ↦ moved_trial n p.at.sure ks js p.held ]

-- ---- the numbers of a pass
sane_wider : (s : Search) (k n : ℕ) → sane s k n ≡ true → sane s k 4096 ≡ true
sane_wider s k n e =
    let (x, y) = and_parts (placed s k n) (leb s.sure (k - s.row) && leb s.spent (13 * (k - s.row + 1))) e in
    let p = placed_true s k n x in
    and_from _ _ (true_placed s k 4096 (record { most = omega arith; ahead = p.ahead; inside = p.inside; fewer = p.fewer; old = omega (arith, p.old, p.most) })) y

-- ---- where it stands, as the code reads it: what is at fault with an answer, where the machine over lists stands, and what the numbers are
abbrev pub At : (ks : List ℕ) → Stage → Option Refusal → State → Type 0
At ks Idle f t = f ≡ Some Unawaited
At ks First f t = (f ≡ None) × (t ≡ first ks)
At ks (Seek s) f t = (f ≡ None) × (t ≡ seek (pass s ks)) × (sane s (length ks) 4096 ≡ true)
At ks (Trial i) f t = (f ≡ None) × (t ≡ try i ks) × (i < length ks)

at_stage : (h : Header) (s : Search) (ks : List ℕ) (z o t u : Bool)
    → cond z (eqb h.size 0 && (eqb h.index 0 && bare s))
    (cond o (eqb h.index 0 && (bare s && (eqb h.size (length ks) && leb (length ks) 4096)))
    (cond t (eqb h.index 0 && sane s (length ks) h.size)
    (u && (bare s && (ltb h.index (length ks) && (leb (length ks) h.size && leb h.size 4096)))))) ≡ true
    → At ks (cond z Idle (cond o First (cond t (Seek s) (Trial h.index)))) (cond z (Some Unawaited) None)
    (cond o (first ks) (cond t (seek (pass s ks)) (cond u (try h.index ks) idle)))
at_stage h s ks true o t u e = refl
at_stage h s ks false true t u e = (refl, refl)
at_stage h s ks false false true u e = (refl, refl, sane_wider s (length ks) h.size (and_parts (eqb h.index 0) _ e).1)
at_stage h s ks false false false true e = (refl, refl, ltb-true _ _ (and_parts (ltb h.index (length ks)) _ (and_parts (bare s) _ e).1).0)
at_stage h s ks false false false false e = absurd (both_ways _ refl e)

-- a memory that is read is at that stage, one that isn't is torn
pub read_at : (m : List ℕ) (r : Result Stage Refusal) (g₁ g : Stage) → r ≡ stage m → r ≡ Ok g₁ → g₁ ≡ g
    → At (held m) g (fault m) (standing (header m) (sought m) (held m))
unfolding stage fault standing
read_at m r g₁ g e₁ e₂ e₃ = go (fine (header m) (sought m) (length (held m))) refl (sym e₁ ∙ e₂ ∙ ap Ok e₃)
  where
    h : Header
    h = header m

    go : (b : Bool) → fine h (sought m) (length (held m)) ≡ b → ◌≡◌ {A = Result Stage Refusal} (cond b (Ok (staged h (sought m))) (Err Torn)) (Ok g)
        → At (held m) g (cond b (cond (eqb h.phase 0) (Some Unawaited) None) (Some Torn)) (standing h (sought m) (held m))
    go true f e =
        let same : staged h (sought m) ≡ g = cc in
        rw same at (at_stage h (sought m) (held m) (eqb h.phase 0) (eqb h.phase 1) (eqb h.phase 2) (eqb h.phase 3) f)
    go false f e = absurd (let z : ◌≡◌ {A = ℕ} 0 1 = cc in omega arith)

pub read_torn : (m : List ℕ) (e : Refusal) → stage m ≡ Err e → fault m ≡ Some e
unfolding stage fault
read_torn m e h = go (fine (header m) (sought m) (length (held m))) h
  where
    go : (b : Bool) → ◌≡◌ {A = Result Stage Refusal} (cond b (Ok (staged (header m) (sought m))) (Err Torn)) (Err e)
        → ◌≡◌ {A = Option Refusal} (cond b (cond (eqb (get_or m 0 0) 0) (Some Unawaited) None) (Some Torn)) (Some e)
    go true h = absurd (let z : ◌≡◌ {A = ℕ} 0 1 = cc in omega arith)
    go false h = let same : ◌≡◌ {A = Refusal} Torn e = cc in ap Some same

-- an answer that is awaited, by where the machine stands
pub hears_at : (m : List ℕ) (v : ℕ) (s : State) (b : Bool) (t : Told) (m₁ out out₁ : List ℕ) → length m ≡ 72 → fault m ≡ None
    → standing (header m) (sought m) (held m) ≡ s → b ≡ eqb v 1 → Does (moved (get_or m 1 0) (held m) (next s b)) t m₁ out out₁
    → Heard (fault m) m (Said v) out (Ok t) m₁ out₁
hears_at m v s b t m₁ out out₁ h z e q d =
    rw z (does (own.step m (said v)) _ t m₁ out out₁ (step_said m v h z ∙ ap₂ (λ (r : State) (c : Bool). moved (get_or m 1 0) (held m) (next r c)) e (sym q)) d)

-- ---- what a step does with a row's first 4,096, it does with the row: what lies behind stays
row_behind : (ks out ws : List ℕ) → length ws ≡ length (take 4096 out) → ws ≡ ks ++ drop (length ks) (take 4096 out)
    → ws ++ drop 4096 out ≡ ks ++ drop (length ks) out
row_behind ks out ws h e =
    let n = length ks in
    let room : n ≤ length (take 4096 out) = omega (arith, h, ap (λ (v : List ℕ). length v) e ∙ length-append ks (drop n (take 4096 out))) in
    ap (λ (v : List ℕ). v ++ drop 4096 out) e ∙ append_assoc ks (drop n (take 4096 out)) (drop 4096 out)
    ∙ ap (λ v. ks ++ v) (sym (drop-append-le n (take 4096 out) (drop 4096 out) room) ∙ ap (drop n) (take-append-drop 4096 out))

row_same : (out ws : List ℕ) → ws ≡ take 4096 out → ws ++ drop 4096 out ≡ out
row_same out ws e = ap (λ (v : List ℕ). v ++ drop 4096 out) e ∙ take-append-drop 4096 out

told_behind : (a : Act) (t : Told) (out ws : List ℕ) → length ws ≡ length (take 4096 out) → ActTold a t (take 4096 out) ws → ActTold a t out (ws ++ drop 4096 out)
unfolding ActTold
told_behind (ask ks) t out ws h (e, d) = (e, row_behind ks out ws h d)
told_behind (left ks) t out ws h (e, d) = (e, row_behind ks out ws h d)
told_behind sound t out ws h (e, d) = (e, row_same out ws d)
told_behind refused t out ws h (e, d) = (e, row_same out ws d)

pub heard_behind : (o : Option Refusal) (m : List ℕ) (ev : Event) (out : List ℕ) (r : Result Told Refusal) (m₁ ws : List ℕ)
    → length ws ≡ length (take 4096 out) → Heard o m ev (take 4096 out) r m₁ ws → Heard o m ev out r m₁ (ws ++ drop 4096 out)
heard_behind None m ev out (Ok t) m₁ ws h (e, d) = (e, told_behind (own.step m (event_of ev)).act t out ws h d)
heard_behind None m ev out (Err e) m₁ ws h d = absurd d
heard_behind (Some f) m ev out r m₁ ws h (e, d, w) = (e, d, row_same out ws w)

-- and after it something is open in the row, if it has members
pub heard_placed : (s : Search) (ks : List ℕ) (b : Bool) → sane s (length ks) 4096 ≡ true → (p : Pass) → p ≡ answered (cut_at s (length ks)) (pass s ks) b
    → 0 < p.at.row → placed p.at (length p.held) 4096 ≡ true
heard_placed s ks b e p q h =
    let (l, t, v, m) = sane_from s ks 4096 e in
    let z : Sized 4096 p = subst (λ (r : Pass). Sized 4096 r) (sym q) ((modest_carries 4096 53261).goes_on (pass s ks) l (t, omega (arith, v, t.fewer, t.old)) b).0 in
    let r : Ready p.at = subst (λ (r : Pass). Ready r.at) (sym q) (heard_ready (cut_at s (length ks)) s b) in
    true_placed p.at (length p.held) 4096 (record { most = omega arith; ahead = r h; inside = z.high; fewer = z.fewer; old = z.old })

-- what `hear` answers of numbers that fit
pub hear_after : (s : Search) (k k₀ : ℕ) (b : Bool) (o : Option Search) (r : Search) → k₀ ≡ k → sane s k 4096 ≡ true
    → o ≡ given (sane s k₀ 4096) (heard (cut_at s k₀) s b) → o ≡ Some r → r ≡ heard (cut_at s k) s b
hear_after s k k₀ b o r q z e₁ e₂ =
    let e : Some (heard (cut_at s k) s b) ≡ Some r = ap (λ v. given v (heard (cut_at s k) s b)) (sym z) ∙ ap (λ n. given (sane s n 4096) (heard (cut_at s n) s b)) (sym q) ∙ sym e₁ ∙ e₂ in
    cc
