-- The memory holds where the machine stands, and the step over it does what the machine does.
use Rattle.std.proofs.Common.{◌≡◌, ℕ, suc, ◌+◌, ◌-◌, ◌*◌, ◌<◌, ◌≤◌, Bool, true, false, cond, ◌&&◌, eqb, ltb, leb, List, length, get_or, drop, Option, Some, None, sym, refl, ap, ◌∙◌, arith, length-drop}
use Rattle.std.proofs.lemmas.List.{take_all, length-take-le}
use Rattle.std.proofs.lemmas.Bool.{and_parts, and_from, both_ways, ltb-true, leb-true, eqb-true, lt-ltb, le-leb, eq-eqb, cond_both}
use Rattle.subset.specs.Parts.{all_parts, some_of}
use Rattle.subset.specs.Row.{members, words_of}
use Rattle.subset.proofs.Lists.{length_all, without_some}
use Rattle.subset.proofs.Changes.{some_of_all}
use Rattle.subset.proofs.Words.{length_words, members_words, some_of_members}
use Rattle.bisect.specs.Engine.{said}
use Rattle.bisect.specs.Machine.{asking}
use Rattle.bisect.specs.Search.{Pass, pass, fresh, cut_of, answered}
use Rattle.bisect.specs.Stand.{sought, placed, sane}
use Rattle.bisect.specs.declared.Search.{Search}
use Rattle.bisect.proofs.Asking.{placed_true, true_placed}
use Rattle.bisect.proofs.Cut.{cut_inner}
use Rattle.bisect.proofs.Follow.{Follows}
use Rattle.bisect.proofs.Keep.{keep_some, length_keep}
use Rattle.bisect.proofs.Paid.{Paid, paid_fresh, paid_answered}
use Rattle.bisect.proofs.Right.{Ready, heard_ready, heard_spent, Sized, sized_fresh, sized_found, sized_failed, sized_stood, answers}
use Rattle.reduce.specs.State.{State, idle, first, seek, try, over, calm, many, less, trial, go_on, next, next_by, begin, act_of, act_by, reducing}
use Rattle.reduce.specs.Own.{Header, header, row, held, kept, first_at, seek_at, try_at, nowhere, standing, stored, bare, fine, fault, moved, goes, own}
use Rattle.reduce.specs.declared.Refusal.{Refusal}
use Rattle.reduce.specs.declared.Refusal.TheVariants.{Torn, Unawaited}
use Rattle.reduce.proofs.Stays.{less_shorter}

-- ---- what a run of n parts holds where it asks, with E of a pass
pub record Subset (n : ℕ) (ks : List ℕ) : Type 0 where
  pub most : n ≤ 4096
  pub fewer : length ks ≤ n
  pub some : some_of 4096 ks ≡ true

abbrev pub Fits : (E : Pass → Type 0) (n : ℕ) → State → Type 0
Fits E n idle = Unit {0}
Fits E n (first ks) = (length ks ≡ n) × Subset n ks
Fits E n (seek p) = (p.at.lo < p.at.row) × E p × Subset n p.held
Fits E n (try i ks) = (i < length ks) × Subset n ks
Fits E n (over ks) = Unit {0}
Fits E n calm = Unit {0}
Fits E n many = Unit {0}

-- E holds before an answer, and E₁ after it
pub record Carries (n : ℕ) (E E₁ : Pass → Type 0) : Type 0 where
  pub sized : (p : Pass) → E p → Sized n p
  pub begins : (ks : List ℕ) → length ks ≤ n → E₁ (fresh ks)
  pub goes_on : (p : Pass) → p.at.lo < p.at.row → E p → (b : Bool) → E₁ (answered (cut_of p) p b)

module _ (n : ℕ) (E : Pass → Type 0) where
  fits_trial : (i : ℕ) (ks : List ℕ) → Subset n ks → Fits E n (trial i ks)
  unfolding trial
  fits_trial i ks w = cond_both (ltb i (length ks)) (try i ks) (over ks) (Fits E n) (λ e. (ltb-true _ _ e, w)) (λ e. tt)

  fits_go : (p : Pass) → Ready p.at → E p → Subset n p.held → Fits E n (go_on p)
  unfolding go_on
  fits_go p ready t w =
      cond_both (ltb 0 p.at.row) (seek p) (trial p.at.sure p.held) (Fits E n) (λ e. (ready (ltb-true _ _ e), t, w))
      (λ e. fits_trial p.at.sure p.held w)

subset_answered : (n c : ℕ) (p : Pass) (b : Bool) → c < p.at.row → p.at.row ≤ length p.held → Subset n p.held → Subset n (answered c p b).held
subset_answered n c p true h l w =
    let len = length_keep c p.at.row p.held (omega arith) l in
    record { most = w.most; fewer = omega (arith, w.fewer, len); some = keep_some 4096 c p.at.row p.held (omega arith) w.some }
subset_answered n c p false h l w = w

module _ (n : ℕ) (E E₁ : Pass → Type 0) (carries : n ≤ 4096 → Carries n E E₁) where
  fits_fresh : (ks : List ℕ) → Subset n ks → Fits E₁ n (go_on (fresh ks))
  fits_fresh ks w = fits_go n E₁ (fresh ks) (λ h. h) ((carries w.most).begins ks w.fewer) w

  pub fits_next : (s : State) (b : Bool) → Fits E n s → Fits E₁ n (next s b)
  unfolding next_by
  fits_next idle b h = tt
  fits_next (first ks) true h = fits_fresh ks h.1
  fits_next (first ks) false h = tt
  fits_next (seek p) b (l, t, w) =
      let v = carries w.most in
      fits_go n E₁ (answered (cut_of p) p b) (heard_ready (cut_of p) p.at b) (v.goes_on p l t b)
      (subset_answered n (cut_of p) p b (cut_inner p l).1 (v.sized p t).high w)
  fits_next (try i ks) true (l, w) =
      fits_fresh (less i ks)
      (record { most = w.most; fewer = omega (arith, w.fewer, less_shorter i ks l); some = without_some (get_or ks i 0) 4096 ks w.some })
  fits_next (try i ks) false h = fits_trial n E₁ (suc i) ks h.1
  fits_next (over ks) b h = tt
  fits_next calm b h = tt
  fits_next many b h = tt

pub fits_begin : (E : Pass → Type 0) (n : ℕ) → Fits E n (begin n)
unfolding begin
fits_begin E n =
    cond_both (leb n 4096) (first (all_parts n)) many (Fits E n) (λ e.
    let l : n ≤ 4096 = leb-true n 4096 e in
    (length_all n, record { most = l; fewer = omega (arith, length_all n); some = some_of_all n 4096 l })) (λ e. tt)

-- ---- in a run a pass is paid; in any memory that awaits an answer it has at least its sizes, and has not spent too much
abbrev pub Modest : (most spent : ℕ) → Pass → Type 0
Modest most spent p = Sized most p × (p.at.spent ≤ spent)

paid_carries : (n : ℕ) → n ≤ 4096 → Carries n (Paid n) (Paid n)
paid_carries n l = record { sized = λ p t. t.sized; begins = paid_fresh n l; goes_on = paid_answered n l }

pub modest_carries : (n u : ℕ) → Carries n (Modest n u) (Modest n (suc u))
modest_carries n u = record {
  sized = λ p t. t.0;
  begins = λ ks l. (sized_fresh n ks l, omega arith);
  goes_on = λ p l t b.
      let i = cut_inner p l in (
        answers (Sized n) (sized_found n) (cut_of p) p i.0 i.1 b
            (λ q. sized_failed n (cut_of p) p i.0 i.1 t.0) (λ q. sized_stood n (cut_of p) p i.0 i.1 t.0),
        omega (arith, heard_spent (cut_of p) p.at b, t.1),
      );
}

-- ---- the numbers of a pass
pub sane_from : (s : Search) (ks : List ℕ) (n : ℕ) → sane s (length ks) n ≡ true
    → (s.lo < s.row) × Sized n (pass s ks) × (s.spent ≤ 13 * (length ks - s.row + 1)) × (n ≤ 4096)
sane_from s ks n e =
    let (x, y) = and_parts (placed s (length ks) n) (leb s.sure (length ks - s.row) && leb s.spent (13 * (length ks - s.row + 1))) e in
    let (u, v) = and_parts (leb s.sure (length ks - s.row)) (leb s.spent (13 * (length ks - s.row + 1))) y in
    let p = placed_true s (length ks) n x in (
      p.ahead,
      record { low = omega (arith, p.ahead); high = p.inside; fewer = p.fewer; old = p.old; known = omega (arith, leb-true _ _ u, p.inside) },
      leb-true _ _ v,
      p.most,
    )

sane_to : (n : ℕ) (p : Pass) → n ≤ 4096 → p.at.lo < p.at.row → Paid n p → sane p.at (length p.held) n ≡ true
sane_to n p m l t =
    let z = t.sized in
    and_from _ _
    (true_placed p.at (length p.held) n (record { most = m; ahead = l; inside = z.high; fewer = z.fewer; old = z.old }))
    (and_from _ _ (le-leb p.at.sure (length p.held - p.at.row) (omega (arith, z.known)))
    (le-leb p.at.spent (13 * (length p.held - p.at.row + 1)) (omega (arith, t.paid))))

-- ---- what a memory holds that awaits an answer
pub no_fault : (a b : Bool) → ◌≡◌ {A = Option Refusal} (cond a (cond b (Some Unawaited) None) (Some Torn)) None → (a ≡ true) × (b ≡ false)
no_fault true true h = cc
no_fault true false h = (refl, refl)
no_fault false b h = cc

-- the most that a pass may have spent
abbrev pub dear : ℕ
dear = 53261

fine_fits : (h : Header) (s : Search) (ks : List ℕ) → some_of 4096 ks ≡ true → fine h s (length ks) ≡ true → eqb h.phase 0 ≡ false
    → Fits (Modest h.size dear) h.size (standing h s ks)
unfolding standing
fine_fits h s ks sm = go (eqb h.phase 0) (eqb h.phase 1) (eqb h.phase 2) (eqb h.phase 3)
  where
    go : (z o t u : Bool)
        → cond z (eqb h.size 0 && (eqb h.index 0 && bare s))
        (cond o (eqb h.index 0 && (bare s && (eqb h.size (length ks) && leb (length ks) 4096)))
        (cond t (eqb h.index 0 && sane s (length ks) h.size)
        (u && (bare s && (ltb h.index (length ks) && (leb (length ks) h.size && leb h.size 4096)))))) ≡ true
        → z ≡ false → Fits (Modest h.size dear) h.size (cond o (first ks) (cond t (seek (pass s ks)) (cond u (try h.index ks) idle)))
    go true o t u e z = absurd (both_ways _ z refl)
    go false true t u e z =
        let (a, b) = and_parts _ _ (and_parts (bare s) _ (and_parts (eqb h.index 0) _ e).1).1 in
        let l : h.size ≡ length ks = eqb-true _ _ a in
        let m : length ks ≤ 4096 = leb-true _ _ b in
        (sym l, record { most = omega arith; fewer = omega arith; some = sm })
    go false false true u e z =
        let (l, t, v, m) = sane_from s ks h.size (and_parts (eqb h.index 0) _ e).1 in
        (l, (t, omega (arith, v, t.fewer, t.old)), record { most = m; fewer = omega (arith, t.fewer, t.old); some = sm })
    go false false false true e z =
        let (a, b) = and_parts (ltb h.index (length ks)) _ (and_parts (bare s) _ e).1 in
        let (c, d) = and_parts _ _ b in
        (ltb-true _ _ a, record { most = leb-true _ _ d; fewer = leb-true _ _ c; some = sm })
    go false false false false e z = tt

pub row_length : (m : List ℕ) → length m ≡ 72 → length (row m) ≡ 64
row_length m h = length-take-le 64 (drop 8 m) (simp length-drop (omega arith))

pub fits_held : (m : List ℕ) → length m ≡ 72 → fault m ≡ None → Fits (Modest (get_or m 1 0) dear) (get_or m 1 0) (standing (header m) (sought m) (held m))
unfolding fault
fits_held m h z =
    let (e, p) = no_fault (fine (header m) (sought m) (length (held m))) (eqb (get_or m 0 0) 0) z in
    fine_fits (header m) (sought m) (held m) (some_of_members (row m) 64 (row_length m h)) e p

-- ---- what is stored is told back
pub held_kept : (h : Header) (s : Search) (ks : List ℕ) → some_of 4096 ks ≡ true → held (kept h s ks) ≡ ks
held_kept h s ks sm = ap members (take_all 64 (words_of 64 ks) (omega (arith, length_words 64 ks))) ∙ members_words 64 ks sm

pub length_kept : (h : Header) (s : Search) (ks : List ℕ) → length (kept h s ks) ≡ 72
length_kept h s ks = omega (arith, length_words 64 ks)

abbrev pub Stands : List ℕ → State → Type 0
Stands m s = (length m ≡ 72) × (fault m ≡ None) × (standing (header m) (sought m) (held m) ≡ s) × Fits (Paid (get_or m 1 0)) (get_or m 1 0) s

kept_stands : (h : Header) (s : Search) (ks : List ℕ) → some_of 4096 ks ≡ true → fine h s (length ks) ≡ true → eqb h.phase 0 ≡ false
    → Fits (Paid h.size) h.size (standing h s ks) → Stands (kept h s ks) (standing h s ks)
kept_stands h s ks sm e z w =
    (length_kept h s ks, unfold fault in rw (held_kept h s ks sm, e, z), ap (λ js. standing h s js) (held_kept h s ks sm), w)

pub stored_stands : (n : ℕ) (js : List ℕ) (s : State) → Fits (Paid n) n s → asking (act_of s) ≡ true → Stands (stored n js s) s
unfolding stored standing act_by
stored_stands n js idle w a = absurd (both_ways _ refl a)
stored_stands n js (first ks) (l, p) a =
    kept_stands (first_at n) nowhere ks p.some (and_from _ _ (eq-eqb n (length ks) (sym l)) (le-leb (length ks) 4096 (omega (arith, p.most)))) refl (l, p)
stored_stands n js (seek p) (l, t, w) a =
    kept_stands (seek_at n) p.at p.held w.some (sane_to n p w.most l t) refl (l, t, w)
stored_stands n js (try i ks) (l, p) a =
    kept_stands (try_at n i) nowhere ks p.some
    (and_from _ _ (lt-ltb i (length ks) l) (and_from _ _ (le-leb (length ks) n p.fewer) (le-leb n 4096 p.most))) refl (l, p)
stored_stands n js (over ks) w a = absurd (both_ways _ refl a)
stored_stands n js calm w a = absurd (both_ways _ refl a)
stored_stands n js many w a = absurd (both_ways _ refl a)

-- ---- the step over memory is the machine's
pub step_said : (m : List ℕ) (v : ℕ) → length m ≡ 72 → fault m ≡ None
    → own.step m (said v) ≡ moved (get_or m 1 0) (held m) (next (standing (header m) (sought m) (held m)) (eqb v 1))
unfolding own goes
step_said m v h z = rw (h, z)

pub follows : Follows reducing own Stands
follows = record {
  begins_act = λ n. unfold own goes in refl;
  begins = λ n a. unfold own goes in stored_stands n _ (begin n) (fits_begin (Paid n) n) a;
  tells = λ m s v (h, z, e, w). rw (step_said m v h z, e) refl;
  keeps = λ m s v (h, z, e, w) a.
      rw (step_said m v h z, e)
      (stored_stands (get_or m 1 0) (held m) (next s (eqb v 1)) (fits_next (get_or m 1 0) _ _ (paid_carries (get_or m 1 0)) s (eqb v 1) w) a);
}
