-- The question at the cut, laid from the members that were told.
use Rattle.std.proofs.Common.{◌≡◌, refl, subst, Bool, false, ℕ, ◌-◌, ◌<◌, ◌≤◌, true, List, ◌++◌, length, take, drop, sym, ap, ◌∙◌, ap₂, arith, length-drop, take_at, rules}
use Rattle.std.specs.Prelude.{Some, Option}
use lib.Seq.{take-append-le, drop-append-le}
use Rattle.std.proofs.lemmas.Bool.{and_parts, and_from, le-leb}
use Rattle.subset.specs.Row.{members, cut_out}
use Rattle.subset.specs.Says.{room, Told}
use Rattle.subset.proofs.Words.{members_le}
use Rattle.bisect.specs.declared.Search.{Search}
use Rattle.bisect.specs.Search.{pass, keep}
use Rattle.bisect.specs.Stand.{placed, cut_at, given, askable, asked}
use Rattle.bisect.proofs.Cut.{cut_inner}

-- a lent row of 4,096 numbers has room for the members of 64 words
pub has_room : (ws out : List ℕ) → length ws ≤ 64 → 4096 ≤ length out → room ws out ≡ true
has_room ws out h l = and_from _ _ (le-leb (length ws) 64 h) (le-leb (length (members ws)) (length out) (omega (arith, members_le ws)))

-- what the tests say
pub record Placed (s : Search) (k n : ℕ) : Type 0 where
  pub most : n ≤ 4096
  pub ahead : s.lo < s.row
  pub inside : s.row ≤ k
  pub fewer : k ≤ s.begun
  pub old : s.begun ≤ n

pub placed_true : (s : Search) (k n : ℕ) → placed s k n ≡ true → Placed s k n
placed_true s k n e = search rules

pub true_placed : (s : Search) (k n : ℕ) → Placed s k n → placed s k n ≡ true
true_placed s k n p = search rules

pub cut_inside : (s : Search) (ks : List ℕ) → s.lo < s.row → cut_at s (length ks) < s.row
cut_inside s ks h = (cut_inner (pass s ks) h).1

-- what is known where the members were told, and where there is a cut
told_some : (b : Bool) (ks zs : List ℕ) (r : Option ℕ) (row : List ℕ) (k : ℕ) → Told b ks zs r row → r ≡ Some k
    → (b ≡ true) × (k ≡ length ks) × (row ≡ ks ++ drop (length ks) zs)
told_some true ks zs r row k t e = let u = t.0 in (refl, cc, t.1)
told_some false ks zs r row k t e = let u = t.0 in cc

given_some : (b : Bool) (x y : ℕ) → given b x ≡ Some y → (b ≡ true) × (y ≡ x)
given_some true x y e = (refl, cc)
given_some false x y e = cc

-- the row's beginning and what is needed, of the members in a lent row
laid : (ks zs row : List ℕ) (c r k : ℕ) → k ≡ length ks → c ≤ r → r ≤ k → row ≡ ks ++ zs → take c row ++ take (k - r) (drop r row) ≡ cut_out c r ks
laid ks zs row c r k whole low high told =
    ap₂ ◌++◌ (ap (take c) told ∙ take-append-le c ks zs (omega arith))
    (ap (λ xs. take (k - r) (drop r xs)) told ∙ ap (take (k - r)) (drop-append-le r ks zs (omega arith))
    ∙ take_at (drop r ks) zs (k - r) (length-drop r ks ∙ omega arith))

pub question_told : (s : Search) (ws zs row out out₁ : List ℕ) (k c n : ℕ) (r : Option ℕ) → Told (room ws zs) (members ws) zs r row → r ≡ Some k
    → given (placed s k 4096) (cut_at s k) ≡ Some c → 4096 ≤ length out
    → n ≡ length (take c row ++ take (k - s.row) (drop s.row row))
    → out₁ ≡ (take c row ++ take (k - s.row) (drop s.row row)) ++ drop (length (take c row ++ take (k - s.row) (drop s.row row))) out
    → Told (askable s ws out) (asked s (members ws)) out (Some n) out₁
unfolding keep
question_told s ws zs row out out₁ k c n r t e g long count after =
    let ks = members ws in
    let (roomy, whole, told) = told_some _ ks zs r row k t e in
    let (sits, cut) = given_some _ _ c g in
    let p = placed_true s k 4096 sits in
    let low : c < s.row = rw (cut, whole) (cut_inside s ks p.ahead) in
    let both : take c row ++ take (k - s.row) (drop s.row row) ≡ asked s ks = laid ks _ row c s.row k whole (omega (arith, low)) p.inside told ∙ ap (λ n. cut_out n s.row ks) (rw (← whole) cut) in
    let all : askable s ws out ≡ true = and_from _ _ (and_parts _ _ roomy).0 (and_from _ _ (rw (← whole) sits) (le-leb 4096 (length out) long)) in
    subst (λ (b : Bool). Told b (asked s ks) out (Some n) out₁) (sym all) (ap Some (count ∙ ap length both), after ∙ ap (λ xs. xs ++ drop (length xs) out) both)
