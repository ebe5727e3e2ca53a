-- The laws of `keep` and `above`: all that the proof of a pass knows of them.
use Rattle.std.proofs.Common.{◌≡◌, ℕ, suc, ◌+◌, ◌<◌, ◌≤◌, true, ◌⊎◌, List, [], ◌∷◌, ◌++◌, length, get_or, take, drop, sym, refl, subst, inl, inr, arith, length-append, length-drop, length-take, length-take-le, drop-cons, drop-drop, ◌-◌, take-take, take_at, drop_at}
use lib.Seq.{take-append-le, drop-length}
use Rattle.subset.specs.Parts.{some_of, without, has}
use Rattle.subset.proofs.Lists.{Row, row_drop, row_from, has_append, has_take, has_drop, has_cons, without_at}
use Rattle.subset.proofs.Changes.{some_of_cut}
use Rattle.bisect.specs.Search.{keep}

-- what is needed
unfoldable pub above : ℕ → List ℕ → List ℕ
above r ks = drop r ks

pub keep_some : (n c r : ℕ) (ks : List ℕ) → c ≤ r → some_of n ks ≡ true → some_of n (keep c r ks) ≡ true
unfolding keep
keep_some n c r ks h e = some_of_cut n c r ks h e

pub keep_has : (c r : ℕ) (ks : List ℕ) (y : ℕ) → has (keep c r ks) y ≡ true → has ks y ≡ true
unfolding keep
keep_has c r ks y h = elim (has_append (take c ks) (drop r ks) y h) [ inl a ↦ has_take c ks y a | inr a ↦ has_drop r ks y a ]

pub length_keep : (c r : ℕ) (ks : List ℕ) → c ≤ r → r ≤ length ks → length (keep c r ks) + r ≡ length ks + c
unfolding keep
length_keep c r ks h l = simp (length-append, length-take, length-drop) (omega arith)

pub above_keep : (c r : ℕ) (ks : List ℕ) → c ≤ r → r ≤ length ks → above c (keep c r ks) ≡ above r ks
unfolding keep above
above_keep c r ks h l = drop_at (take c ks) (drop r ks) c (length-take-le c ks (omega arith))

pub keep_keep : (a c r : ℕ) (ks : List ℕ) → a ≤ c → c ≤ r → r ≤ length ks → keep a c (keep c r ks) ≡ keep a r ks
unfolding keep
keep_keep a c r ks h g l =
    let e₀ : length (take c ks) ≡ c = length-take-le c ks (omega arith) in
    let e₁ : drop c (take c ks ++ drop r ks) ≡ drop r ks = drop_at (take c ks) (drop r ks) c e₀ in
    let e₂ : take a (take c ks ++ drop r ks) ≡ take a (take c ks) = take-append-le a (take c ks) (drop r ks) (omega arith) in
    let e₃ : take a (take c ks) ≡ take a ks = take-take a c ks h in
    cc

pub keep_one : (n r : ℕ) (ks : List ℕ) → r < length ks → some_of n ks ≡ true → keep r (suc r) ks ≡ without (get_or ks r 0) ks
unfolding keep
keep_one n r ks h e = sym (without_at 0 n ks r h (row_from n ks e))

pub keep_above : (c r : ℕ) (ks : List ℕ) → keep c r ks ≡ take c ks ++ above r ks
unfolding keep above
keep_above c r ks = refl

pub take_keep : (c r : ℕ) (ks : List ℕ) → c ≤ r → r ≤ length ks → take c (keep c r ks) ≡ take c ks
unfolding keep
take_keep c r ks h l = take_at (take c ks) (drop r ks) c (length-take-le c ks (omega arith))

pub above_has : (r : ℕ) (ks : List ℕ) (x : ℕ) → r < length ks → has (above r ks) x ≡ true → (x ≡ get_or ks r 0) ⊎ (has (above (suc r) ks) x ≡ true)
unfolding above
above_has r ks x h e = has_cons (get_or ks r 0) (drop (suc r) ks) x (rw (drop-cons ks r 0 h) at e)

pub above_all : (ks : List ℕ) → above 0 ks ≡ ks
unfolding above
above_all ks = refl

pub above_none : (ks : List ℕ) → above (length ks) ks ≡ []
unfolding above
above_none ks = drop-length ks

pub above_cons : (r : ℕ) (ks : List ℕ) → r < length ks → above r ks ≡ get_or ks r 0 ∷ above (suc r) ks
unfolding above
above_cons r ks h = drop-cons ks r 0 h

-- what is above is a row that begins with its first
pub above_row : (n r : ℕ) (ks : List ℕ) → r < length ks → some_of n ks ≡ true → Row (suc (get_or ks r 0)) n (above (suc r) ks)
unfolding above
above_row n r ks h e =
    let w : Row 0 n (get_or ks r 0 ∷ drop (suc r) ks) = subst (λ (l : List ℕ). Row 0 n l) (drop-cons ks r 0 h) (row_drop r 0 n ks (row_from n ks e)) in w.2

pub above_above : (a b : ℕ) (ks : List ℕ) (y : ℕ) → a ≤ b → has (above b ks) y ≡ true → has (above a ks) y ≡ true
unfolding above
above_above a b ks y h e = has_drop (b - a) (drop a ks) y (rw (drop-drop (b - a) a ks, let same : a + (b - a) ≡ b = omega arith in same) e)
