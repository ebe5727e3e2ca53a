-- Lists, whatever they hold.
use Rattle.std.proofs.Common.{arith, ◌≡◌, ℕ, suc, ◌+◌, Bool, true, false, List, [], ◌∷◌, ◌++◌, length, get_or, filter, All, ◌==◌, ◌∙◌, ap, refl}
use Rattle.std.specs.List.{enumerate_from, list_any}
use Rattle.std.proofs.lemmas.Bool.{both_ways, cond-true, false_from_ne_true}
use Rattle.std.proofs.lemmas.List.Elements.{All-head, All-tail}
use Rattle.std.proofs.lemmas.List.Folds.{list_any_at}

abbrev pub Differs : (c b : ℕ) → Type 0
Differs c b = (b == c) ≡ false

-- no byte is c
abbrev pub Lacks : ℕ → List ℕ → Type 0
Lacks c bs = All (Differs c) bs

pub Lacks-from_any : (c : ℕ) (bs : List ℕ) → list_any (λ b. b == c) bs ≡ false → Lacks c bs
Lacks-from_any c bs none k d low = false_from_ne_true (get_or bs k d == c) (λ found. both_ways _ none (list_any_at (λ b. b == c) bs k d low found))

pub filter_all : {X : Type 0} (p : X → Bool) (xs : List X) → All (λ x. p x ≡ true) xs → filter p xs ≡ xs
filter_all p [] all = refl
filter_all p (x ∷ xs) all = cond-true _ _ _ (All-head (λ y. p y ≡ true) x xs all) ∙ ap (λ ys. x ∷ ys) (filter_all p xs (All-tail (λ y. p y ≡ true) x xs all))

pub enumerate_from-append : {X : Type 0} (i : ℕ) (xs ys : List X) → enumerate_from i (xs ++ ys) ≡ enumerate_from i xs ++ enumerate_from (i + length xs) ys
enumerate_from-append i [] ys = let same : i ≡ i + 0 = omega arith in ap (λ k. enumerate_from k ys) same
enumerate_from-append i (x ∷ xs) ys =
    let same : i + 1 + length xs ≡ i + suc (length xs) = omega arith in
    ap (λ es. (i, x) ∷ es) (enumerate_from-append (i + 1) xs ys ∙ ap (λ k. enumerate_from (i + 1) xs ++ enumerate_from k ys) same)
