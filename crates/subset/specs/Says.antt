-- What the functions on rows answer, and what a row holds afterwards. Assumes nothing: these are definitions.
use Rattle.std.specs.Prelude.{◌≡◌, ℕ, ◌+◌, ◌*◌, Bool, true, false, ◌&&◌, List, [], ◌∷◌, ◌++◌, length, take, drop, Some, None, Option, Ok, Err, Result, nat_le, nat_lt}
use Rattle.subset.specs.Row.{members, words_of}
use Rattle.subset.specs.declared.RowError.{RowError}
use Rattle.subset.specs.declared.RowError.TheVariants.{TooLong}

-- a row has at most 64 words
abbrev pub few : List ℕ → Bool
few ws = nat_le (length ws) 64

-- a row has a word for part p
abbrev pub placed : List ℕ → ℕ → Bool
placed ws p = nat_lt p (64 * length ws)

-- an answer where a test holds, and an error where it does not
abbrev pub given : {A : Type 0} → Bool → RowError → Result A RowError → Result A RowError
given true e r = r
given false e r = Err e

-- the n words ws are just those of ks, and ks is what they tell
pub record Holds (ws : List ℕ) (n : ℕ) (ks : List ℕ) : Type 0 where
  pub row : ws ≡ words_of n ks
  pub left : members ws ≡ ks

-- the row ws became the row of ks; or, refused, is as it was
abbrev pub After : Bool → (ws ks ws₁ : List ℕ) → Type 0
After true ws ks ws₁ = Holds ws₁ (length ws) ks
After false ws ks ws₁ = ws₁ ≡ ws

-- how many members there are
abbrev pub counted : Bool → List ℕ → Option ℕ
counted true ks = Some (length ks)
counted false ks = None

-- room for the members in a lent row
abbrev pub room : (ws out : List ℕ) → Bool
room ws out = few ws && nat_le (length (members ws)) (length out)

-- the members in the lent row, and what lies behind them as it was
abbrev pub Told : Bool → (ks out : List ℕ) → Option ℕ → (out₁ : List ℕ) → Type 0
Told true ks out r out₁ = (r ≡ Some (length ks)) × (out₁ ≡ ks ++ drop (length ks) out)
Told false ks out r out₁ = (r ≡ None) × (out₁ ≡ out)

-- the first of some members, if there is one; of a row with too many words nothing is told
abbrev pub found : Bool → List ℕ → Result (Option ℕ) RowError
found true [] = Ok None
found true (k ∷ ks) = Ok (Some k)
found false ks = Err TooLong

-- ys written into out from place n on
abbrev pub laid : (out : List ℕ) (n : ℕ) (ys : List ℕ) → List ℕ
laid out n ys = take n out ++ (ys ++ drop (n + length ys) out)
