-- One pass over a subset that fails: where its row is cut, and what an answer changes. Assumes nothing: these are definitions.
use Rattle.std.specs.Prelude.{ℕ, zero, suc, ◌+◌, ◌-◌, ◌*◌, ◌/◌, Bool, true, false, cond, ◌&&◌, List, length, ◌==◌, nat_le, nat_lt}
use Rattle.subset.specs.Row.{cut_out}
use Rattle.bisect.specs.declared.Search.{Search}

-- the first c of the row, and what is needed: all from the row's end on
unfoldable pub keep : (c row : ℕ) → List ℕ → List ℕ
keep c row ks = cut_out c row ks

-- ---- the cut
-- the middle
abbrev pub halved : (lo row : ℕ) → ℕ
halved lo row = lo + (row - lo - 1) / 2

-- as many of the row's last as hold the next needed part with about even chance, if it is as dense there as it was so far
abbrev pub guess : (row begun found : ℕ) → ℕ
guess row begun found = cond (nat_lt (7 * (begun - row) / (10 * found)) 1) 1 (7 * (begun - row) / (10 * found))

-- the row without its last g, or, where these are a quarter of it or more, without any
abbrev pub shorn : (row g : ℕ) → ℕ
shorn row g = cond (nat_le row (4 * g)) 0 (row - g)

-- guesses are made at a fresh row, and only from what halving would have cost at worst
abbrev pub credit : (lo row spent found : ℕ) → Bool
credit lo row spent found = lo == 0 && (nat_lt 0 found && (nat_lt 4 row && nat_le spent (13 * found)))

abbrev pub cut : (lo row begun spent found : ℕ) → ℕ
cut lo row begun spent found = cond (credit lo row spent found) (shorn row (guess row begun found)) (halved lo row)

-- ---- the numbers
abbrev pub place : (lo row begun spent sure : ℕ) → Search
place lo row begun spent sure = record { lo = lo; row = row; begun = begun; spent = spent; sure = sure }

-- the row's last is needed, if there is one
abbrev pub fall : ℕ → Search → Search
fall zero s = s
fall (suc row) s = place 0 row s.begun s.spent (suc s.sure)

-- where nothing of the row is left to ask of, its last is found
abbrev pub settled : Search → Search
settled s = cond (nat_lt s.lo s.row) s (fall s.row s)

-- after the answer about the first c of the row with what is needed: whether that fails
abbrev pub heard : ℕ → Search → Bool → Search
heard c s true = settled (place s.lo c s.begun (suc s.spent) 0)
heard c s false = settled (place (suc c) s.row s.begun (suc s.spent) s.sure)

-- ---- the pass: where it stands, and the subset that it holds, which fails
pub record Pass : Type 0 where
  pub at : Search
  pub held : List ℕ

abbrev pub pass : Search → List ℕ → Pass
pass s ks = record { at = s; held = ks }

-- it begins with all of ks in the row
abbrev pub fresh : List ℕ → Pass
fresh ks = pass (place 0 (length ks) (length ks) 0 0) ks

abbrev pub cut_of : Pass → ℕ
cut_of p = cut p.at.lo p.at.row p.at.begun p.at.spent (length p.held - p.at.row)

-- what is asked at a cut
abbrev pub question : ℕ → Pass → List ℕ
question c p = keep c p.at.row p.held

abbrev pub answered : ℕ → Pass → Bool → Pass
answered c p b = pass (heard c p.at b) (cond b (question c p) p.held)
