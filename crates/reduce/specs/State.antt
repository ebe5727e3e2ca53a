-- Where the machine stands, and how an answer moves it on. Assumes nothing: these are definitions.
use Rattle.std.specs.Prelude.{ℕ, suc, Bool, true, false, cond, List, length, ◌==◌, nat_le, nat_lt, slice_index}
use Rattle.subset.specs.Parts.{all_parts, without}
use Rattle.bisect.specs.Engine.{Act, ask, left, sound, refused}
use Rattle.bisect.specs.Machine.{Machine}
use Rattle.bisect.specs.Search.{Pass, fresh, cut_of, question, answered}

pub data State : Type 0 where
  -- nothing is asked
  idle : State
  -- it asked of all of these
  first : List ℕ → State
  -- a pass goes on, and asked at its cut
  seek : Pass → State
  -- these fail, and none of the first i can be left out; it asked of them without the i-th
  try : ℕ → List ℕ → State
  -- it told that these are left; that all together don't fail; that there are too many
  over : List ℕ → State
  calm : State
  many : State

-- without the i-th
abbrev pub less : ℕ → List ℕ → List ℕ
less i ks = without (slice_index ks i) ks

-- the i-th is tried out, or, past the last, all are needed
unfoldable pub trial : ℕ → List ℕ → State
trial i ks = cond (nat_lt i (length ks)) (try i ks) (over ks)

-- on with the pass, or, where its row is empty, to the trials of what isn't sure
unfoldable pub go_on : Pass → State
go_on p = cond (nat_lt 0 p.at.row) (seek p) (trial p.at.sure p.held)

-- after an answer: whether what was asked fails; a pass is cut by `cuts`
unfoldable pub next_by : (cuts : Pass → ℕ) → State → Bool → State
next_by cuts idle b = idle
next_by cuts (first ks) true = go_on (fresh ks)
next_by cuts (first ks) false = calm
next_by cuts (seek p) b = go_on (answered (cuts p) p b)
next_by cuts (try i ks) true = go_on (fresh (less i ks))
next_by cuts (try i ks) false = trial (suc i) ks
next_by cuts (over ks) b = idle
next_by cuts calm b = idle
next_by cuts many b = idle

abbrev pub next : State → Bool → State
next = next_by cut_of

unfoldable pub begin : ℕ → State
begin n = cond (nat_le n 4096) (first (all_parts n)) many

unfoldable pub act_by : (cuts : Pass → ℕ) → State → Act
act_by cuts idle = refused
act_by cuts (first ks) = ask ks
act_by cuts (seek p) = ask (question (cuts p) p)
act_by cuts (try i ks) = ask (less i ks)
act_by cuts (over ks) = left ks
act_by cuts calm = sound
act_by cuts many = refused

abbrev pub act_of : State → Act
act_of = act_by cut_of

abbrev pub reducing_by : (cuts : Pass → ℕ) → Machine State Bool
reducing_by cuts = record { begin = begin; reads = λ v. (v == 1); next = next_by cuts; act = act_by cuts }

-- with the cuts that are made
abbrev pub reducing : Machine State Bool
reducing = reducing_by cut_of
