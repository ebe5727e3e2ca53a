-- What holds of rows, as statements. Assumes nothing: these are definitions.
use Rattle.std.specs.Prelude.{◌≡◌, ℕ, ◌*◌, ◌<◌, ◌≤◌, Bool, true, not, ◌&&◌, ◌||◌, ltb, List, [], length, take, drop, replicate, ◌==◌, nat_le, nat_lt}
use Rattle.std.specs.List.{list_all}
use Rattle.subset.specs.Parts.{same, all_parts, some_of, without, has}
use Rattle.subset.specs.Row.{members, words_of, with_part, cut_out, joined, rank, alike}

-- every number has 64 bits
unfoldable pub all_small : List ℕ → Bool
all_small ws = list_all (λ w. ltb w 18446744073709551616) ws

-- a subset of 64 * n parts is told by its n words
unfoldable pub ToldBack : Type 0
ToldBack = (n : ℕ) (ks : List ℕ) → some_of (64 * n) ks ≡ true → members (words_of n ks) ≡ ks

-- words are those of what they tell
unfoldable pub KnownByMembers : Type 0
KnownByMembers = (ws : List ℕ) → all_small ws ≡ true → words_of (length ws) (members ws) ≡ ws

-- rows of one length with the same members are equal
unfoldable pub SameMembers : Type 0
SameMembers = (vs ws : List ℕ) → length vs ≡ length ws → all_small vs ≡ true → all_small ws ≡ true → members vs ≡ members ws → vs ≡ ws

-- the encoding has n words of 64 bits, all 0 for no members
unfoldable pub WordsSmall : Type 0
WordsSmall = (n : ℕ) (ks : List ℕ) → (length (words_of n ks) ≡ n) × (all_small (words_of n ks) ≡ true) × (words_of n [] ≡ replicate n 0)

-- members rise, and there are at most 64 to a word
unfoldable pub MembersRise : Type 0
MembersRise = (ws : List ℕ) → (some_of (64 * length ws) (members ws) ≡ true) × (length (members ws) ≤ 64 * length ws)

-- what is left or put together is a subset again
unfoldable pub SubsetsStay : Type 0
SubsetsStay =
    ((n m : ℕ) → n ≤ m → (some_of m (all_parts n) ≡ true) × (length (all_parts n) ≡ n))
    × ((n p : ℕ) (ks : List ℕ) → p < n → some_of n ks ≡ true → some_of n (with_part p ks) ≡ true)
    × ((n a b : ℕ) (ks : List ℕ) → a ≤ b → some_of n ks ≡ true → some_of n (cut_out a b ks) ≡ true)
    × ((n : ℕ) (ks js : List ℕ) → some_of n (joined n ks js) ≡ true)

-- taking one out leaves the others in their order, takes that one away and no other
unfoldable pub TakenOut : Type 0
TakenOut =
    (n p : ℕ) (ks : List ℕ) → some_of n ks ≡ true →
    (some_of n (without p ks) ≡ true) × ((q : ℕ) → has (without p ks) q ≡ (has ks q && not (q == p)))

-- subsets of which each is within the other are the same
unfoldable pub EqualSame : Type 0
EqualSame = (n : ℕ) (ks js : List ℕ) → some_of n ks ≡ true → some_of n js ≡ true → alike ks js ≡ same ks js

-- what each change does to the test of a part
unfoldable pub Changes : Type 0
Changes =
    ((n q : ℕ) → has (all_parts n) q ≡ nat_lt q n)
    × ((p q : ℕ) (ks : List ℕ) → has (with_part p ks) q ≡ (q == p || has ks q))
    × ((n q : ℕ) (ks js : List ℕ) → has (joined n ks js) q ≡ (nat_lt q n && (has ks q || has js q)))
    × ((n k q : ℕ) (ks : List ℕ) → some_of n ks ≡ true → has (take k ks) q ≡ (has ks q && nat_lt (rank ks q) k))
    × ((n k q : ℕ) (ks : List ℕ) → some_of n ks ≡ true → has (drop k ks) q ≡ (has ks q && nat_le k (rank ks q)))
    × ((n a b q : ℕ) (ks : List ℕ) → a ≤ b → some_of n ks ≡ true → has (cut_out a b ks) q ≡ (has ks q && (nat_lt (rank ks q) a || nat_le b (rank ks q))))
