-- Members cut out by rank, word by word.
use Rattle.std.proofs.Common.{◌≡◌, ℕ, ◌+◌, ◌-◌, ◌*◌, ◌/◌, ◌%◌, ◌^◌, ◌<◌, ◌≤◌, Bool, true, false, not, ◌&&◌, ◌||◌, ltb, leb, ◌⊎◌, List, [], ◌∷◌, ◌++◌, map, length, get_or, take, drop, set, sym, refl, ap, ◌∙◌, subst, ap₂, inl, inr, append-nil, arith, length-append, get_or-set_other, get_or-set_same}
use Rattle.std.specs.List.{filter}
use lib.Bits.{bit_and, bit_or}
use lib.ListN.{length-map}
use Rattle.std.proofs.lemmas.List.{drop_all}
use Rattle.std.proofs.lemmas.Bool.{lt-ltb, le-ltb, le-leb, lt-leb, leb-true, cases_lt, cases_eq}
use Rattle.subset.specs.Parts.{some_of, has}
use Rattle.subset.specs.Row.{digit, bit, members, cut_out, rank}
use Rattle.subset.specs.Says.{Holds, After, few}
use Rattle.subset.proofs.Lists.{row_from}
use Rattle.subset.proofs.Order.{subsets_same}
use Rattle.subset.proofs.Changes.{upto, has_upto, has_filtered, has_drop, has_cut, some_of_upto, some_of_those, some_of_cut}
use Rattle.subset.proofs.Digits.{digit_and, digit_or, digit_turned}
use Rattle.subset.proofs.Words.{Small, has_members, some_of_members, members_le, bit_past, small_set, holds}
use Rattle.subset.proofs.Blocks.{upto_add, bit_block, told_word}
use Rattle.subset.proofs.Lowest.{has_word}

-- how many members come before a place
rank_upto : (f : ℕ → Bool) (n p : ℕ) → p ≤ n → rank (upto f n) p ≡ length (upto f p)
rank_upto f n p h =
    ap length (subsets_same n (filter (λ j. ltb j p) (upto f n)) (upto f p) (some_of_those n (λ j. ltb j p) (upto f n) (some_of_upto f n n (omega arith)))
    (some_of_upto f p n h) (λ q. has_filtered (λ j. ltb j p) (upto f n) q ∙ ap (λ b. b && ltb q p) (has_upto f n q) ∙ go q (cases_lt q p) ∙ sym (has_upto f p q)))
  where
    go : (q : ℕ) → (q < p) ⊎ (p ≤ q) → ((ltb q n && f q) && ltb q p) ≡ (ltb q p && f q)
    go q (inl l) = rw (lt-ltb q p l, lt-ltb q n (omega arith)) (elim (f q) as (λ t. (t && true) ≡ t) [ true ↦ refl | false ↦ refl ])
    go q (inr l) = rw (le-ltb q p l) (elim (ltb q n && f q) as (λ t. (t && false) ≡ false) [ true ↦ refl | false ↦ refl ])

pub rank_members : (ws : List ℕ) (p : ℕ) → p ≤ 64 * length ws → rank (members ws) p ≡ length (upto (bit ws) p)
unfolding members
rank_members ws p h = rank_upto (bit ws) (64 * length ws) p h

-- those before word i, and those before the place in it
pub rank_block : (ws : List ℕ) (i b : ℕ) → i < length ws → b < 64 → rank (members ws) (64 * i + b) ≡ length (upto (bit ws) (64 * i)) + rank (members (get_or ws i 0 ∷ [])) b
rank_block ws i b h l =
    rank_members ws (64 * i + b) (omega arith)
    ∙ ap length (upto_add (bit ws) (bit (get_or ws i 0 ∷ [])) (64 * i) b (λ c m. bit_block ws i c (omega arith)))
    ∙ length-append (upto (bit ws) (64 * i)) (map (λ c. 64 * i + c) (upto (bit (get_or ws i 0 ∷ [])) b))
    ∙ ap (λ k. length (upto (bit ws) (64 * i)) + k)
    (length-map (upto (bit (get_or ws i 0 ∷ [])) b) (λ c. 64 * i + c) ∙ sym (rank_members (get_or ws i 0 ∷ []) b (omega arith)))

-- ---- one word
cut_bits : (h : Bool) (r from to : ℕ) → ((h && not (h && leb from r)) || (h && leb to r)) ≡ (h && (ltb r from || leb to r))
cut_bits false r from to = refl
cut_bits true r from to = ap (λ t. t || leb to r) (go (cases_lt r from))
  where
    go : (r < from) ⊎ (from ≤ r) → not (leb from r) ≡ ltb r from
    go (inl l) = ap not (lt-leb from r l) ∙ sym (lt-ltb r from l)
    go (inr l) = ap not (le-leb from r l) ∙ sym (le-ltb r from l)

pub word_cut : (w a b from to : ℕ) → a < 2 ^ 64 → from ≤ to → members (a ∷ []) ≡ drop from (members (w ∷ [])) → members (b ∷ []) ≡ drop to (members (w ∷ []))
    → members (bit_or (bit_and w (18446744073709551615 - a)) b ∷ []) ≡ cut_out from to (members (w ∷ []))
word_cut w a b from to small h ea eb =
    subsets_same 64 (members (v ∷ [])) (cut_out from to ks) (some_of_members (v ∷ []) 1 refl) (some_of_cut 64 from to ks h sub)
    (λ q. go q (cases_lt q 64) ∙ sym (has_cut 64 from to q ks sub))
  where
    v : ℕ
    v = bit_or (bit_and w (18446744073709551615 - a)) b

    ks : List ℕ
    ks = members (w ∷ [])

    sub : some_of 64 ks ≡ true
    sub = some_of_members (w ∷ []) 1 refl

    dropped : (c k q : ℕ) → q < 64 → members (c ∷ []) ≡ drop k ks → digit c q ≡ (has ks q && leb k (rank ks q))
    dropped c k q l e = sym (has_word c q l) ∙ ap (λ js. has js q) e ∙ has_drop 0 64 k q ks (row_from 64 ks sub)

    go : (q : ℕ) → (q < 64) ⊎ (64 ≤ q) → has (members (v ∷ [])) q ≡ (has ks q && (ltb (rank ks q) from || leb to (rank ks q)))
    go q (inl l) =
        has_word v q l ∙ digit_or (bit_and w (18446744073709551615 - a)) b q
        ∙ ap₂ ◌||◌ (digit_and w (18446744073709551615 - a) q
        ∙ ap₂ (λ x y. x && y) (sym (has_word w q l)) (digit_turned 64 a (18446744073709551615 - a) q (omega arith) l ∙ ap not (dropped a from q l ea)))
        (dropped b to q l eb)
        ∙ cut_bits (has ks q) (rank ks q) from to
    go q (inr l) =
        has_members (v ∷ []) q ∙ bit_past (v ∷ []) q l
        ∙ sym (ap (λ t. t && (ltb (rank ks q) from || leb to (rank ks q))) (has_members (w ∷ []) q ∙ bit_past (w ∷ []) q l))

-- ---- the words up to i are cut, and the others are as they were; `before` members came before word i
pub record Cutting (from to : ℕ) (ws₀ ws : List ℕ) (i before : ℕ) : Type 0 where
  pub small : Small ws
  pub count : before ≡ length (upto (bit ws₀) (64 * i))
  pub done : (p : ℕ) → p < 64 * i → bit ws p ≡ has (cut_out from to (members ws₀)) p
  pub rest : (k : ℕ) → i ≤ k → get_or ws k 0 ≡ get_or ws₀ k 0

pub cutting_none : (from to : ℕ) (ws : List ℕ) → Small ws → (before : ℕ) → before ≡ length (upto (bit ws) 0) → Cutting from to ws ws 0 before
cutting_none from to ws small before e = record { small = small; count = e; done = λ p l. absurd (omega arith); rest = λ k l. refl }

lowered : (r from to before : ℕ) → (ltb r (from - before) || leb (to - before) r) ≡ (ltb (before + r) from || leb to (before + r))
lowered r from to before = ap₂ ◌||◌ (go (cases_lt (before + r) from)) (on (cases_lt (before + r) to))
  where
    go : (before + r < from) ⊎ (from ≤ before + r) → ltb r (from - before) ≡ ltb (before + r) from
    go (inl l) = lt-ltb r (from - before) (omega arith) ∙ sym (lt-ltb (before + r) from l)
    go (inr l) = le-ltb r (from - before) (omega arith) ∙ sym (le-ltb (before + r) from l)

    on : (before + r < to) ⊎ (to ≤ before + r) → leb (to - before) r ≡ leb to (before + r)
    on (inl l) = lt-leb (to - before) r (omega arith) ∙ sym (lt-leb to (before + r) l)
    on (inr l) = le-leb (to - before) r (omega arith) ∙ sym (le-leb to (before + r) l)

module _ (from to : ℕ) (ws₀ ws : List ℕ) (i before v : ℕ) (t : Cutting from to ws₀ ws i before) (same : length ws ≡ length ws₀) (h : i < length ws) (small : v < 2 ^ 64)
    (is : members (v ∷ []) ≡ cut_out (from - before) (to - before) (members (get_or ws₀ i 0 ∷ []))) where
  abbrev w : ℕ
  w = get_or ws₀ i 0

  place : (b : ℕ) → b < 64 → digit v b ≡ has (cut_out from to (members ws₀)) (64 * i + b)
  place b l =
      sym (has_word v b l) ∙ ap (λ js. has js b) is ∙ has_cut 64 (from - before) (to - before) b (members (w ∷ [])) (some_of_members (w ∷ []) 1 refl)
      ∙ ap₂ ◌&&◌ (has_members (w ∷ []) b ∙ sym (bit_block ws₀ i b l) ∙ sym (has_members ws₀ (64 * i + b)))
      (lowered (rank (members (w ∷ [])) b) from to before ∙ ap (λ r. ltb r from || leb to r) (sym ranked))
      ∙ sym (has_cut (64 * length ws₀) from to (64 * i + b) (members ws₀) (some_of_members ws₀ (length ws₀) refl))
    where
      ranked : rank (members ws₀) (64 * i + b) ≡ before + rank (members (w ∷ [])) b
      ranked = rank_block ws₀ i b (omega arith) l ∙ ap (λ k. k + rank (members (w ∷ [])) b) (sym t.count)

  pub cutting_more : (next : ℕ) → next ≡ before + length (members (w ∷ [])) → Cutting from to ws₀ (set ws i v) (i + 1) next
  unfolding bit
  cutting_more next e =
      record {
        small = small_set ws i v t.small small;
        count = omega (arith, told_word ws₀ i, t.count);
        done = λ p l. go p l (cases_eq (p / 64) i);
        rest = λ k l. get_or-set_other ws i k v 0 (omega arith) ∙ t.rest k (omega arith);
      }
    where
      go : (p : ℕ) → p < 64 * (i + 1) → (p / 64 ≡ i) ⊎ (p / 64 ≡ i → ⊥) → bit (set ws i v) p ≡ has (cut_out from to (members ws₀)) p
      go p l (inl q) =
          ap (λ x. digit x (p % 64)) (ap (λ j. get_or (set ws i v) j 0) q ∙ get_or-set_same ws i v 0 h) ∙ place (p % 64) (omega arith)
          ∙ ap (has (cut_out from to (members ws₀))) (let z : 64 * i + p % 64 ≡ p = omega arith in z)
      go p l (inr d) = ap (λ x. digit x (p % 64)) (get_or-set_other ws i (p / 64) v 0 d) ∙ t.done p (omega arith)

pub cut_done : (from to : ℕ) (ws₀ ws : List ℕ) (i before : ℕ) → length ws ≡ length ws₀ → i ≡ length ws₀ → from ≤ to → Cutting from to ws₀ ws i before
    → Holds ws (length ws₀) (cut_out from to (members ws₀))
cut_done from to ws₀ ws i before e d h t =
    holds ws (cut_out from to (members ws₀)) (length ws₀) e t.small (some_of_cut (64 * length ws₀) from to (members ws₀) h (some_of_members ws₀ (length ws₀) refl))
    (λ p l. t.done p (omega arith))

-- behind all members nothing is cut
pub cut_rest : (ws : List ℕ) (count to : ℕ) → 64 * length ws ≤ to → cut_out count to (members ws) ≡ take count (members ws)
cut_rest ws count to h =
    ap (λ xs. take count (members ws) ++ xs) (drop_all to (members ws) (omega (arith, members_le ws))) ∙ append-nil (take count (members ws))

-- so a cut up to there keeps the first ones
pub kept : (ws ws₁ : List ℕ) (count to : ℕ) → count ≤ to → 4096 ≤ to → After (few ws && leb count to) ws (cut_out count to (members ws)) ws₁ → After (few ws) ws (take count (members ws)) ws₁
kept ws ws₁ count to h m a = go (few ws) refl (subst (λ (b : Bool). After (few ws && b) ws (cut_out count to (members ws)) ws₁) (le-leb count to h) a)
  where
    go : (b : Bool) → few ws ≡ b → After (b && true) ws (cut_out count to (members ws)) ws₁ → After b ws (take count (members ws)) ws₁
    go true e a = subst (λ (ks : List ℕ). Holds ws₁ (length ws) ks) (cut_rest ws count to (omega (arith, leb-true (length ws) 64 e))) a
    go false e a = a
