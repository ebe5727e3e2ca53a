-- The memory's two parts, the header and the words, and what a write to either leaves.
use Rattle.std.proofs.Common.{◌≡◌, ℕ, suc, ◌+◌, ◌*◌, ◌^◌, ◌<◌, Bool, true, List, [], ◌∷◌, length, get_or, set, sym, refl, ap, ◌∙◌, subst, arith}
use borrow.Rule.Slice.PartMut.{put_mid}
use Rattle.std.proofs.lemmas.List.{take_all}
use Rattle.std.proofs.lemmas.Slice.{between-put_mid}
use Rattle.subset.specs.Row.{members, cut_out, words_of}
use Rattle.subset.specs.Says.{After, Holds, room}
use Rattle.subset.proofs.Lists.{row_from, without_at}
use Rattle.subset.proofs.Words.{length_words, words_members, some_of_members}
use Rattle.bisect.specs.Stand.{noted}
use Rattle.bisect.proofs.Asking.{has_room}
use Rattle.bisect.specs.declared.Search.{Search}
use Rattle.reduce.specs.Own.{Header, row, headed, held, kept}
use Rattle.reduce.specs.State.{less}
use Rattle.reduce.proofs.Stored.{row_length}

pub row_put : (m ys : List ℕ) → length m ≡ 72 → length ys ≡ 64 → row (put_mid 8 64 m ys) ≡ ys
row_put m ys h k = between-put_mid 8 64 m ys 72 (omega arith) k

-- the eight writes of a header; words of 64 bits are those of what they tell
pub header_kept : (h : Header) (s : Search) (m : List ℕ) → length m ≡ 72 → ((i : ℕ) → get_or m i 0 < 2 ^ 64)
    → noted s (set (set (set m 0 h.phase) 1 h.size) 4 h.index) ≡ kept h s (held m)
header_kept h s [] l small = absurd (omega arith)
header_kept h s (a ∷ []) l small = absurd (omega arith)
header_kept h s (a ∷ b ∷ []) l small = absurd (omega arith)
header_kept h s (a ∷ b ∷ c ∷ []) l small = absurd (omega arith)
header_kept h s (a ∷ b ∷ c ∷ d ∷ []) l small = absurd (omega arith)
header_kept h s (a ∷ b ∷ c ∷ d ∷ e ∷ []) l small = absurd (omega arith)
header_kept h s (a ∷ b ∷ c ∷ d ∷ e ∷ f ∷ []) l small = absurd (omega arith)
header_kept h s (a ∷ b ∷ c ∷ d ∷ e ∷ f ∷ g ∷ []) l small = absurd (omega arith)
header_kept h s (a ∷ b ∷ c ∷ d ∷ e ∷ f ∷ g ∷ i ∷ ws) l small =
    ap (headed h s) (sym (words_members ws 64 (omega arith) (λ j. small (suc (suc (suc (suc (suc (suc (suc (suc j)))))))))))
    ∙ ap (λ v. headed h s (words_of 64 (members v))) (sym (take_all 64 ws (omega arith)))

-- ---- what the functions on rows say of 64 words
-- all that the words tell has room
pub row_room : (m out : List ℕ) → length m ≡ 72 → length out ≡ 4096 → room (row m) out ≡ true
row_room m out h k = has_room (row m) out (omega (arith, row_length m h)) (omega arith)

-- what a change of the words leaves is held
pub held_put : (b : Bool) (m ys ks : List ℕ) → length m ≡ 72 → b ≡ true → After b (row m) ks ys → held (put_mid 8 64 m ys) ≡ ks
held_put b m ys ks h e a =
    let w : Holds ys (length (row m)) ks = subst (λ (c : Bool). After c (row m) ks ys) e a in
    ap members (row_put m ys h (ap length w.row ∙ length_words (length (row m)) ks ∙ row_length m h)) ∙ w.left

-- cutting out one rank is leaving one out
pub cut_one : (ws : List ℕ) (i : ℕ) → i < length (members ws) → cut_out i (i + 1) (members ws) ≡ less i (members ws)
cut_one ws i h =
    ap (λ k. cut_out i k (members ws)) (let z : i + 1 ≡ suc i = omega arith in z)
    ∙ sym (without_at 0 (64 * length ws) (members ws) i h (row_from (64 * length ws) (members ws) (some_of_members ws (length ws) refl)))
