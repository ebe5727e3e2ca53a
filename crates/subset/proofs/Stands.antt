-- The statements of specs/Laws, proved.
use Rattle.std.proofs.Common.{◌≡◌, ℕ, true, not, ◌||◌, eqb, List, length, sym, refl, subst, arith}
use Rattle.std.proofs.lemmas.Bool.{and_parts, and_from}
use Rattle.subset.specs.Parts.{same, has}
use Rattle.subset.specs.Row.{words_of, alike}
use Rattle.subset.specs.Laws.{ToldBack, KnownByMembers, SameMembers, WordsSmall, MembersRise, SubsetsStay, TakenOut, EqualSame, Changes}
use Rattle.subset.proofs.Lists.{row_from, every_has, has_every, length_all}
use Rattle.subset.proofs.Order.{same_is, same_members}
use Rattle.subset.proofs.Changes.{bool_ext, has_all, has_with, has_without, has_joined, has_take, has_drop, has_cut, some_of_all, some_of_with, some_of_cut, some_of_those, some_of_upto}
use Rattle.subset.proofs.Words.{small_from, small_to, some_of_members, members_le, length_words, small_words, words_none, members_words, words_members}
use Rattle.subset.proofs.Words as words

pub told_back : ToldBack
unfolding ToldBack
told_back n ks s = members_words n ks s

pub known_by_members : KnownByMembers
unfolding KnownByMembers
known_by_members ws h = words_members ws (length ws) refl (small_from ws h)

pub same_by_members : SameMembers
unfolding SameMembers
same_by_members vs ws e sv sw h = words.same_members vs ws e (small_from vs sv) (small_from ws sw) h

pub words_small : WordsSmall
unfolding WordsSmall
words_small n ks = (length_words n ks, small_to (words_of n ks) (small_words n ks), words_none n)

pub members_rise : MembersRise
unfolding MembersRise
members_rise ws = (some_of_members ws (length ws) refl, members_le ws)

pub subsets_stay : SubsetsStay
unfolding SubsetsStay
subsets_stay = (
  λ n m h. (some_of_all n m h, length_all n),
  some_of_with,
  some_of_cut,
  λ n ks js. some_of_upto (λ p. has ks p || has js p) n n (omega arith),
)

pub taken_out : TakenOut
unfolding TakenOut
taken_out n p ks s = (some_of_those n (λ j. not (eqb j p)) ks s, λ q. has_without p q ks)

pub equal_same : EqualSame
unfolding EqualSame
equal_same n ks js sk sj =
    bool_ext (alike ks js) (same ks js)
    (λ h. same_members 0 n ks js (row_from n ks sk) (row_from n js sj) (λ x g. has_every (has js) ks x (and_parts _ _ h).0 g) (λ x g. has_every (has ks) js x (and_parts _ _ h).1 g))
    (λ h. let e = same_is ks js h in
    and_from _ _ (every_has (has js) ks (λ x g. subst (λ (l : List ℕ). has l x ≡ true) e g)) (every_has (has ks) js (λ x g. subst (λ (l : List ℕ). has l x ≡ true) (sym e) g)))

pub changes : Changes
unfolding Changes
changes = (
  has_all,
  has_with,
  has_joined,
  λ n k q ks s. has_take 0 n k q ks (row_from n ks s),
  λ n k q ks s. has_drop 0 n k q ks (row_from n ks s),
  λ n a b q ks h s. has_cut n a b q ks s,
)
