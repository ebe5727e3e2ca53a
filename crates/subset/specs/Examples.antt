-- Worked examples of the words of rows: each equation is computed. Assumes nothing: these are definitions.
use Rattle.std.specs.Prelude.{◌≡◌, true, false, [], ◌∷◌}
use Rattle.subset.specs.Parts.{same, all_parts, rising, some_of, without, has, within}
use Rattle.subset.specs.Row.{members, words_of, with_part, cut_out, joined, rank, half, alike}
use Rattle.subset.specs.Laws.{all_small}

-- parts and subsets
pub record PartsExamples : Type 0 where
  pub all : all_parts 3 ≡ 0 ∷ 1 ∷ 2 ∷ []
  pub rises : rising (0 ∷ 2 ∷ 5 ∷ []) ≡ true
  pub evenly : rising (0 ∷ 2 ∷ 2 ∷ []) ≡ false
  pub falls : rising (0 ∷ 2 ∷ 1 ∷ []) ≡ false
  pub some : some_of 3 (0 ∷ 2 ∷ []) ≡ true
  pub above : some_of 2 (0 ∷ 2 ∷ []) ≡ false
  pub unordered : some_of 3 (2 ∷ 0 ∷ []) ≡ false
  pub out : without 2 (0 ∷ 2 ∷ 3 ∷ []) ≡ 0 ∷ 3 ∷ []
  pub there : has (0 ∷ 2 ∷ []) 2 ≡ true
  pub absent : has (0 ∷ 2 ∷ []) 1 ≡ false
  pub inside : within (2 ∷ []) (0 ∷ 2 ∷ []) ≡ true
  pub outside : within (0 ∷ 2 ∷ []) (2 ∷ []) ≡ false
  pub equal : same (0 ∷ 2 ∷ []) (0 ∷ 2 ∷ []) ≡ true
  pub other : same (0 ∷ 2 ∷ []) (0 ∷ 3 ∷ []) ≡ false
  pub longer : same (0 ∷ 2 ∷ []) (0 ∷ []) ≡ false
  pub shorter : same (0 ∷ []) (0 ∷ 2 ∷ []) ≡ false

-- rows of words
pub record RowExamples : Type 0 where
  pub told : members (5 ∷ 2 ∷ []) ≡ 0 ∷ 2 ∷ 65 ∷ []
  pub row : words_of 2 (0 ∷ 2 ∷ 65 ∷ []) ≡ 5 ∷ 2 ∷ []
  pub put_in : with_part 1 (0 ∷ 2 ∷ []) ≡ 0 ∷ 1 ∷ 2 ∷ []
  pub put_again : with_part 2 (0 ∷ 2 ∷ []) ≡ 0 ∷ 2 ∷ []
  pub cut : cut_out 1 3 (0 ∷ 1 ∷ 2 ∷ 3 ∷ []) ≡ 0 ∷ 3 ∷ []
  pub either : joined 4 (0 ∷ 5 ∷ []) (2 ∷ []) ≡ 0 ∷ 2 ∷ []
  pub before : rank (0 ∷ 2 ∷ 5 ∷ []) 5 ≡ 2
  pub middle : half (0 ∷ 1 ∷ 2 ∷ 3 ∷ 4 ∷ []) ≡ 2
  pub alike_more : alike (0 ∷ []) (0 ∷ 2 ∷ []) ≡ false
  pub alike_fewer : alike (0 ∷ 2 ∷ []) (0 ∷ []) ≡ false
  pub largest : all_small (18446744073709551615 ∷ []) ≡ true
  pub too_large : all_small (0 ∷ 18446744073709551616 ∷ []) ≡ false

unfoldable pub Examples : Type 0
Examples = PartsExamples × RowExamples
