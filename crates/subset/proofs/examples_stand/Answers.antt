use Rattle.std.proofs.Common.{refl}
use Rattle.subset.specs.Parts.{same, all_parts, rising}
use Rattle.subset.specs.Row.{digit, bit, members, number, word_by, words_by, words_of}
use Rattle.subset.specs.Laws.{all_small}
use Rattle.subset.specs.Examples.{PartsExamples, RowExamples, Examples}
use Rattle.subset.proofs.examples_stand.Goals as goal

of_parts : PartsExamples
unfolding same all_parts rising
of_parts =
    record {
      all = refl;
      rises = refl;
      evenly = refl;
      falls = refl;
      some = refl;
      above = refl;
      unordered = refl;
      out = refl;
      there = refl;
      absent = refl;
      inside = refl;
      outside = refl;
      equal = refl;
      other = refl;
      longer = refl;
      shorter = refl;
    }

of_rows : RowExamples
unfolding all_parts digit bit members number word_by words_by words_of all_small
of_rows =
    record {
      told = refl;
      row = refl;
      put_in = refl;
      put_again = refl;
      cut = refl;
      either = refl;
      before = refl;
      middle = refl;
      alike_more = refl;
      alike_fewer = refl;
      largest = refl;
      too_large = refl;
    }

pub returns : goal.returns
unfolding Examples
returns c = (of_parts, of_rows)
