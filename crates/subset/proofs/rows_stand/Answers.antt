use Rattle.subset.proofs.Stands.{told_back, known_by_members, same_by_members, words_small, members_rise, subsets_stay, taken_out, equal_same, changes}
use Rattle.subset.proofs.rows_stand.Goals as goal

pub returns : goal.returns
returns c =
    record {
      back = told_back;
      known = known_by_members;
      same = same_by_members;
      small = words_small;
      rise = members_rise;
      stay = subsets_stay;
      out = taken_out;
      equal = equal_same;
      changes = changes;
    }
