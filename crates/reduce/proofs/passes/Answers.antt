use Rattle.std.proofs.Common.{◌≡◌, ◌<◌, true, length, sym, ap, ◌∙◌, subst, arith}
use Rattle.subset.proofs.Words.{members_le}
use Rattle.bisect.specs.Search.{place}
use Rattle.bisect.specs.Stand.{placed}
use Rattle.bisect.specs.declared.Search.{Search}
use Rattle.bisect.proofs.Asking.{true_placed}
use Rattle.reduce.specs.Own.{row, held}
use Rattle.reduce.proofs.Stored.{row_length}
use Rattle.reduce.proofs.passes.Goals as goal

pub seeks-requires : goal.seeks-requires
seeks-requires c =
    let m = c.args.memory.now in
    let begun : c.fresh-at.result ≡ place 0 (length (held m)) (length (held m)) 0 0 = c.fresh-at.ensures ∙ ap (λ n. place 0 n n 0 0) c.count.ensures in
    subst (λ (s : Search). 0 < s.row → placed s (length (held m)) 4096 ≡ true) (sym begun) (λ h.
    true_placed (place 0 (length (held m)) (length (held m)) 0 0) (length (held m)) 4096 (record {
      most = omega arith;
      ahead = h;
      inside = omega arith;
      fewer = omega arith;
      old = omega (arith, members_le (row m), row_length m c.told-memory);
    }))
