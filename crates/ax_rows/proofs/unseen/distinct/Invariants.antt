-- The rows kept so far, and those of the rest whose texts the set does not have.
use Rattle.std.proofs.Common.{◌≡◌, ◌++◌, false}
use Rattle.std.specs.BTreeSet.{contains}
use Rattle.std.specs.Cmp.Lexicographic.{slice_cmp}
use Rattle.std.specs.Ordering.{nat_cmp}
use Rattle.std.specs.Vec.Iter.{into_iter_items}
use Rattle.ax_mean.specs.Answer.{unseen}
use Rattle.ax_rows.proofs.unseen.distinct.Given as goal

abbrev pub invariant-loop-row : goal.invariant-loop-row
invariant-loop-row l = record {
  next : (goal.iterator-loop-row).can_next l.row-iterator;
  finite : (goal.iterator-loop-row).is_finite l.row-iterator;
  made : l.kept.items
      ++ unseen (λ text. contains (slice_cmp nat_cmp) l.seen text) (into_iter_items l.row-iterator)
      ≡ unseen (λ text. false) l.fn.rows.items;
}
