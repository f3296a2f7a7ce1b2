use Rattle.std.proofs.Common.{◌≡◌, ◌++◌}
use Rattle.std.specs.Vec.Iter.{into_iter_items}
use Rattle.ax_keep.specs.Net.{net}
use Rattle.ax_keep.proofs.netting.netted.Given as goal

abbrev pub invariant-loop-pair : goal.invariant-loop-pair
invariant-loop-pair l = record {
  next : (goal.iterator-loop-pair).can_next l.pair-iterator;
  finite : (goal.iterator-loop-pair).is_finite l.pair-iterator;
  made : l.changes.items ++ net (into_iter_items l.pair-iterator) l.left.items ≡ net l.fn.old.items l.fn.new.items;
}
