-- The keys so far, and those of the rest.
use Rattle.std.proofs.Common.{◌≡◌, ◌++◌, drop}
use Rattle.ax_rows.specs.SortKeys.{keys_of}
use Rattle.ax_rows.proofs.ranked.keys_of.Given as goal

abbrev pub invariant-loop-order : goal.invariant-loop-order
invariant-loop-order l =
    l.keys.items ++ keys_of (drop l.order-index l.orders) l.rest ≡ keys_of l.orders l.fn.values
