-- What a stable sort leaves is the insertion sort.
use Rattle.std.proofs.Common.{rules}
use Rattle.std.proofs.lemmas.Fn.{always_returns_same}
use Rattle.ax_rows.specs.SortKeys.{ranked_cmp}
use Rattle.ax_rows.proofs.DirectedKeys.{key_order, key_order_total}
use Rattle.ax_rows.proofs.RowSort.{ranked_ranks}
use Rattle.ax_rows.proofs.StableSort.{sorted_is}
use Rattle.ax_rows.proofs.sort.sort_ranked.Goals as goal

pub returns : goal.returns
returns c =
    sorted_is (ranked_cmp key_order) (ranked_ranks key_order key_order_total) _ _
    (c.in_ok-sort_by.ensures.sorted _ (ranked_ranks key_order key_order_total)
    (always_returns_same _ _ _ (λ a r f k. search rules)))
    (c.in_ok-sort_by.ensures.stable _ (ranked_ranks key_order key_order_total)
    (always_returns_same _ _ _ (λ a r f k. search rules)))
