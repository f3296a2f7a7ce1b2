use Rattle.std.proofs.Common.{[], ap, sym, ◌∙◌}
use Rattle.ax_mean.specs.RowOrder.{key_cmp}
use Rattle.ax_rows.specs.SortKeys.{rises}
use Rattle.ax_rows.proofs.DirectedKeys.{sorted_by_keys}
use Rattle.ax_rows.proofs.RowSort.{in_order_already, nothing_in}
use Rattle.ax_rows.proofs.sort.sorted.Goals as goal

pub returns-then-rise : goal.returns-then-rise
returns-then-rise c =
    in_order_already c.args.orders.now c.args.rows.items
    (sym c.as_slice.ensures ∙ nothing_in _ c.if-is_empty.ensures)
    (ap (rises (key_cmp [])) (sym c.as_slice-then-is_empty.ensures.value) ∙ sym c.if-rise.ensures)

pub returns : goal.returns
returns c =
    sorted_by_keys c.args.orders.now _ c.args.rows.items _ _ c.in_ok-ranked.ensures
    c.in_ok-sort_ranked.ensures c.in_ok-rows_of.ensures
