-- The derived order of keys is the order of the values that they were made of.
use Rattle.std.proofs.Common.{◌≡◌, List, map, Bool, true, false, refl, ap, ◌∙◌}
use Rattle.std.specs.declared.cmp.Ordering.{Ordering}
use Rattle.std.specs.declared.cmp.Ord as ord
use Rattle.std.specs.Cmp.{IsTotalOrder}
use denote.Param as param
use Rattle.ax_mean.specs.declared.value.Value.{Value}
use Rattle.ax_mean.specs.declared.query.KeyedRow.{KeyedRow}
use Rattle.ax_mean.specs.declared.query.Order.{Order}
use Rattle.ax_mean.specs.Answer.{sorted}
use Rattle.ax_mean.specs.RowOrder.{directed, key_cmp}
use Rattle.ax_rows.specs.declared.sort_key.Directed.{Directed}
use Rattle.ax_rows.specs.contracts.sort_key.DirectedOrd.TheImpl.{ghosts}
use Rattle.ax_rows.specs.contracts.sort_key.DirectedOrd.TheImpl.Laws.{total-law}
use Rattle.ax_rows.specs.declared.ranked.Ranked.{Ranked}
use Rattle.ax_rows.specs.SortKeys.{directed_key, ranked, ranked_cmp}
use Rattle.ax_rows.proofs.RowSort.{rows_sorted}

abbrev pub key_order : Directed → Directed → Ordering
key_order = param.read (ord.Ghosts.cmp {X-1 = Directed}) ghosts

pub key_order_total : IsTotalOrder key_order
key_order_total = total-law

pub same_order : (down : Bool) (v w : Value)
    → key_order (directed_key down v) (directed_key down w) ≡ directed down v w
same_order false v w = refl
same_order true v w = refl

-- rows that were given keys, sorted, and taken out again
pub sorted_by_keys : (orders : List Order) (rows given : List KeyedRow) (made sorted_made : List Ranked)
    → made ≡ map (ranked orders) given → sorted_made ≡ sorted (ranked_cmp key_order) made
    → rows ≡ map (λ (r : Ranked). r.row) sorted_made → rows ≡ sorted (key_cmp orders) given
sorted_by_keys orders rows given made sorted_made a b e =
    e ∙ ap (map (λ (r : Ranked). r.row)) (b ∙ ap (sorted (ranked_cmp key_order)) a)
    ∙ rows_sorted key_order same_order orders given
