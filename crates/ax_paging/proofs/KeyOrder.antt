-- The order of keys is total, as that of rows is.
use Rattle.std.specs.Cmp.{IsTotalOrder}
use Rattle.std.proofs.Common.{List}
use Rattle.std.proofs.lemmas.Cmp.{on_total}
use Rattle.ax_tree.specs.declared.tree.Tree.TheVariants.{Null}
use Rattle.ax_mean.specs.declared.query.KeyedRow.{KeyedRow}
use Rattle.ax_mean.specs.declared.query.Order.{Order}
use Rattle.ax_rows.proofs.RowSort.{key_total}
use Rattle.ax_paging.specs.RowKeys.{RowKey, keys_cmp}

-- a row of the key
abbrev row_of : RowKey → KeyedRow
row_of key = record { values = key.values; number = key.number; place = key.place; shown = Null }

pub keys_total : (orders : List Order) → IsTotalOrder (keys_cmp orders)
keys_total orders = on_total row_of (key_total orders)
