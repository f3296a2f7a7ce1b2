-- Sorting rows by keys that were made of their order values is sorting them by the values.
use Rattle.std.proofs.Common.{◌≡◌, List, [], ◌∷◌, Bool, true, false, refl, sym, ap, ◌∙◌, map, length, arith}
use borrow.Author.Tests.{eqb-true}
use Rattle.std.specs.Bool.{◌==◌}
use Rattle.std.specs.declared.cmp.Ordering.{Ordering}
use Rattle.std.specs.Ordering.{is_lt, ordering_then, nat_cmp, on, then_cmp}
use Rattle.std.specs.Cmp.{IsTotalOrder, IsStrictWeakOrder}
use Rattle.std.specs.Cmp.Derive.{point_total}
use Rattle.std.specs.Cmp.Lexicographic.{slice_cmp}
use Rattle.std.proofs.lemmas.Cmp.{then_total, on_total, back_total, lists_total, nat_cmp_total, int_cmp_total, nat_list_cmp_total}
use Rattle.std.proofs.lemmas.List.MinMax.{ranks_by}
use Rattle.ax_mean.specs.declared.query.KeyedRow.{KeyedRow}
use Rattle.ax_mean.specs.declared.query.Order.{Order}
use Rattle.ax_mean.specs.declared.value.Value.{Value}
use Rattle.ax_mean.specs.Answer.{sorted}
use Rattle.ax_mean.specs.RowOrder.{directed, first_value, later_values, values_cmp, key_cmp}
use Rattle.ax_mean.specs.ValueOrder.{rank, number_key, bytes_key, value_cmp}
use Rattle.ax_rows.specs.declared.ranked.Ranked.{Ranked}
use Rattle.ax_rows.specs.declared.sort_key.Directed.{Directed}
use Rattle.ax_rows.specs.SortKeys.{directed_key, keys_of, ranked, ranked_cmp, rises}
use Rattle.ax_rows.proofs.StableSort.{rises_so, sorted_itself, sorted_map}

value_total : IsTotalOrder value_cmp
value_total =
    then_total (on_total rank nat_cmp_total)
    (then_total (on_total number_key int_cmp_total) (on_total bytes_key nat_list_cmp_total))

directed_total : (down : Bool) → IsTotalOrder (directed down)
directed_total false = value_total
directed_total true = back_total value_total

values_total : (orders : List Order) → IsTotalOrder (values_cmp orders)
values_total [] = point_total
values_total (order ∷ orders) =
    then_total (on_total first_value (directed_total order.down))
    (on_total later_values (values_total orders))

pub key_total : (orders : List Order) → IsTotalOrder (key_cmp orders)
key_total orders =
    then_total (on_total (λ (r : KeyedRow). r.values) (values_total orders))
    (then_total (on_total (λ (r : KeyedRow). r.number) nat_cmp_total)
    (on_total (λ (r : KeyedRow). r.place) nat_list_cmp_total))

pub key_ranks : (orders : List Order) → IsStrictWeakOrder (λ x y. is_lt (key_cmp orders x y))
key_ranks orders = ranks_by (key_total orders) (λ r. r)

-- rows in order need no sorting
pub in_order_already : (orders : List Order) (rows : List KeyedRow) → orders ≡ []
    → rises (key_cmp []) rows ≡ true → rows ≡ sorted (key_cmp orders) rows
in_order_already orders rows e up =
    sorted_itself (key_cmp []) (key_ranks []) rows (rises_so (key_cmp []) (key_ranks []) rows up)
    ∙ rw e refl

pub nothing_in : (orders : List Order) → true ≡ (length orders == 0) → orders ≡ []
nothing_in [] e = refl
nothing_in (order ∷ orders) e =
    let none : length (order ∷ orders) ≡ 0 = eqb-true (length (order ∷ orders)) 0 (sym e) in
    absurd (omega arith)

without_keys : (orders : List Order) (rows : List KeyedRow)
    → map (λ (r : Ranked). r.row) (map (ranked orders) rows) ≡ rows
without_keys orders [] = refl
without_keys orders (row ∷ rows) = ap (λ rs. row ∷ rs) (without_keys orders rows)

module _ (cmp : Directed → Directed → Ordering) (total : IsTotalOrder cmp) where
  pub ranked_ranks : IsStrictWeakOrder (λ x y. is_lt (ranked_cmp cmp x y))
  ranked_ranks =
      ranks_by
      (then_total (on_total (λ (r : Ranked). r.keys) (lists_total total))
      (then_total (on_total (λ (r : Ranked). r.row.number) nat_cmp_total)
      (on_total (λ (r : Ranked). r.row.place) nat_list_cmp_total)))
      (λ r. r)

module _ (cmp : Directed → Directed → Ordering)
    (same : (down : Bool) (v w : Value) → cmp (directed_key down v) (directed_key down w) ≡ directed down v w) where
  keys_same : (orders : List Order) (xs ys : List Value)
      → slice_cmp cmp (keys_of orders xs) (keys_of orders ys) ≡ values_cmp orders xs ys
  keys_same [] xs ys = refl
  keys_same (order ∷ orders) xs ys = λ i.
      ordering_then (same order.down (first_value xs) (first_value ys) i)
      (keys_same orders (later_values xs) (later_values ys) i)

  pub ranked_same : (orders : List Order) (a b : KeyedRow)
      → ranked_cmp cmp (ranked orders a) (ranked orders b) ≡ key_cmp orders a b
  ranked_same orders a b =
      ap (λ o. ordering_then o
      (then_cmp (on (λ (r : KeyedRow). r.number) nat_cmp) (on (λ (r : KeyedRow). r.place) (slice_cmp nat_cmp)) a b))
      (keys_same orders a.values b.values)

  pub rows_sorted : (orders : List Order) (rows : List KeyedRow)
      → map (λ (r : Ranked). r.row) (sorted (ranked_cmp cmp) (map (ranked orders) rows))
      ≡ sorted (key_cmp orders) rows
  rows_sorted orders rows =
      ap (map (λ (r : Ranked). r.row))
      (sorted_map (ranked orders) (key_cmp orders) (ranked_cmp cmp) (ranked_same orders) rows)
      ∙ without_keys orders (sorted (key_cmp orders) rows)
