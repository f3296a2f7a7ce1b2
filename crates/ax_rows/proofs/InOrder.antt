-- Without ORDER BY the rows of documents whose numbers rise need no sorting, and OFFSET and LIMIT choose
-- among the first of them; with it they choose among the least.
use Rattle.std.proofs.Common.{◌≡◌, ℕ, List, [], ◌∷◌, map, drop, Bool, false, cond, refl, sym, ap, ◌∙◌}
use Rattle.std.specs.declared.cmp.Ordering.{Ordering}
use Rattle.std.specs.declared.cmp.Ordering.TheVariants.{Less}
use Rattle.std.specs.Cmp.{IsStrictWeakOrder}
use Rattle.std.specs.List.{AllByRecursion}
use Rattle.std.specs.List.Sorted.{IsStrictlySortedBy}
use Rattle.std.specs.Ordering.{is_lt, nat_cmp}
use Rattle.ax_tree.specs.declared.tree.Tree.{Tree}
use Rattle.ax_mean.specs.declared.query.KeyedRow.{KeyedRow}
use Rattle.ax_mean.specs.declared.query.Order.{Order}
use Rattle.ax_mean.specs.declared.query.Query.{Query}
use Rattle.ax_mean.specs.Aggregates.{has_groups, has_some}
use Rattle.ax_mean.specs.Answer.{all_rows, answer, distinct_where, limited, ordered, sorted}
use Rattle.ax_mean.specs.RowOrder.{key_cmp}
use Rattle.ax_rows.specs.Front.{front_of, room_of}
use Rattle.ax_rows.proofs.Places.{rows_rise_strictly}
use Rattle.ax_rows.proofs.RowSort.{key_ranks}
use Rattle.ax_rows.proofs.StableSort.{NoneBelow, Rises, sorted_itself}
use Rattle.ax_rows.proofs.Windows.{chosen_among}

module _ {X : Type 0} (cmp : X → X → Ordering) (o : IsStrictWeakOrder (λ x y. is_lt (cmp x y))) where
  none_below : (x : X) (ys : List X) → AllByRecursion (λ y. cmp x y ≡ Less) ys → NoneBelow cmp o x ys
  none_below x [] all = tt
  none_below x (y ∷ ys) all = (o.one_way x y (ap is_lt all.0), none_below x ys all.1)

  rises_so : (xs : List X) → IsStrictlySortedBy cmp xs → Rises cmp o xs
  unfolding IsStrictlySortedBy
  rises_so [] all = tt
  rises_so (x ∷ xs) all = (none_below x xs all.0, rises_so xs all.1)

none_written : (orders : List Order) → has_some orders ≡ false → orders ≡ []
none_written [] e = refl
none_written (order ∷ orders) e = absurd (cc)

pub not_sorted : (query : Query) (entries : List (ℕ × Tree))
    → IsStrictlySortedBy nat_cmp (map (λ e. e.0) entries) → has_some query.orders ≡ false
    → sorted (key_cmp query.orders) (all_rows query entries) ≡ all_rows query entries
not_sorted query entries rising none =
    ap (λ (orders : List Order). sorted (key_cmp orders) (all_rows query entries))
    (none_written query.orders none)
    ∙ sym (sorted_itself (key_cmp []) (key_ranks []) (all_rows query entries)
    (rises_so (key_cmp []) (key_ranks []) (all_rows query entries) (rows_rise_strictly query entries rising)))

in_order : (query : Query) (rows : List KeyedRow) → has_groups query ≡ false
    → ordered query rows ≡ sorted (key_cmp query.orders) rows
in_order query rows none =
    ap (λ (b : Bool). cond b rows (sorted (key_cmp query.orders) rows)) none

pub answer_from : (query : Query) (entries : List (ℕ × Tree))
    → IsStrictlySortedBy nat_cmp (map (λ e. e.0) entries) → has_groups query ≡ false
    → has_some query.orders ≡ false
    → answer query entries
    ≡ limited query.limit (drop query.skip (distinct_where query.distinct (all_rows query entries)))
answer_from query entries rising groups orders =
    ap (λ (rows : List KeyedRow). limited query.limit (drop query.skip (distinct_where query.distinct rows)))
    (in_order query (all_rows query entries) groups ∙ not_sorted query entries rising orders)

pub among_the_first : (query : Query) (entries : List (ℕ × Tree))
    → IsStrictlySortedBy nat_cmp (map (λ e. e.0) entries) → has_groups query ≡ false
    → has_some query.orders ≡ false
    → answer query entries
    ≡ limited query.limit (drop query.skip (front_of query.distinct (room_of query.skip query.limit) (all_rows query entries)))
among_the_first query entries rising groups orders =
    answer_from query entries rising groups orders
    ∙ sym (chosen_among query.skip query.limit (distinct_where query.distinct (all_rows query entries)))

pub among_the_least : (query : Query) (entries : List (ℕ × Tree)) → has_groups query ≡ false
    → query.distinct ≡ false
    → answer query entries
    ≡ limited query.limit (drop query.skip
    (limited (room_of query.skip query.limit) (sorted (key_cmp query.orders) (all_rows query entries))))
among_the_least query entries groups plain =
    ap (λ (rows : List KeyedRow). limited query.limit (drop query.skip (distinct_where query.distinct rows)))
    (in_order query (all_rows query entries) groups)
    ∙ ap (λ (b : Bool). limited query.limit (drop query.skip (distinct_where b (sorted (key_cmp query.orders) (all_rows query entries))))) plain
    ∙ sym (chosen_among query.skip query.limit (sorted (key_cmp query.orders) (all_rows query entries)))
