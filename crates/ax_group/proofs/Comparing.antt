-- The order of values is total, so that one value is above another where the other is below it.
use Rattle.std.proofs.Common.{◌≡◌, refl, ap, ◌∙◌}
use Rattle.std.specs.declared.cmp.Ordering.{Ordering}
use Rattle.std.specs.declared.cmp.Ordering.TheVariants.{Less, Equal, Greater}
use Rattle.std.specs.Cmp.{IsTotalOrder}
use Rattle.std.specs.Ordering.{is_lt, is_gt, ordering_reverse}
use Rattle.std.proofs.lemmas.Cmp.{then_total, on_total, nat_cmp_total, int_cmp_total, nat_list_cmp_total}
use Rattle.ax_mean.specs.declared.value.Value.{Value}
use Rattle.ax_mean.specs.ValueOrder.{rank, number_key, bytes_key, value_cmp}

pub value_total : IsTotalOrder value_cmp
value_total =
    then_total (on_total rank nat_cmp_total)
    (then_total (on_total number_key int_cmp_total) (on_total bytes_key nat_list_cmp_total))

turned : (o : Ordering) → is_gt (ordering_reverse o) ≡ is_lt o
turned Less = refl
turned Equal = refl
turned Greater = refl

pub above_is_below : (a b : Value) → is_gt (value_cmp a b) ≡ is_lt (value_cmp b a)
above_is_below a b = ap is_gt (value_total.antisymm a b) ∙ turned (value_cmp b a)
