-- Three keys, each totally ordered, one after another.
use Rattle.std.proofs.lemmas.Cmp.{then_total, on_total, nat_cmp_total, int_cmp_total, nat_list_cmp_total}
use Rattle.ax_mean.specs.ValueOrder.{rank, number_key, bytes_key}
use Rattle.ax_mean.proofs.laws.value_order_is_total.Goals as goal

pub returns : goal.returns
returns c =
    then_total (on_total rank nat_cmp_total)
    (then_total (on_total number_key int_cmp_total) (on_total bytes_key nat_list_cmp_total))
