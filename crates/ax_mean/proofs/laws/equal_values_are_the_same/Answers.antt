-- By the keys one way, by the total order the other.
use Rattle.std.proofs.Common.{sym, ap, ◌∙◌}
use Rattle.std.proofs.lemmas.Cmp.{tied_itself, then_total, on_total, nat_cmp_total, int_cmp_total, nat_list_cmp_total}
use Rattle.std.specs.Cmp.{IsTotalOrder}
use Rattle.ax_mean.specs.ValueOrder.{rank, number_key, bytes_key, value_cmp}
use Rattle.ax_mean.proofs.OneValue.{one_value}
use Rattle.ax_mean.proofs.laws.equal_values_are_the_same.Goals as goal

total : IsTotalOrder value_cmp
total =
    then_total (on_total rank nat_cmp_total)
    (then_total (on_total number_key int_cmp_total) (on_total bytes_key nat_list_cmp_total))

pub returns : goal.returns
returns c =
    λ a b fit_a fit_b. (
      one_value a b fit_a fit_b,
      λ e. ap (λ v. value_cmp a v) (sym e) ∙ tied_itself total a,
    )
