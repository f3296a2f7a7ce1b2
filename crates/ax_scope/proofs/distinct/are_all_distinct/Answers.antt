-- What a sort leaves has the same names, in order.
use Rattle.std.proofs.Common.{rules, ap, ◌∙◌}
use Rattle.std.proofs.lemmas.Cmp.{nat_list_cmp_total}
use Rattle.std.proofs.lemmas.Fn.{always_returns_same}
use Rattle.std.proofs.lemmas.List.Sorted.{ranks_by}
use Rattle.ax_grammar.specs.Scope.{are_distinct}
use Rattle.ax_scope.specs.Neighbours.{neighbours_differ}
use Rattle.ax_scope.proofs.InOrder.{distinct_in_order}
use Rattle.ax_scope.proofs.distinct.are_all_distinct.Goals as goal

pub returns : goal.returns
returns c =
    c.neighbours_differ.ensures
    ∙ ap neighbours_differ c.deref.ensures.value
    ∙ distinct_in_order _ _ c.sort_unstable_by.ensures.permutation
    (c.sort_unstable_by.ensures.sorted _ (ranks_by nat_list_cmp_total (λ x. x))
    (always_returns_same _ _ _ (λ a r f k. search rules)))
    ∙ ap are_distinct c.into_vec-names.ensures
