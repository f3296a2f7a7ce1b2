-- What a sort leaves rises once its repeats are dropped, where no pair is both added and dropped, and both keep the changes.
use Rattle.std.proofs.Common.{rules}
use Rattle.std.proofs.lemmas.Fn.{always_returns_same, dedup_same}
use Rattle.std.proofs.lemmas.List.Sorted.{ranks_by}
use Rattle.ax_transform.proofs.InOrder.{alike, change_cmp_total, rises, same_changes}
use Rattle.ax_transform.proofs.ordering.put_in_order.Goals as goal

pub returns-clause-rise : goal.returns-clause-rise
returns-clause-rise c =
    rises _ _ _ c.sort_unstable_by.ensures.permutation
    (c.sort_unstable_by.ensures.sorted _ (ranks_by change_cmp_total (λ x. x))
    (always_returns_same _ _ _ (λ a r f k. search rules)))
    (dedup_same _ alike _ (λ x y b f' x' y' k. search rules) _ _ c.dedup_by.ensures.filtered)

pub returns-clause-same : goal.returns-clause-same
returns-clause-same c =
    same_changes _ _ _ c.sort_unstable_by.ensures.permutation
    (dedup_same _ alike _ (λ x y b f' x' y' k. search rules) _ _ c.dedup_by.ensures.filtered)
