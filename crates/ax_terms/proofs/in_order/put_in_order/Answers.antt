-- What a sort leaves rises once its repeats are dropped, and both keep the terms.
use Rattle.std.proofs.Common.{rules}
use Rattle.std.proofs.lemmas.Cmp.{nat_list_cmp_total}
use Rattle.std.proofs.lemmas.Fn.{always_returns_same, dedup_same}
use Rattle.std.proofs.lemmas.List.Sorted.{ranks_by}
use Rattle.ax_terms.proofs.Rising.{alike, rises, same_terms}
use Rattle.ax_terms.proofs.in_order.put_in_order.Goals as goal

pub returns-clause-rising : goal.returns-clause-rising
returns-clause-rising c =
    rises _ _
    (c.sort_unstable_by.ensures.sorted _ (ranks_by nat_list_cmp_total (λ x. x))
    (always_returns_same _ _ _ (λ a r f k. search rules)))
    (dedup_same _ alike _ (λ x y b f' x' y' k. search rules) _ _ c.dedup_by.ensures.filtered)

pub returns-clause-same : goal.returns-clause-same
returns-clause-same c =
    same_terms _ _ _ c.sort_unstable_by.ensures.permutation
    (dedup_same _ alike _ (λ x y b f' x' y' k. search rules) _ _ c.dedup_by.ensures.filtered)
