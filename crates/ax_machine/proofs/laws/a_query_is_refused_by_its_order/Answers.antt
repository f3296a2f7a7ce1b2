use Rattle.std.specs.Prelude.{not, [], ◌∷◌, Ok}
use Rattle.std.proofs.Common.{ap}
use Rattle.ax_lines.specs.declared.refusal.Refusal.TheVariants as refusal
use Rattle.ax_lines.specs.Causes.{unless}
use Rattle.ax_machine.specs.Querying.{rows_of}
use Rattle.ax_policy.proofs.Orders.{orderable_is}
use Rattle.ax_machine.proofs.Orders.{refused}
use Rattle.ax_machine.proofs.laws.a_query_is_refused_by_its_order.Goals as goal

pub returns-clause-kept : goal.returns-clause-kept
returns-clause-kept c = λ query container kept.
    ap (λ test. unless (record { applies = not test; refusal = refusal.Order } ∷ []) (Ok (rows_of query container)))
    (orderable_is container.policy query.orders kept)

pub returns-clause-refused : goal.returns-clause-refused
returns-clause-refused c = λ query container never.
    ap (λ test. unless (record { applies = not test; refusal = refusal.Order } ∷ []) (Ok (rows_of query container)))
    (refused container.policy query.orders never)
