-- What the tests say is what the definition says.
use Rattle.std.proofs.Common.{◌≡◌, sym, ap, ◌∙◌}
use Rattle.ax_policy.specs.Sameness.{is_orderable}
use Rattle.ax_policy.proofs.Orders.{orderable, orderable_is}
use Rattle.ax_policy.proofs.policy.Policy.orderable.Goals as goal

pub returns : goal.returns
returns c =
    let same : c.is_orderable.result ≡ is_orderable c.args.self.now c.args.orders.now =
    c.is_orderable.ensures ∙ ap (is_orderable c.args.self.now) c.as_slice.ensures in (
      λ t. orderable c.args.self.now c.args.orders.now (sym same ∙ t),
      λ h. same ∙ orderable_is c.args.self.now c.args.orders.now h,
    )
