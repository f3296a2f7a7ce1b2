-- What is left decides the whole.
use Rattle.std.proofs.Common.{◌≡◌, drop}
use Rattle.std.specs.List.{list_any}
use Rattle.ax_policy.specs.Sameness.{fits}
use Rattle.ax_policy.proofs.ordering.any_fits.Given as goal

abbrev pub invariant-loop-composite : goal.invariant-loop-composite
invariant-loop-composite l =
    list_any (λ composite. fits composite l.orders) (drop l.composite-index l.composites)
    ≡ list_any (λ composite. fits composite l.orders) l.composites
