use Rattle.std.proofs.Common.{Some, sym, ap, ◌∙◌}
use Rattle.ax_frame.specs.Part.{part_value}
use Rattle.ax_area.specs.Changes.{change_by}
use Rattle.ax_area.proofs.change.change_of_kind.Goals as goal

pub returns-in-PlainMeta : goal.returns-in-PlainMeta
returns-in-PlainMeta c pieces =
    c.plain_meta.ensures pieces ∙ ap (λ k. change_by (Some k) (part_value c.args.part) pieces)
    (sym c.in-PlainMeta.is)

pub returns-in-Meta : goal.returns-in-Meta
returns-in-Meta c pieces =
    c.meta.ensures pieces ∙ ap (λ k. change_by (Some k) (part_value c.args.part) pieces)
    (sym c.in-Meta.is)

pub returns-in-Policy : goal.returns-in-Policy
returns-in-Policy c pieces =
    c.policy.ensures pieces ∙ ap (λ k. change_by (Some k) (part_value c.args.part) pieces)
    (sym c.in-Policy.is)

pub returns-in-Gone : goal.returns-in-Gone
returns-in-Gone c pieces =
    c.gone.ensures pieces ∙ ap (λ k. change_by (Some k) (part_value c.args.part) pieces)
    (sym c.in-Gone.is)

pub returns-in-Base : goal.returns-in-Base
returns-in-Base c pieces =
    c.base.ensures pieces ∙ ap (λ k. change_by (Some k) (part_value c.args.part) pieces)
    (sym c.in-Base.is)
