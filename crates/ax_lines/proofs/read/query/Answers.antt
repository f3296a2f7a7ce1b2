-- What holds of the tree holds of the body that it is.
use Rattle.std.proofs.Common.{sym, ◌∙◌}
use Rattle.ax_tree.specs.Nesting.{nesting}
use Rattle.ax_lines.proofs.FineBodies.{answerable, not_deeper}
use Rattle.ax_lines.proofs.read.query.Goals as goal

pub returns-in-Ok-Some-clause-asked : goal.returns-in-Ok-Some-clause-asked
returns-in-Ok-Some-clause-asked c =
    answerable c.args.tree c.in-Ok-Some.body c.requires
    (not_deeper (nesting c.args.tree) (sym c.if-is_too_deep.ensures))
    (sym c.in-Ok-Some.field-0-is ∙ c.in-Ok-Some.ensures)
