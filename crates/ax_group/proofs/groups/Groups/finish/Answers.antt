use Rattle.std.proofs.Common.{sym, ◌∙◌}
use Rattle.ax_group.proofs.Asking.{if_ok}
use Rattle.ax_group.proofs.GroupLaws.{ends_without_rows, finishes}
use Rattle.ax_group.proofs.groups.Groups.finish.Goals as goal

pub returns-then-something_came : goal.returns-then-something_came
returns-then-something_came c =
    if_ok c.rows_of.result
    (λ rows e. finishes c.args.self rows.items
    (sym c.something_came.ensures ∙ c.if-something_came.true) e)
    c.rows_of.ensures

pub returns-else-something_came : goal.returns-else-something_came
returns-else-something_came c =
    if_ok c.row_without_rows.result
    (λ rows e. ends_without_rows c.args.self rows.items
    (sym c.something_came.ensures ∙ c.if-something_came.false) e)
    c.row_without_rows.ensures
