use Rattle.std.proofs.Common.{[], ap, ◌∙◌}
use Rattle.std.specs.List.{cons_option}
use Rattle.ax_group.specs.States.{started}
use Rattle.ax_group.specs.Walks.{asks_of}
use Rattle.ax_group.proofs.Asking.{if_ok}
use Rattle.ax_group.proofs.GroupLaws.{shows_without_rows}
use Rattle.ax_group.proofs.groups.row_without_rows.Goals as goal

pub returns : goal.returns
returns c =
    if_ok c.one_where.result
    (λ rows e. shows_without_rows c.args.pick.now (asks_of c.args.asked.items) c.in_ok-state.state
    rows.items c.in_ok-state.ensures.values
    (c.in_ok-state.ensures.tallies
    ∙ ap (λ others. started (asks_of others) []) c.as_slice.ensures.value)
    (e ∙ ap (λ row. cons_option row []) c.in_ok-row.ensures))
    c.one_where.ensures
