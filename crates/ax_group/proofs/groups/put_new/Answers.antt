use Rattle.std.proofs.Common.{ap, ◌∙◌}
use Rattle.ax_group.specs.States.{started, tallies_with}
use Rattle.ax_group.specs.Walks.{asks_of}
use Rattle.ax_group.proofs.Asking.{on_ok}
use Rattle.ax_group.proofs.GroupLaws.{puts_new}
use Rattle.ax_group.proofs.groups.put_new.Goals as goal

pub returns-clause-ok : goal.returns-clause-ok
returns-clause-ok c =
    on_ok c.insert.result
    (puts_new (asks_of c.args.asked.now) c.args.row.values.items c.args.row.arguments.items
    c.args.scope.now c.args.row.key c.in-Ok-of_row.state c.args.states.now.entries
    c.insert.new.states.entries (c.in-Ok-of_row.ensures.values ∙ c.in-Ok.ensures)
    (c.in-Ok-of_row.ensures.tallies
    ∙ ap (tallies_with (started (asks_of c.args.asked.now) c.args.scope.now)) c.as_slice.ensures.value))
    c.insert.ensures.ok
