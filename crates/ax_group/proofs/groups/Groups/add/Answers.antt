use Rattle.std.proofs.Common.{refl}
use Rattle.ax_group.proofs.Asking.{on_ok}
use Rattle.ax_group.proofs.GroupLaws.{added}
use Rattle.ax_group.proofs.groups.Groups.add.Goals as goal

pub returns-clause-ok : goal.returns-clause-ok
returns-clause-ok c =
    on_ok c.put.result
    (added c.args.self.now
    (record {
      query = c.args.self.now.query;
      asked = c.args.self.now.asked;
      states = c.put.new.states;
    })
    c.args.scope.now c.in_ok-row.row.key c.in_ok-row.row.values.items c.in_ok-row.row.arguments.items
    c.as_slice.result.now c.as_slice-2.result.now c.as_slice.ensures.value
    c.as_slice-2.ensures.value refl refl c.in_ok-row.ensures.key c.in_ok-row.ensures.values
    c.in_ok-row.ensures.arguments)
    c.put.ensures.ok
