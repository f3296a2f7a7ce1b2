-- A row that passes is put into its group.
use Rattle.std.proofs.Common.{refl}
use Rattle.ax_answer.proofs.Gathered.{row_put}
use Rattle.ax_answer.proofs.group_rows.GroupTakerTaker.take.Goals as goal

pub returns-in_ok-put-clause-took : goal.returns-in_ok-put-clause-took
returns-in_ok-put-clause-took c =
    row_put c.args.self.now _ (record { env = c.args.scope.now; place = c.args._place.now }) _
    c.in_ok-passes_in.ensures c.if-branch.true refl c.in_ok-put.ensures
