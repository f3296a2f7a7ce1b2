-- A row that is not below the bound is not looked at further.
use Rattle.std.proofs.Common.{sym}
use Rattle.ax_rows.proofs.LeastKept.{gains_passed}
use Rattle.ax_rows.proofs.least.LeastTakerTaker.take.Goals as goal

pub returns-else-wants-clause-took : goal.returns-else-wants-clause-took
returns-else-wants-clause-took c =
    gains_passed c.args.self.now (record { env = c.args.scope.now; place = c.args.place.now })
    (sym c.if-wants.ensures)
