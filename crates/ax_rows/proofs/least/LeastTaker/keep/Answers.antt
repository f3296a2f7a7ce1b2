-- A row that passes and shows something is put among the least.
use Rattle.std.proofs.Common.{refl, rules}
use Rattle.ax_rows.proofs.LeastKept.{row_kept_so}
use Rattle.ax_rows.proofs.least.LeastTaker.keep.Goals as goal

pub returns-in_ok-put : goal.returns-in_ok-put
returns-in_ok-put c =
    row_kept_so c.args.self.now _ (record { env = c.args.scope.now; place = c.args.place.now }) _
    c.in-Some.row _ c.in_ok-found.ensures (search rules) c.in_ok-ranked.ensures refl refl refl refl
    c.in_ok-put.ensures
