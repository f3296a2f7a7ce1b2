-- The walk has taken the rows of the document.
use Rattle.std.proofs.Common.{refl, sym, subst, ◌++◌}
use Rattle.ax_mean.specs.Rows.{keyed_rows}
use Rattle.ax_rows.specs.declared.least.LeastRows.{LeastRows}
use Rattle.ax_rows.specs.declared.least.LeastTaker.{LeastTaker}
use Rattle.ax_rows.specs.Least.{HoldsLeast}
use Rattle.ax_rows.proofs.LeastKept.{of_document}
use Rattle.ax_rows.proofs.least.LeastRows.with_document.Goals as goal

pub returns : goal.returns
returns c = λ most rows holds.
    let old : LeastTaker = record {
      query = c.args.query;
      number = c.args.number;
      tree = c.args.tree;
      keys = c.in-Ok.keys;
      least = c.args.self;
    } in
    subst
    (λ (l : LeastRows). HoldsLeast l c.args.query.now.orders most
    (rows ++ keyed_rows c.args.query.now c.args.number c.args.tree.now))
    (sym c.into_least.ensures)
    (of_document old _ c.args.query.now c.args.number c.args.tree.now refl refl refl
    c.in-Ok.ensures c.in_ok-taker.ensures most rows holds)
