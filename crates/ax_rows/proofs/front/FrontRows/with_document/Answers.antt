-- A front that is full stays as it is; else the walk has taken the rows of the document.
use Rattle.std.proofs.Common.{refl, sym, subst, ◌++◌}
use Rattle.ax_mean.specs.Rows.{keyed_rows}
use Rattle.ax_rows.specs.declared.front.FrontRows.{FrontRows}
use Rattle.ax_rows.specs.declared.front.FrontTaker.{FrontTaker}
use Rattle.ax_rows.specs.Front.{IsFront}
use Rattle.ax_rows.proofs.FrontKept.{of_document}
use Rattle.ax_rows.proofs.front.FrontRows.with_document.Goals as goal

pub returns-then-is_full : goal.returns-then-is_full
returns-then-is_full c = λ distinct skip limit rows holds.
    c.if-is_full.ensures.sound refl distinct skip limit rows
    (keyed_rows c.args.query.now c.args.number c.args.tree.now) holds

pub returns : goal.returns
returns c = λ distinct skip limit rows holds.
    let old : FrontTaker = record {
      query = c.args.query;
      number = c.args.number;
      tree = c.args.tree;
      front = c.args.self;
    } in
    subst
    (λ (f : FrontRows). IsFront f distinct skip limit
    (rows ++ keyed_rows c.args.query.now c.args.number c.args.tree.now))
    (sym c.into_front.ensures)
    (of_document old _ c.args.query.now c.args.number c.args.tree.now refl refl refl
    c.in_ok-taker.ensures distinct skip limit rows holds)
