-- The text so far, and then the lines of the rows that are left, are those of all rows.
use Rattle.std.proofs.Common.{◌≡◌, ◌++◌, drop}
use Rattle.ax_engine.proofs.RowLines.{lines_of_rows}
use Rattle.ax_engine.proofs.rows.lines_shown.Given as goal

abbrev pub invariant-loop-row : goal.invariant-loop-row
invariant-loop-row l =
    l.lines.items ++ lines_of_rows (drop l.row-index l.rows) ≡ lines_of_rows l.rows
