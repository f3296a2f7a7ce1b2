-- The rest rises behind the row before it just where all rows rise.
use Rattle.std.proofs.Common.{◌≡◌, [], drop}
use Rattle.ax_mean.specs.RowOrder.{key_cmp}
use Rattle.ax_rows.specs.SortKeys.{rises, rises_after}
use Rattle.ax_rows.proofs.sort.rise.Given as goal

abbrev pub invariant-loop-row : goal.invariant-loop-row
invariant-loop-row l =
    rises_after (key_cmp []) l.before (drop l.row-index l.rest) ≡ rises (key_cmp []) l.rows
