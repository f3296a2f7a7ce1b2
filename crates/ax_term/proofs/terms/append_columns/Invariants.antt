-- What is written, with what the rest of the paths gives, is the whole.
use Rattle.std.proofs.Common.{◌≡◌, ◌++◌, drop}
use Rattle.ax_term.specs.TermBytes.{columns_bytes}
use Rattle.ax_term.proofs.terms.append_columns.Given as goal

abbrev pub invariant-loop-column : goal.invariant-loop-column
invariant-loop-column l =
    l.out.items ++ columns_bytes (drop l.column-index l.columns)
    ≡ l.fn.out.items ++ columns_bytes l.columns
