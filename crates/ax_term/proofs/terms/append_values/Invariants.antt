-- What is written, with what the rest of the values gives, is the whole.
use Rattle.std.proofs.Common.{◌≡◌, ◌++◌, drop, length, map}
use Rattle.ax_term.specs.CutValues.{cut_value}
use Rattle.ax_term.specs.TermBytes.{values_bytes}
use Rattle.ax_term.proofs.terms.append_values.Given as goal

abbrev pub invariant-loop-column : goal.invariant-loop-column
invariant-loop-column l =
    l.out.items
    ++ values_bytes (drop (length l.yielded) l.columns) (map cut_value (drop (length l.yielded) l.values))
    ≡ l.fn.out.items ++ values_bytes l.columns (map cut_value l.values)
