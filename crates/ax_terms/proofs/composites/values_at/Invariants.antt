-- The values so far are those of the first columns.
use Rattle.std.proofs.Common.{◌≡◌, map, take}
use Rattle.ax_term.specs.CutValues.{cut_value}
use Rattle.ax_terms.specs.TermsOf.{value_at}
use Rattle.ax_terms.proofs.composites.values_at.Given as goal

abbrev pub invariant-loop-column : goal.invariant-loop-column
invariant-loop-column l =
    map cut_value l.values.items ≡ map (value_at l.tree) (take l.column-index l.columns)
