-- What is there, with what the rest gives, is what all give.
use Rattle.std.proofs.Common.{◌≡◌, ◌++◌, drop, map, option_map, List}
use Rattle.ax_term.specs.declared.range.TermRange.{TermRange}
use Rattle.ax_atoms.specs.Constants.{ranges_in}
use Rattle.ax_atoms.specs.Recognised.{constant}
use Rattle.ax_atoms.proofs.recognise.single_ranges.Given as goal

abbrev pub invariant-loop-item : goal.invariant-loop-item
invariant-loop-item l =
    option_map (λ (rest : List TermRange). l.ranges.items ++ rest) (ranges_in l.path (map constant (drop l.item-index l.items)))
    ≡ ranges_in l.path (map constant l.items)
