-- What is there, with what the rest of the items gives, is the whole.
use Rattle.std.proofs.Common.{◌≡◌, ◌++◌, drop, map}
use Rattle.std.specs.List.{flat_map}
use Rattle.std.specs.Option.{option_copied}
use Rattle.ax_atoms.specs.Conjuncts.{atom_of, conjunct_of}
use Rattle.ax_atoms.specs.Operands.{operands}
use Rattle.ax_atoms.proofs.of_query.+operands.Given as goal

abbrev pub invariant-append_all-loop-item : goal.invariant-append_all-loop-item
invariant-append_all-loop-item l =
    l.out.items ++ map conjunct_of (map (atom_of (option_copied l.alias)) (flat_map operands (drop l.item-index l.item-items)))
    ≡ l.initial.out.items ++ map conjunct_of (map (atom_of (option_copied l.alias)) (flat_map operands l.item-items))
