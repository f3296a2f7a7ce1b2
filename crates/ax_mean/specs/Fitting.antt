-- The values whose numbers are of 64 bits, as those in memory are.
use Rattle.std.specs.Prelude.{⊤}
use Rattle.ax_tree.specs.WellFormed.{NumbersFit}
use Rattle.ax_mean.specs.declared.value.Value.{Value}
use Rattle.ax_mean.specs.declared.value.Value.TheVariants.{Undefined, Defined}

abbrev pub NumbersOfFit : Value → Type 0
NumbersOfFit Undefined = ⊤
NumbersOfFit (Defined tree) = NumbersFit tree
