-- Literals of a query, and numbers with a sign before them.
use Rattle.ax_tree.specs.declared.tree.Tree as tree
use Rattle.ax_mean.specs.declared.value.Value.{Value}
use Rattle.ax_mean.specs.declared.value.Value.TheVariants.{Defined}
use Rattle.ax_sieve.specs.declared.literal.Literal.{Literal}
use Rattle.ax_sieve.specs.declared.literal.Literal.TheVariants as literal

-- the value that it is
abbrev pub literal_value : Literal → Value
literal_value (literal.Value value) = value.now
literal_value (literal.Number number) = Defined (tree.Number number)
