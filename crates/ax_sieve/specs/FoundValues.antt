-- What is found in a text at once, a scalar or nothing, as a value.
use Rattle.ax_mean.specs.declared.value.Value.{Value}
use Rattle.ax_mean.specs.declared.value.Value.TheVariants.{Undefined, Defined}
use Rattle.ax_skim.specs.Scalars.{scalar_tree}
use Rattle.ax_sieve.specs.declared.found.Found.{Found}
use Rattle.ax_sieve.specs.declared.found.Found.TheVariants as found

-- the value that it is
abbrev pub value_of : Found → Value
value_of found.Undefined = Undefined
value_of (found.Scalar scalar) = Defined (scalar_tree scalar)
