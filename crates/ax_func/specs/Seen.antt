-- What a seen value is, whether its tree stands elsewhere or was made.
use Rattle.ax_mean.specs.declared.value.Value.{Value}
use Rattle.ax_mean.specs.declared.value.Value.TheVariants.{Undefined, Defined}
use Rattle.ax_func.specs.declared.seen.Held.{Held}
use Rattle.ax_func.specs.declared.seen.Held.TheVariants as held

abbrev pub value_held : Held → Value
value_held held.Undefined = Undefined
value_held (held.Here tree) = Defined tree.now
value_held (held.Made tree) = Defined tree
