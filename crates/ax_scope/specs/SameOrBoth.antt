-- Whether two values are the same: they are equal where that is defined, or both are undefined.
use Rattle.std.specs.Prelude.{Bool, true, false, ◌&&◌, Option, Some, None}
use Rattle.ax_mean.specs.declared.value.Value.{Value}
use Rattle.ax_mean.specs.declared.value.Value.TheVariants.{Undefined, Defined}

abbrev pub is_undefined : Value → Bool
is_undefined Undefined = true
is_undefined (Defined tree) = false

-- where they are not of one kind, only two that are undefined are the same
abbrev pub same_or_both : Value → Value → Option Bool → Bool
same_or_both a b (Some same) = same
same_or_both a b None = is_undefined a && is_undefined b
