-- What a scope binds, as an environment: each alias with the value that it stands for.
use Rattle.std.specs.Prelude.{ℕ, List}
use Rattle.std.specs.Option.{option_copied}
use Rattle.ax_mean.specs.declared.value.Value.{Value}
use Rattle.ax_mean.specs.Values.{of_tree}
use Rattle.ax_eval.specs.declared.scope.Binding.{Binding}

-- an alias with its value
abbrev pub binding_pair : Binding → List ℕ × Value
binding_pair b = (b.alias.now, of_tree (option_copied b.tree))
