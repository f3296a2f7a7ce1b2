-- What a map that is written has under a name.
use Rattle.std.specs.Prelude.{ℕ, List, [], ◌∷◌, if◌then◌else◌}
use Rattle.std.specs.Str.{bytes_eq}
use Rattle.ax_tree.specs.declared.members.Member.{Member}
use Rattle.ax_mean.specs.declared.value.Value.{Value}
use Rattle.ax_mean.specs.declared.value.Value.TheVariants.{Undefined}

-- the value of the last member of that name, and `before` where there is none
abbrev pub last_from : List ℕ → Value → List (Member Value) → Value
last_from name before [] = before
last_from name before (m ∷ ms) =
    last_from name (if bytes_eq m.name name then m.value else before) ms

-- the value that was written last under that name; undefined where none was
abbrev pub last_written : List ℕ → List (Member Value) → Value
last_written name = last_from name Undefined
