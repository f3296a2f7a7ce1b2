-- At which position a member is put among the members of a map: at that of the one of its name, or
-- between two others.
use Rattle.std.specs.Prelude.{◌≡◌, ℕ, List, ◌∷◌, ◌++◌, ◌+◌, ◌<◌, ◌≤◌, length, take, drop}
use Rattle.ax_tree.specs.declared.members.Member.{Member}
use Rattle.ax_tree.specs.declared.tree.Tree.{Tree}
use Rattle.ax_mean.specs.Building.{with_member}
use Rattle.ax_eval.specs.declared.members.Place.{Place}
use Rattle.ax_eval.specs.declared.members.Place.TheVariants.{Taken, Free}

abbrev pub IsPlace : List ℕ → List (Member Tree) → Place → Type 0
IsPlace name members (Taken at) = (at < length members) × ((value : Tree)
    → with_member name value members ≡ take at members
    ++ record { name = name; value = value } ∷ drop (at + 1) members)
IsPlace name members (Free at) = (at ≤ length members) × ((value : Tree)
    → with_member name value members ≡ take at members
    ++ record { name = name; value = value } ∷ drop at members)
