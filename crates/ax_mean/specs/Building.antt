-- The lists and maps that an expression writes, which have no undefined part. Of a name that is
-- written more than once the last counts, also where it is undefined.
use Rattle.std.specs.Prelude.{ℕ, List, [], ◌∷◌, if◌then◌else◌}
use Rattle.std.specs.Str.{bytes_eq}
use Rattle.ax_tree.specs.Rising.{is_before}
use Rattle.ax_tree.specs.declared.members.Member.{Member}
use Rattle.ax_tree.specs.declared.tree.Tree.{Tree}
use Rattle.ax_mean.specs.declared.value.Value.{Value}
use Rattle.ax_mean.specs.declared.value.Value.TheVariants.{Undefined, Defined}

-- the trees among the values
abbrev pub defined_of : List Value → List Tree
defined_of [] = []
defined_of (Undefined ∷ values) = defined_of values
defined_of (Defined tree ∷ values) = tree ∷ defined_of values

-- members whose names rise, with the value put at its name
abbrev pub with_member : List ℕ → Tree → List (Member Tree) → List (Member Tree)
with_member name tree [] = record { name = name; value = tree } ∷ []
with_member name tree (m ∷ ms) =
    if bytes_eq name m.name then record { name = name; value = tree } ∷ ms
    else if is_before name m.name then record { name = name; value = tree } ∷ m ∷ ms
    else m ∷ with_member name tree ms

-- members without the one of that name
abbrev pub without_member : List ℕ → List (Member Tree) → List (Member Tree)
without_member name [] = []
without_member name (m ∷ ms) = if bytes_eq name m.name then ms else m ∷ without_member name ms

abbrev pub with_value : List ℕ → Value → List (Member Tree) → List (Member Tree)
with_value name Undefined found = without_member name found
with_value name (Defined tree) found = with_member name tree found

-- members put in one after another, as they are written
abbrev pub all_put : List (Member Tree) → List (Member Value) → List (Member Tree)
all_put found [] = found
all_put found (m ∷ ms) = all_put (with_value m.name m.value found) ms

abbrev pub members_of : List (Member Value) → List (Member Tree)
members_of = all_put []
