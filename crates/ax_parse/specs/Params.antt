-- Parameters that are kept as the values that their literals share: the list of names and trees that
-- they are, and what looking one up gives.
use Rattle.std.specs.Prelude.{◌≡◌, ℕ, List, [], ◌∷◌, Option, Some, None, Result, Ok, Err}
use Rattle.std.specs.Borrow.{Bor}
use Rattle.ax_tree.specs.Document.{value_of}
use Rattle.ax_tree.specs.declared.members.Member.{Member}
use Rattle.ax_tree.specs.declared.tree.Tree.{Tree}
use Rattle.ax_mean.specs.declared.value.Value.{Value}
use Rattle.ax_mean.specs.declared.value.Value.TheVariants.{Undefined, Defined}
use Rattle.ax_parse.specs.declared.fault.ParseFault.{ParseFault}
use Rattle.ax_parse.specs.declared.fault.ParseFault.TheVariants as parse

-- a member with a tree before others, and none where there is no value
abbrev pub with_given : List ℕ → Value → List (Member Tree) → List (Member Tree)
with_given name Undefined members = members
with_given name (Defined tree) members = record { name = name; value = tree } ∷ members

-- the parameters that have a value
abbrev pub given : List (Member Value) → List (Member Tree)
given [] = []
given (m ∷ ms) = with_given m.name m.value (given ms)

-- the literal of a parameter, or that there is no such parameter
abbrev pub IsLiteralOf : Result (Bor Value) ParseFault → Option Tree → Type 0
IsLiteralOf (Ok value) found = (tree : Tree) × (found ≡ Some tree) × (value.now ≡ Defined tree)
IsLiteralOf (Err fault) found = fault ≡ parse.Text → found ≡ None

-- what a parameter says of a look-up by a name, whatever follows it: that it is found, or that it is
-- found where it is without this one
abbrev pub Tells : List ℕ → Member Value → Option (Bor Value) → Type 0
Tells name m None =
    (ms : List (Member Value)) → value_of name (given (m ∷ ms)) ≡ value_of name (given ms)
Tells name m (Some value) =
    (tree : Tree) × (value.now ≡ Defined tree)
    × ((ms : List (Member Value)) → value_of name (given (m ∷ ms)) ≡ Some tree)
