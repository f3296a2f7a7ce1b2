-- A value, undefined or a tree, by its kind and by what it holds.
use Rattle.std.specs.Prelude.{ℕ, ℤ, List, Bool, ◌==◌, ◌&&◌, Option, Some, None}
use Rattle.ax_tree.specs.declared.members.Member.{Member}
use Rattle.ax_tree.specs.declared.tree.Tree as tree
use Rattle.ax_tree.specs.declared.tree.Tree.{Tree, out-Tree}
use Rattle.ax_tree.specs.declared.tree.Tree.TheOpen.{Tree-F}
use Rattle.ax_mean.specs.declared.value.Value.{Value}
use Rattle.ax_mean.specs.declared.value.Value.TheVariants.{Undefined, Defined}

-- The kinds, as numbers: undefined 0, null 1, truth values 2, numbers 3, texts 4, lists 5, maps 6.
abbrev pub kind_level : Tree-F Tree → ℕ
kind_level Tree-F.Null = 1
kind_level (Tree-F.Truth truth) = 2
kind_level (Tree-F.Number number) = 3
kind_level (Tree-F.Text text) = 4
kind_level (Tree-F.List items) = 5
kind_level (Tree-F.Object members) = 6

abbrev pub tree_kind : Tree → ℕ
tree_kind tree = kind_level (out-Tree tree)

abbrev pub kind : Value → ℕ
kind Undefined = 0
kind (Defined tree) = tree_kind tree

abbrev pub is_defined : Value → Bool
is_defined Undefined = Bool.false
is_defined (Defined tree) = Bool.true

-- the two are of one kind, and neither is undefined
abbrev pub are_of_one_kind : Value → Value → Bool
are_of_one_kind a b = is_defined a && (kind a == kind b)

-- What a value holds, where it is of that kind.
abbrev pub truth_level : Tree-F Tree → Option Bool
truth_level Tree-F.Null = None
truth_level (Tree-F.Truth truth) = Some truth
truth_level (Tree-F.Number number) = None
truth_level (Tree-F.Text text) = None
truth_level (Tree-F.List items) = None
truth_level (Tree-F.Object members) = None

abbrev pub number_level : Tree-F Tree → Option ℤ
number_level Tree-F.Null = None
number_level (Tree-F.Truth truth) = None
number_level (Tree-F.Number number) = Some number
number_level (Tree-F.Text text) = None
number_level (Tree-F.List items) = None
number_level (Tree-F.Object members) = None

abbrev pub text_level : Tree-F Tree → Option (List ℕ)
text_level Tree-F.Null = None
text_level (Tree-F.Truth truth) = None
text_level (Tree-F.Number number) = None
text_level (Tree-F.Text text) = Some text
text_level (Tree-F.List items) = None
text_level (Tree-F.Object members) = None

abbrev pub list_level : Tree-F Tree → Option (List Tree)
list_level Tree-F.Null = None
list_level (Tree-F.Truth truth) = None
list_level (Tree-F.Number number) = None
list_level (Tree-F.Text text) = None
list_level (Tree-F.List items) = Some items
list_level (Tree-F.Object members) = None

abbrev pub object_level : Tree-F Tree → Option (List (Member Tree))
object_level Tree-F.Null = None
object_level (Tree-F.Truth truth) = None
object_level (Tree-F.Number number) = None
object_level (Tree-F.Text text) = None
object_level (Tree-F.List items) = None
object_level (Tree-F.Object members) = Some members

abbrev pub truth_of : Value → Option Bool
truth_of Undefined = None
truth_of (Defined tree) = truth_level (out-Tree tree)

abbrev pub number_of : Value → Option ℤ
number_of Undefined = None
number_of (Defined tree) = number_level (out-Tree tree)

abbrev pub text_of : Value → Option (List ℕ)
text_of Undefined = None
text_of (Defined tree) = text_level (out-Tree tree)

abbrev pub list_of : Value → Option (List Tree)
list_of Undefined = None
list_of (Defined tree) = list_level (out-Tree tree)

abbrev pub object_of : Value → Option (List (Member Tree))
object_of Undefined = None
object_of (Defined tree) = object_level (out-Tree tree)

-- The value that a result is: undefined where there is none.
abbrev pub of_truth : Option Bool → Value
of_truth None = Undefined
of_truth (Some truth) = Defined (tree.Truth truth)

abbrev pub of_number : Option ℤ → Value
of_number None = Undefined
of_number (Some number) = Defined (tree.Number number)

abbrev pub of_text : Option (List ℕ) → Value
of_text None = Undefined
of_text (Some text) = Defined (tree.Text text)

abbrev pub of_list : Option (List Tree) → Value
of_list None = Undefined
of_list (Some items) = Defined (tree.List items)

abbrev pub of_tree : Option Tree → Value
of_tree None = Undefined
of_tree (Some tree) = Defined tree
