-- The canonical text of a tree: JSON (RFC 8259) with no space, with a map's members in byte order
-- of their names, which a tree keeps in that order. It is the compact text of `serde_json`.
use Rattle.std.specs.Prelude.{ℕ, List, ◌∷◌, ◌++◌, [], map, Bool, true, false, codes}
use Rattle.std.specs.List.{join_with_byte}
use Rattle.std.specs.Fmt.{signed_decimal}
use Rattle.json.specs.Print.{quoted}
use Rattle.ax_tree.specs.declared.members.Member.{Member}
use Rattle.ax_tree.specs.declared.tree.Tree.{Tree, fold-Tree}
use Rattle.ax_tree.specs.declared.tree.Tree.TheOpen.{Tree-F}

abbrev pub comma : ℕ
comma = 44

abbrev pub colon : ℕ
colon = 58

-- a truth value's text
abbrev pub truth_text : Bool → List ℕ
truth_text true = codes "true"
truth_text false = codes "false"

-- texts between two brackets, with commas between them
abbrev pub in_brackets : ℕ → ℕ → List (List ℕ) → List ℕ
in_brackets open_bracket close_bracket texts =
    open_bracket ∷ join_with_byte comma texts ++ close_bracket ∷ []

-- a member, whose value is seen as its text
abbrev pub member_text : Member (List ℕ) → List ℕ
member_text m = quoted m.name ++ colon ∷ m.value

-- one level of a tree, whose children are seen as their texts
abbrev pub text_level : Tree-F (List ℕ) → List ℕ
text_level Tree-F.Null = codes "null"
text_level (Tree-F.Truth value) = truth_text value
text_level (Tree-F.Number value) = signed_decimal value
text_level (Tree-F.Text value) = quoted value
text_level (Tree-F.List items) = in_brackets 91 93 items
text_level (Tree-F.Object members) = in_brackets 123 125 (map member_text members)

abbrev pub canonical_text : Tree → List ℕ
canonical_text = fold-Tree (List ℕ) text_level
