-- What a document is: a map with a text member `id` of 1 to 255 bytes that has no control character
-- (U+0000 to U+001F, U+007F). As in Azure Cosmos DB for NoSQL, the id names the document.
use Rattle.std.specs.Prelude.{ℕ, List, length, find, Bool, not, ◌&&◌, ◌||◌, ◌==◌, nat_lt, nat_le, if◌then◌else◌, Option, Some, None, option_map, option_and_then, codes, IsSome}
use Rattle.std.specs.Str.{bytes_eq}
use Rattle.std.specs.List.{list_all}
use Rattle.ax_tree.specs.declared.members.Member.{Member}
use Rattle.ax_tree.specs.declared.tree.Tree.{Tree, out-Tree}
use Rattle.ax_tree.specs.declared.tree.Tree.TheOpen.{Tree-F}

-- the value of the member of that name
abbrev pub value_of : List ℕ → List (Member Tree) → Option Tree
value_of name members = option_map (λ m. m.value) (find (λ m. bytes_eq m.name name) members)

abbrev pub member_level : List ℕ → Tree-F Tree → Option Tree
member_level name (Tree-F.Object members) = value_of name members
member_level name Tree-F.Null = None
member_level name (Tree-F.Truth value) = None
member_level name (Tree-F.Number value) = None
member_level name (Tree-F.Text value) = None
member_level name (Tree-F.List items) = None

-- the value of the member of that name, of a map that has one
abbrev pub member : List ℕ → Tree → Option Tree
member name tree = member_level name (out-Tree tree)

abbrev pub text_value_level : Tree-F Tree → Option (List ℕ)
text_value_level (Tree-F.Text value) = Some value
text_value_level Tree-F.Null = None
text_value_level (Tree-F.Truth value) = None
text_value_level (Tree-F.Number value) = None
text_value_level (Tree-F.List items) = None
text_value_level (Tree-F.Object members) = None

-- the text that a tree is
abbrev pub text_value : Tree → Option (List ℕ)
text_value tree = text_value_level (out-Tree tree)

-- the text that the member of that name has as its value, where that is a text
abbrev pub text_member : List ℕ → Tree → Option (List ℕ)
text_member name tree = option_and_then text_value (member name tree)

abbrev pub is_control : ℕ → Bool
is_control byte = nat_lt byte 32 || (byte == 127)

-- the text may be an id
abbrev pub is_id : List ℕ → Bool
is_id text =
    nat_le 1 (length text) && nat_le (length text) 255
    && list_all (λ byte. not (is_control byte)) text

-- the id of a document, and none of a tree that is no document
abbrev pub document_id : Tree → Option (List ℕ)
document_id tree =
    option_and_then (λ id. if is_id id then Some id else None) (text_member (codes "id") tree)

abbrev pub IsDocument : Tree → Type 0
IsDocument tree = IsSome (document_id tree)
