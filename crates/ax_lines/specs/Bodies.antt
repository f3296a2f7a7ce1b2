-- The body of a query, as in a request to Azure Cosmos DB for NoSQL: a JSON map with a text member
-- `query` and, where it has that member, a list `parameters`. Each parameter is a map with a text
-- member `name`, which is `@` and then a word of a query, and a member `value`. Other members are
-- ignored.
use Rattle.std.specs.Prelude.{ℕ, List, [], ◌∷◌, length, Bool, false, ◌&&◌, ◌==◌, nat_le}
use Rattle.std.specs.Prelude.{if◌then◌else◌, Option, Some, None, option_map, option_and_then, codes}
use Rattle.std.specs.Cmp.Lexicographic.{slice_cmp}
use Rattle.std.specs.List.{fold}
use Rattle.std.specs.Ordering.{nat_cmp, match_ordering}
use Rattle.ax_tree.specs.CanonicalText.{canonical_text}
use Rattle.ax_tree.specs.Document.{member, text_member}
use Rattle.ax_tree.specs.declared.members.Member.{Member}
use Rattle.ax_tree.specs.declared.tree.Tree.{Tree, out-Tree}
use Rattle.ax_tree.specs.declared.tree.Tree.TheOpen.{Tree-F}
use Rattle.ax_tree.specs.declared.tree.Tree.TheVariants as tree
use Rattle.ax_text.specs.TreeOf.{both}
use Rattle.ax_lex.specs.Tokens.{is_word}
use Rattle.ax_lines.specs.declared.body.Body.{Body}

-- ---- one parameter

abbrev pub at_sign : ℕ
at_sign = 64

-- `@` and then a word, which may be a keyword
abbrev pub is_parameter_name : List ℕ → Bool
is_parameter_name [] = false
is_parameter_name (first ∷ word) = first == at_sign && is_word word

-- the name of the parameter that a tree is
abbrev pub parameter_name : Tree → Option (List ℕ)
parameter_name tree =
    option_and_then (λ name. if is_parameter_name name then Some name else None)
    (text_member (codes "name") tree)

-- the parameter that a tree is: its value under its name
abbrev pub parameter : Tree → Option (Member Tree)
parameter tree =
    option_and_then
    (λ name. option_map (λ value. record { name = name; value = value })
    (member (codes "value") tree))
    (parameter_name tree)

-- ---- all parameters

-- the parameters that trees are, where each is one
abbrev pub parameters : List Tree → Option (List (Member Tree))
parameters [] = Some []
parameters (first ∷ rest) = both (parameter first) (parameters rest)

abbrev pub list_value_level : Tree-F Tree → Option (List Tree)
list_value_level (Tree-F.List items) = Some items
list_value_level Tree-F.Null = None
list_value_level (Tree-F.Truth value) = None
list_value_level (Tree-F.Number value) = None
list_value_level (Tree-F.Text value) = None
list_value_level (Tree-F.Object members) = None

-- the list that a tree is
abbrev pub list_value : Tree → Option (List Tree)
list_value tree = list_value_level (out-Tree tree)

-- the parameters of a body that has this member for them, in the order in which they are written
abbrev pub written_parameters : Option Tree → Option (List (Member Tree))
written_parameters None = Some []
written_parameters (Some tree) = option_and_then parameters (list_value tree)

-- the members, whose names rise, and with them one more, which counts where its name is there
abbrev pub with_parameter : List (Member Tree) → Member Tree → List (Member Tree)
with_parameter [] m = m ∷ []
with_parameter (first ∷ rest) m =
    match_ordering (slice_cmp nat_cmp m.name first.name)
    (m ∷ first ∷ rest)
    (record { name = first.name; value = m.value } ∷ rest)
    (first ∷ with_parameter rest m)

-- the map from names to values: of a repeated name the last counts
abbrev pub by_name : List (Member Tree) → List (Member Tree)
by_name written = fold with_parameter [] written

-- ---- the body

-- the most bytes that the canonical text of a body's parameters has
abbrev pub most_params_bytes : ℕ
most_params_bytes = 32768

-- the parameters, unless they are too large
abbrev pub if_small : List (Member Tree) → Option (List (Member Tree))
if_small params =
    if nat_le (length (canonical_text (tree.Object params))) most_params_bytes then Some params
    else None

-- the map of the parameters of a body that has this member for them
abbrev pub params_of : Option Tree → Option (List (Member Tree))
params_of given =
    option_and_then (λ written. if_small (by_name written)) (written_parameters given)

-- the body that a tree is
abbrev pub body_of : Tree → Option Body
body_of tree =
    option_and_then
    (λ text. option_map (λ params. record { text = text; params = params })
    (params_of (member (codes "parameters") tree)))
    (text_member (codes "query") tree)
