-- How deep a tree nests: a scalar 0, a list or a map one more than the deepest of its children, so
-- that an empty one nests 1.
use Rattle.std.specs.Prelude.{ℕ, List, [], ◌∷◌, ◌+◌, max, map}
use Rattle.ax_tree.specs.declared.tree.Tree.{Tree, fold-Tree}
use Rattle.ax_tree.specs.declared.tree.Tree.TheOpen.{Tree-F}

-- the greatest of some numbers, and 0 of none
abbrev pub greatest : List ℕ → ℕ
greatest [] = 0
greatest (n ∷ ns) = max n (greatest ns)

-- one level of a tree, whose children are seen as their nesting
abbrev pub nesting_level : Tree-F ℕ → ℕ
nesting_level Tree-F.Null = 0
nesting_level (Tree-F.Truth value) = 0
nesting_level (Tree-F.Number value) = 0
nesting_level (Tree-F.Text value) = 0
nesting_level (Tree-F.List items) = greatest items + 1
nesting_level (Tree-F.Object members) = greatest (map (λ m. m.value) members) + 1

abbrev pub nesting : Tree → ℕ
nesting = fold-Tree ℕ nesting_level
