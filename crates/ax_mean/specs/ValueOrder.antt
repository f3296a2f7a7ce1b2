-- The order of values, which sorts the rows of an answer: undefined, null, false, true, numbers by
-- value, texts by their bytes, lists and then maps by the bytes of their canonical texts.
use Rattle.std.specs.Prelude.{ℕ, ℤ, pos, List, [], true, false}
use Rattle.std.specs.declared.cmp.Ordering.{Ordering}
use Rattle.std.specs.Ordering.{nat_cmp, int_cmp, on, then_cmp}
use Rattle.std.specs.Cmp.Lexicographic.{slice_cmp}
use Rattle.ax_tree.specs.CanonicalText.{canonical_text}
use Rattle.ax_tree.specs.declared.tree.Tree.{Tree, out-Tree}
use Rattle.ax_tree.specs.declared.tree.Tree.TheOpen.{Tree-F}
use Rattle.ax_mean.specs.declared.value.Value.{Value}
use Rattle.ax_mean.specs.declared.value.Value.TheVariants.{Undefined, Defined}

-- where a tree's kind stands, with false and true apart
abbrev pub rank_level : Tree-F Tree → ℕ
rank_level Tree-F.Null = 1
rank_level (Tree-F.Truth false) = 2
rank_level (Tree-F.Truth true) = 3
rank_level (Tree-F.Number number) = 4
rank_level (Tree-F.Text text) = 5
rank_level (Tree-F.List items) = 6
rank_level (Tree-F.Object members) = 7

abbrev pub tree_rank : Tree → ℕ
tree_rank tree = rank_level (out-Tree tree)

abbrev pub rank : Value → ℕ
rank Undefined = 0
rank (Defined tree) = tree_rank tree

-- the number that orders numbers
abbrev pub number_key_level : Tree-F Tree → ℤ
number_key_level Tree-F.Null = pos 0
number_key_level (Tree-F.Truth truth) = pos 0
number_key_level (Tree-F.Number number) = number
number_key_level (Tree-F.Text text) = pos 0
number_key_level (Tree-F.List items) = pos 0
number_key_level (Tree-F.Object members) = pos 0

abbrev pub number_key : Value → ℤ
number_key Undefined = pos 0
number_key (Defined tree) = number_key_level (out-Tree tree)

-- the bytes that order texts, lists and maps
abbrev pub bytes_key_level : Tree → Tree-F Tree → List ℕ
bytes_key_level tree Tree-F.Null = []
bytes_key_level tree (Tree-F.Truth truth) = []
bytes_key_level tree (Tree-F.Number number) = []
bytes_key_level tree (Tree-F.Text text) = text
bytes_key_level tree (Tree-F.List items) = canonical_text tree
bytes_key_level tree (Tree-F.Object members) = canonical_text tree

abbrev pub bytes_key : Value → List ℕ
bytes_key Undefined = []
bytes_key (Defined tree) = bytes_key_level tree (out-Tree tree)

abbrev pub value_cmp : Value → Value → Ordering
value_cmp =
    then_cmp (on rank nat_cmp) (then_cmp (on number_key int_cmp) (on bytes_key (slice_cmp nat_cmp)))
