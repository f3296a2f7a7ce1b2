-- The trees that JSON texts stand for: their numbers fit a signed whole number of 64 bits, their
-- texts and names are UTF-8, and the names of a map's members rise strictly by bytes.
use Rattle.std.specs.Prelude.{◌≡◌, ℤ, pos, negsuc, ◌^◌, Bool, true, ◌&&◌, nat_lt}
use Rattle.std.specs.List.{list_all}
use Rattle.std.specs.Str.{is_utf8}
use Rattle.ax_tree.specs.Names.{names}
use Rattle.ax_tree.specs.Rising.{is_rising}
use Rattle.ax_tree.specs.declared.tree.Tree.{Tree, fold-Tree}
use Rattle.ax_tree.specs.declared.tree.Tree.TheOpen.{Tree-F}

-- from -2^63 to 2^63 - 1
abbrev pub is_of_64_bits : ℤ → Bool
is_of_64_bits (pos n) = nat_lt n (2 ^ 63)
is_of_64_bits (negsuc n) = nat_lt n (2 ^ 63)

-- one level of a tree, whose children are seen as whether they are well formed
abbrev pub well_formed_level : Tree-F Bool → Bool
well_formed_level Tree-F.Null = true
well_formed_level (Tree-F.Truth value) = true
well_formed_level (Tree-F.Number value) = is_of_64_bits value
well_formed_level (Tree-F.Text text) = is_utf8 text
well_formed_level (Tree-F.List items) = list_all (λ item. item) items
well_formed_level (Tree-F.Object members) =
    is_rising (names members) && list_all (λ m. is_utf8 m.name && m.value) members

abbrev pub is_well_formed : Tree → Bool
is_well_formed = fold-Tree Bool well_formed_level

abbrev pub IsWellFormed : Tree → Type 0
IsWellFormed tree = is_well_formed tree ≡ true

-- one level of a tree, whose children are seen as whether their numbers fit
abbrev pub numbers_level : Tree-F Bool → Bool
numbers_level Tree-F.Null = true
numbers_level (Tree-F.Truth value) = true
numbers_level (Tree-F.Number value) = is_of_64_bits value
numbers_level (Tree-F.Text text) = true
numbers_level (Tree-F.List items) = list_all (λ item. item) items
numbers_level (Tree-F.Object members) = list_all (λ m. m.value) members

abbrev pub numbers_fit : Tree → Bool
numbers_fit = fold-Tree Bool numbers_level

-- each number of the tree is one of 64 bits
abbrev pub NumbersFit : Tree → Type 0
NumbersFit tree = numbers_fit tree ≡ true
