-- Whether two trees are the same: a tree is seen as the test that the same trees pass.
use Rattle.std.specs.Prelude.{List, [], ◌∷◌, Bool, true, false, ◌&&◌}
use Rattle.std.specs.Ordering.{int_eq}
use Rattle.std.specs.Bool.{beq}
use Rattle.std.specs.Str.{bytes_eq}
use Rattle.ax_tree.specs.declared.members.Member.{Member}
use Rattle.ax_tree.specs.declared.tree.Tree.{Tree, fold-Tree, out-Tree}
use Rattle.ax_tree.specs.declared.tree.Tree.TheOpen.{Tree-F}

-- each tree passes its test, and there are as many
abbrev pub all_pass : List (Tree → Bool) → List Tree → Bool
all_pass [] [] = true
all_pass [] (item ∷ items) = false
all_pass (test ∷ tests) [] = false
all_pass (test ∷ tests) (item ∷ items) = test item && all_pass tests items

-- each member has its test's name and passes it, and there are as many
abbrev pub all_members_pass : List (Member (Tree → Bool)) → List (Member Tree) → Bool
all_members_pass [] [] = true
all_members_pass [] (m ∷ ms) = false
all_members_pass (test ∷ tests) [] = false
all_members_pass (test ∷ tests) (m ∷ ms) =
    bytes_eq test.name m.name && test.value m.value && all_members_pass tests ms

abbrev pub same_level : Tree-F (Tree → Bool) → Tree-F Tree → Bool
same_level Tree-F.Null Tree-F.Null = true
same_level (Tree-F.Truth a) (Tree-F.Truth b) = beq a b
same_level (Tree-F.Number a) (Tree-F.Number b) = int_eq a b
same_level (Tree-F.Text a) (Tree-F.Text b) = bytes_eq a b
same_level (Tree-F.List tests) (Tree-F.List items) = all_pass tests items
same_level (Tree-F.Object tests) (Tree-F.Object members) = all_members_pass tests members
same_level _ _ = false

abbrev pub is_same : Tree → Tree → Bool
is_same = fold-Tree (Tree → Bool) (λ level other. same_level level (out-Tree other))

-- a member with the test that its value stands for
abbrev pub member_test : Member Tree → Member (Tree → Bool)
member_test m = record { name = m.name; value = is_same m.value }
