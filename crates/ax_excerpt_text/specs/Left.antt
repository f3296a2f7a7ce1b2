-- Members whose texts are left, and what is still found among them.
use Rattle.std.specs.Prelude.{◌≡◌, ◌≤◌, ⊤, ℕ, List, [], ◌∷◌, true, false, ◌==◌, if◌then◌else◌}
use Rattle.ax_tree.specs.declared.members.Member.{Member}
use Rattle.ax_tree.specs.declared.tree.Tree.{Tree}
use Rattle.ax_tree.specs.CanonicalText.{comma}
use Rattle.ax_tree.specs.Document.{value_of}
use Rattle.ax_tree.specs.Names.{HaveRisingNames}
use Rattle.ax_tree.specs.Nesting.{nesting}
use Rattle.ax_tree.specs.Rising.{is_before}
use Rattle.ax_tree.specs.WellFormed.{IsWellFormed}
use Rattle.ax_skim.specs.Members.{IsPlain, members_text}

-- a tree whose canonical text reads back
abbrev pub IsReadable : Tree → Type 0
IsReadable tree = IsWellFormed tree × (nesting tree ≤ 127)

abbrev pub AreReadable : List (Member Tree) → Type 0
AreReadable [] = ⊤
AreReadable (m ∷ ms) = IsReadable m.value × AreReadable ms

-- the rest is the text of members among which plain names that are not before `name` are found as
-- among all
pub record IsNear (name rest : List ℕ) (those : List (Member Tree)) : Type 0 where
  pub left : List (Member Tree)
  pub stands : rest ≡ members_text left
  pub rising : HaveRisingNames left
  pub readable : AreReadable left
  pub same : (n : List ℕ) → IsPlain n → is_before n name ≡ false → value_of n left ≡ value_of n those

-- the same of plain names behind it
pub record IsBehind (name rest : List ℕ) (those : List (Member Tree)) : Type 0 where
  pub left : List (Member Tree)
  pub stands : rest ≡ members_text left
  pub rising : HaveRisingNames left
  pub readable : AreReadable left
  pub same : (n : List ℕ) → IsPlain n → is_before name n ≡ true → value_of n left ≡ value_of n those

-- what follows a comma at the front; else all
abbrev pub behind_comma : List ℕ → List ℕ
behind_comma [] = []
behind_comma (byte ∷ after) = if byte == comma then after else byte ∷ after
