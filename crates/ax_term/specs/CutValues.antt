-- The values of terms: those of the query language, with texts cut, and lists and maps by their
-- canonical texts, which are cut too. The store's own term format, docs/FORMAT.md.
use Rattle.std.specs.Prelude.{ℤ, true, false}
use Rattle.ax_tree.specs.CanonicalText.{canonical_text}
use Rattle.ax_tree.specs.declared.tree.Tree.{Tree, out-Tree}
use Rattle.ax_tree.specs.declared.tree.Tree.TheOpen.{Tree-F}
use Rattle.ax_mean.specs.declared.value.Value.{Value}
use Rattle.ax_term.specs.CutTexts.{CutText, cut}
use Rattle.ax_term.specs.declared.term_value.TermValue.{TermValue}

pub data CutValue : Type 0 where
  Undefined : CutValue
  Null : CutValue
  False : CutValue
  True : CutValue
  Number : ℤ → CutValue
  -- by the text, and by the canonical text
  Text : CutText → CutValue
  List : CutText → CutValue
  Object : CutText → CutValue

-- the value with its text cut
abbrev pub cut_value : TermValue → CutValue
cut_value TermValue.Undefined = CutValue.Undefined
cut_value TermValue.Null = CutValue.Null
cut_value TermValue.False = CutValue.False
cut_value TermValue.True = CutValue.True
cut_value (TermValue.Number number) = CutValue.Number number
cut_value (TermValue.Text text) = CutValue.Text (cut text)
cut_value (TermValue.List text) = CutValue.List (cut text)
cut_value (TermValue.Object text) = CutValue.Object (cut text)

-- the value of terms that a tree is, seen with its level
abbrev pub cut_level : Tree → Tree-F Tree → CutValue
cut_level tree Tree-F.Null = CutValue.Null
cut_level tree (Tree-F.Truth false) = CutValue.False
cut_level tree (Tree-F.Truth true) = CutValue.True
cut_level tree (Tree-F.Number number) = CutValue.Number number
cut_level tree (Tree-F.Text text) = CutValue.Text (cut text)
cut_level tree (Tree-F.List items) = CutValue.List (cut (canonical_text tree))
cut_level tree (Tree-F.Object members) = CutValue.Object (cut (canonical_text tree))

-- the value of terms that a value of the query language is
abbrev pub cut_of : Value → CutValue
cut_of Value.Undefined = CutValue.Undefined
cut_of (Value.Defined tree) = cut_level tree (out-Tree tree)
