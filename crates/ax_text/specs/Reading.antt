-- What bytes are as a JSON text (RFC 8259): they stand for a tree, or they are no JSON, or a number
-- in them is not whole. That bytes are no JSON goes before a number that is not whole: a text that
-- breaks off behind a fraction is no JSON.
use Rattle.std.specs.Prelude.{ℕ, List, Option, Some, None, if◌then◌else◌}
use Rattle.std.specs.Str.{is_utf8}
use Rattle.serde_json.specs.Data as serde
use Rattle.serde_json.specs.Read.{read}
use Rattle.ax_tree.specs.declared.tree.Tree.{Tree}
use Rattle.ax_text.specs.TreeOf.{tree_of}

pub data Reading : Type 0 where
  Stands : Tree → Reading
  NotJson : Reading
  NotWhole : Reading

-- data that holds a number that is not whole has no tree
abbrev pub of_tree : Option Tree → Reading
of_tree (Some tree) = Stands tree
of_tree None = NotWhole

abbrev pub of_data : Option serde.Data → Reading
of_data (Some d) = of_tree (tree_of d)
of_data None = NotJson

-- JSON is UTF-8
abbrev pub reading : List ℕ → Reading
reading bytes = if is_utf8 bytes then of_data (read bytes) else NotJson
