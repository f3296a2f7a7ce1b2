-- What holds of every line that is not refused: the tree of a creation, an upsert or a replacement is a
-- document that a store can hold, a deletion and a read have an id that a document can have, and a query has
-- a body whose parameters can be written down and read back.
use Rattle.std.specs.Prelude.{◌≡◌, ◌≤◌, ℕ, List, length, true}
use Rattle.std.specs.List.{list_all}
use Rattle.std.specs.Str.{is_utf8}
use Rattle.ax_tree.specs.declared.tree.Tree.TheVariants as tree
use Rattle.ax_tree.specs.CanonicalText.{canonical_text}
use Rattle.ax_tree.specs.Document.{is_id}
use Rattle.ax_tree.specs.Names.{names}
use Rattle.ax_tree.specs.Nesting.{nesting}
use Rattle.ax_tree.specs.WellFormed.{IsWellFormed}
use Rattle.ax_storable.specs.Storable.{IsStorable, deepest}
use Rattle.ax_lines.specs.Bodies.{is_parameter_name, most_params_bytes}
use Rattle.ax_lines.specs.declared.body.Body.{Body}
use Rattle.ax_lines.specs.declared.line.Line.{Line}
use Rattle.ax_lines.specs.declared.line.Line.TheVariants as line

-- the body can be answered: its text is UTF-8, and its parameters have names of parameters and are
-- small
pub record IsAnswerable (body : Body) : Type 0 where
  pub text : is_utf8 body.text ≡ true
  -- its names are those of parameters
  pub named : list_all is_parameter_name (names body.params) ≡ true
  pub well_formed : IsWellFormed (tree.Object body.params)
  pub shallow : nesting (tree.Object body.params) ≤ deepest
  pub small : length (canonical_text (tree.Object body.params)) ≤ most_params_bytes

-- the bytes are a text that may be an id
pub record IsIdText (id : List ℕ) : Type 0 where
  pub utf8 : is_utf8 id ≡ true
  pub allowed : is_id id ≡ true

-- the document, the id or the body of the line is such
abbrev pub IsAsked : Line → Type 0
IsAsked (line.Create tree) = IsStorable tree
IsAsked (line.Upsert tree) = IsStorable tree
IsAsked (line.Replace tree) = IsStorable tree
IsAsked (line.Delete id) = IsIdText id
IsAsked (line.Read id) = IsIdText id
IsAsked (line.Query body) = IsAnswerable body
