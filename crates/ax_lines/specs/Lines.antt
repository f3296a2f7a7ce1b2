-- What the bytes of a script line ask for, or the refusal of the line: a command word, one space, and
-- the raw rest of the line as its argument, which may be empty. A carriage return at the end of the
-- line is dropped, and only one. For each form a table of causes says when it is refused.
use Rattle.std.specs.Prelude.{ℕ, ◌-◌, List, [], ◌∷◌, length, take, drop, slice_index, ◌==◌}
use Rattle.std.specs.Prelude.{Bool, true, false, not, ◌||◌}
use Rattle.std.specs.Prelude.{nat_lt, if◌then◌else◌, Option, Some, None, Result}
use Rattle.std.specs.Prelude.{Ok, Err, codes}
use Rattle.std.specs.Str.{bytes_eq, is_utf8}
use Rattle.ax_tree.specs.declared.tree.Tree.{Tree}
use Rattle.ax_tree.specs.Nesting.{nesting}
use Rattle.ax_tree.specs.Document.{is_id}
use Rattle.ax_text.specs.Reading.{Reading, Stands, NotJson, NotWhole, reading}
use Rattle.ax_storable.specs.Storable.{deepest, has_no_id, is_too_large}
use Rattle.ax_lines.specs.declared.body.Body.{Body}
use Rattle.ax_lines.specs.declared.document_form.DocumentForm.{DocumentForm}
use Rattle.ax_lines.specs.declared.document_form.DocumentForm.TheVariants as document
use Rattle.ax_lines.specs.declared.line.Line.{Line}
use Rattle.ax_lines.specs.declared.line.Line.TheVariants as line
use Rattle.ax_lines.specs.declared.refusal.Refusal.{Refusal}
use Rattle.ax_lines.specs.declared.refusal.Refusal.TheVariants as refusal
use Rattle.ax_lines.specs.Bodies.{body_of}
use Rattle.ax_lines.specs.Causes.{Cause, unless}

abbrev pub carriage_return : ℕ
carriage_return = 13

-- the bytes without the carriage return that may end them
abbrev pub without_return : List ℕ → List ℕ
without_return bytes = if slice_index bytes (length bytes - 1) == carriage_return then take
    (length bytes - 1) bytes else bytes

-- ---- the forms of a line

-- a form, with its argument
pub data Form : Type 0 where
  -- of a document
  Document : DocumentForm → List ℕ → Form
  -- of an id
  Delete : List ℕ → Form
  Read : List ℕ → Form
  Query : List ℕ → Form

-- what follows this word and its space at the beginning of a line
abbrev pub argument : List ℕ → List ℕ → Option (List ℕ)
argument word bytes = if bytes_eq (take (length word) bytes) word then Some
    (drop (length word) bytes) else None

-- the form, where the argument is there, else what other forms give
abbrev pub in_form : (List ℕ → Form) → Option (List ℕ) → Option Form → Option Form
in_form form (Some text) other = Some (form text)
in_form form None other = other

abbrev pub form_of : List ℕ → Option Form
form_of command =
    in_form (Document document.Create) (argument (codes "CREATE ") command)
    (in_form (Document document.Upsert) (argument (codes "UPSERT ") command)
    (in_form (Document document.Replace) (argument (codes "REPLACE ") command)
    (in_form Delete (argument (codes "DELETE ") command)
    (in_form Read (argument (codes "READ ") command)
    (in_form Query (argument (codes "QUERY ") command)
    None)))))

-- ---- the causes of refusal of each form, in their order

-- the most bytes that a line has, with a carriage return at its end, without its newline
abbrev pub most_line_bytes : ℕ
most_line_bytes = 262144

abbrev pub line_causes : List ℕ → List Cause
line_causes bytes =
    record { applies = nat_lt most_line_bytes (length bytes); refusal = refusal.Line } ∷ []

-- of a line whose argument is a document
abbrev pub document_causes : Tree → List Cause
document_causes tree =
    record { applies = has_no_id tree; refusal = refusal.Id } ∷
    record { applies = is_too_large tree; refusal = refusal.Large } ∷ []

-- of a line whose argument is an id
abbrev pub id_causes : List ℕ → List Cause
id_causes id =
    record { applies = not (is_utf8 id); refusal = refusal.Id } ∷
    record { applies = not (is_id id); refusal = refusal.Id } ∷ []

abbrev pub query_causes : Tree → List Cause
query_causes tree = record { applies = nat_lt deepest (nesting tree); refusal = refusal.Large } ∷ []

-- a query, or the refusal of a tree that is no body
abbrev pub query_from : Option Body → Result Line Refusal
query_from (Some body) = Ok (line.Query body)
query_from None = Err refusal.Query

-- ---- what a line asks for

-- what is asked with the tree that a text stands for; a text that stands for none is refused
abbrev pub with_tree_of : Reading → (Tree → Result Line Refusal) → Result Line Refusal
with_tree_of (Stands tree) ask = ask tree
with_tree_of NotJson ask = Err refusal.Json
with_tree_of NotWhole ask = Err refusal.Number

-- the line of that form with that document
abbrev pub line_with : DocumentForm → Tree → Line
line_with document.Create tree = line.Create tree
line_with document.Upsert tree = line.Upsert tree
line_with document.Replace tree = line.Replace tree

abbrev pub line_in : Form → Result Line Refusal
line_in (Document form text) = with_tree_of (reading text)
    (λ tree. unless (document_causes tree) (Ok (line_with form tree)))
line_in (Delete id) = unless (id_causes id) (Ok (line.Delete id))
line_in (Read id) = unless (id_causes id) (Ok (line.Read id))
line_in (Query text) = with_tree_of (reading text)
    (λ tree. unless (query_causes tree) (query_from (body_of tree)))

abbrev pub of_form : Option Form → Result Line Refusal
of_form (Some form) = line_in form
of_form None = Err refusal.Command

abbrev pub line_of : List ℕ → Result Line Refusal
line_of bytes = unless (line_causes bytes) (of_form (form_of (without_return bytes)))

-- ---- the lines that are judged without memory

-- the form has a tree for its argument
abbrev pub has_tree : Option Form → Bool
has_tree (Some (Document form text)) = true
has_tree (Some (Delete id)) = false
has_tree (Some (Read id)) = false
has_tree (Some (Query text)) = true
has_tree None = false

-- No tree has to be read to tell whether the line is refused: it is too long, or its form has none.
abbrev pub is_judged_at_once : List ℕ → Bool
is_judged_at_once bytes =
    nat_lt most_line_bytes (length bytes) || not (has_tree (form_of (without_return bytes)))
