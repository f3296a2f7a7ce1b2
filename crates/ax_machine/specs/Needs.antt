-- How many steps of work a line may count: each document that it needs may be fetched once and, by a
-- query, evaluated once. A query needs its candidates. A creation and a refused line need none.
use Rattle.std.specs.Prelude.{ℕ, ◌+◌, ◌*◌, List, [], ◌∷◌, Option, Some, None, Result, Ok, Err, if◌then◌else◌}
use Rattle.ax_tree.specs.Document.{document_id}
use Rattle.ax_container.specs.Container.{Container, contains}
use Rattle.ax_lines.specs.declared.line.Line.{Line}
use Rattle.ax_lines.specs.declared.line.Line.TheVariants as line
use Rattle.ax_lines.specs.declared.refusal.Refusal.{Refusal}
use Rattle.ax_lines.specs.Lines.{line_of}
use Rattle.ax_mean.specs.declared.query.Query.{Query}
use Rattle.ax_grammar.specs.Query.{query_in}
use Rattle.ax_needs.specs.Needs.{need_of_query}
use Rattle.ax_machine.specs.Querying.{rows_or_refusal}
use Rattle.ax_machine.specs.Run.{Exchange, after_line}

-- a replacement, a deletion and a read need the document of their id, where it is held
abbrev pub held_need : Option (List ℕ) → Container → ℕ
held_need None container = 0
held_need (Some id) container = if contains id container then 1 else 0

-- a query that is answered needs its candidates
abbrev pub query_need : Result (List (List ℕ)) Refusal → Option Query → Container → ℕ
query_need (Ok rows) (Some query) container = need_of_query query container
query_need (Ok rows) None container = 0
query_need (Err why) query container = 0

abbrev pub most_steps_of : Container → Result Line Refusal → ℕ
most_steps_of container (Ok (line.Create tree)) = 0
most_steps_of container (Ok (line.Upsert tree)) = held_need (document_id tree) container
most_steps_of container (Ok (line.Replace tree)) = held_need (document_id tree) container
most_steps_of container (Ok (line.Delete id)) = held_need (Some id) container
most_steps_of container (Ok (line.Read id)) = held_need (Some id) container
most_steps_of container (Ok (line.Query body)) =
    2 * query_need (rows_or_refusal (query_in body.params body.text) container) (query_in body.params body.text)
    container
most_steps_of container (Err why) = 0

-- the most steps that a line counts
abbrev pub most_steps : Container → List ℕ → ℕ
most_steps container bytes = most_steps_of container (line_of bytes)

-- the most steps that a run counts
abbrev pub most_steps_in : Container → List Exchange → ℕ
most_steps_in before [] = 0
most_steps_in before (exchange ∷ run) =
    most_steps before exchange.line
    + most_steps_in (after_line before exchange.line exchange.outcome) run
