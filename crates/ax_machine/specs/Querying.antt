-- The reply to a query: the query that its text is, with its parameters, answered over all documents
-- that the container has. It knows no index and no page; the policy now decides which orders are kept.
use Rattle.std.specs.Prelude.{ℕ, List, [], ◌∷◌, map, not, Option, Some, None, Result, Ok, Err}
use Rattle.ax_tree.specs.declared.tree.Tree.{Tree}
use Rattle.ax_tree.specs.CanonicalText.{canonical_text}
use Rattle.ax_mean.specs.declared.query.Query.{Query}
use Rattle.ax_result.specs.Answers.{answer_of}
use Rattle.ax_grammar.specs.Query.{query_in}
use Rattle.ax_policy.specs.declared.policy.Policy.{Policy}
use Rattle.ax_policy.specs.Sameness.{is_orderable}
use Rattle.ax_container.specs.Container.{Container}
use Rattle.ax_lines.specs.declared.body.Body.{Body}
use Rattle.ax_lines.specs.declared.refusal.Refusal.{Refusal}
use Rattle.ax_lines.specs.declared.refusal.Refusal.TheVariants as refusal
use Rattle.ax_lines.specs.Causes.{Cause, unless}
use Rattle.ax_machine.specs.Reply as reply

-- the documents in the order of their creation, each its number and its tree
abbrev pub numbered : Container → List (ℕ × Tree)
numbered container = map (λ entry. (entry.number, entry.tree)) container.entries

-- The causes of refusal of a query that was read, under that policy: that it keeps no order for its ORDER BY.
abbrev pub causes : Policy → Query → List Cause
causes policy query =
    record { applies = not (is_orderable policy query.orders); refusal = refusal.Order } ∷ []

-- the rows of a query over all documents, as texts
abbrev pub rows_of : Query → Container → List (List ℕ)
rows_of query container =
    map (λ row. canonical_text row.shown) (answer_of query (numbered container))

-- the rows of a query, or the first refusal of it under that policy; a text that is no query is refused
abbrev pub rows_under : Policy → Option Query → Container → Result (List (List ℕ)) Refusal
rows_under policy None container = Err refusal.Query
rows_under policy (Some query) container = unless (causes policy query) (Ok (rows_of query container))

-- the same under the policy now
abbrev pub rows_or_refusal : Option Query → Container → Result (List (List ℕ)) Refusal
rows_or_refusal query container = rows_under container.policy query container

abbrev pub rows_reply : Result (List (List ℕ)) Refusal → reply.Reply
rows_reply (Ok rows) = reply.Rows rows reply.End
rows_reply (Err why) = reply.Refused why

abbrev pub query_reply : Body → Container → reply.Reply
query_reply body container = rows_reply (rows_or_refusal (query_in body.params body.text) container)
