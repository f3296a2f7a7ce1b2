-- What the parser answers, as the query in a text.
use Rattle.std.proofs.Common.{◌≡◌, refl, sym, ℕ, List, Option, Some, None}
use Rattle.ax_tree.specs.declared.members.Member.{Member}
use Rattle.ax_tree.specs.declared.tree.Tree.{Tree}
use Rattle.ax_mean.specs.declared.query.Query.{Query}
use Rattle.ax_grammar.specs.Query.{IsQuery, query_in}
use Rattle.ax_grammar.proofs.InText.{in_sound, in_complete}

pub query_found : (text : List ℕ) (params : List (Member Tree)) (query : Query)
    → IsQuery text params query → Some query ≡ query_in params text
query_found text params query is = sym (in_complete text params query is)

none_at : (text : List ℕ) (params : List (Member Tree)) (found : Option Query)
    → query_in params text ≡ found → ((query : Query) → ¬ IsQuery text params query)
    → None ≡ query_in params text
none_at text params None is refused = sym is
none_at text params (Some query) is refused =
    absurd (refused query (in_sound text params query is))

pub query_refused : (text : List ℕ) (params : List (Member Tree))
    → ((query : Query) → ¬ IsQuery text params query) → None ≡ query_in params text
query_refused text params refused = none_at text params (query_in params text) refl refused
