-- What query a text is, by the grammar's two laws.
use Rattle.std.proofs.Common.{◌≡◌, ℕ, List, Option, Some, None, refl, sym}
use Rattle.ax_grammar.specs.Query.{IsQuery, query_in}
use Rattle.ax_grammar.proofs.InText.{in_sound, in_complete}
use Rattle.ax_mean.specs.declared.query.Query.{Query}
use Rattle.ax_tree.specs.declared.members.Member.{Member}
use Rattle.ax_tree.specs.declared.tree.Tree.{Tree}

none_at : (text : List ℕ) (params : List (Member Tree)) (found : Option Query)
    → query_in params text ≡ found → ((query : Query) → ¬ IsQuery text params query)
    → query_in params text ≡ None
none_at text params None is none = is
none_at text params (Some query) is none = absurd (none query (in_sound text params query is))

pub no_query : (text : List ℕ) (params : List (Member Tree))
    → ((query : Query) → ¬ IsQuery text params query) → None ≡ query_in params text
no_query text params none = sym (none_at text params (query_in params text) refl none)

pub some_query : (text : List ℕ) (params : List (Member Tree)) (query : Query)
    → IsQuery text params query → Some query ≡ query_in params text
some_query text params query is = sym (in_complete text params query is)
