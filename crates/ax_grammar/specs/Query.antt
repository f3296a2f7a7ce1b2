-- The query that a text is.
use Rattle.std.specs.Prelude.{◌≡◌, ℕ, ◌≤◌, nat_le, List, length, true, Option, Some, None, option_and_then}
use Rattle.ax_lex.specs.declared.token.Token.{Token}
use Rattle.ax_lex.specs.Lexeme.{Lexeme}
use Rattle.ax_lex.specs.LexemesIn.{lexemes_in}
use Rattle.ax_lex.specs.Tokens.{AreTokens}
use Rattle.ax_tree.specs.declared.members.Member.{Member}
use Rattle.ax_tree.specs.declared.tree.Tree.{Tree}
use Rattle.ax_mean.specs.declared.query.Query.{Query}
use Rattle.ax_grammar.specs.Made.{made}
use Rattle.ax_grammar.specs.Queries.{IsWritten}
use Rattle.ax_grammar.specs.QueryReader.{read_written}
use Rattle.ax_grammar.specs.Reading.{provided}
use Rattle.ax_grammar.specs.Scope.{obeys_rules}
use Rattle.ax_grammar.specs.Written.{Written}

-- the most bytes that the text of a query has
abbrev pub most_bytes : ℕ
most_bytes = 16384

-- The text is this query, with parameters whose names have their `@`: it is not too long, its
-- lexemes are written by the grammar, the rules of scope hold, and the query is made of that.
pub record IsQuery (text : List ℕ) (params : List (Member Tree)) (query : Query) : Type 0 where
  pub tokens : List Token
  pub lexemes : List Lexeme
  pub written : Written
  pub short : length text ≤ most_bytes
  pub reads : AreTokens text tokens lexemes
  pub writes : IsWritten params lexemes written
  pub obeys : obeys_rules written ≡ true
  pub is_made : query ≡ made written

-- the query that lexemes are, where they are those of a text
abbrev pub query_written : Option Written → Option Query
query_written None = None
query_written (Some written) = provided (obeys_rules written) (Some (made written))

abbrev pub query_of : List (Member Tree) → List ℕ → List Lexeme → Option Query
query_of params text lexemes =
    provided (nat_le (length text) most_bytes) (query_written (read_written params lexemes))

-- the query in a text: a function, for definitions that ask what a text is; a law says that it finds
-- exactly the query that the grammar relates
abbrev pub query_in : List (Member Tree) → List ℕ → Option Query
query_in params text = option_and_then (query_of params text) (lexemes_in text)
