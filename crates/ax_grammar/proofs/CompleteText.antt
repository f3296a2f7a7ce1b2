-- The reader finds the query that a text is, in the lexemes of the text; so a text is one query at
-- most.
use Rattle.std.proofs.Common.{◌≡◌, ℕ, List, length, Option, Some, sym, ap, ◌∙◌, le-leb}
use Rattle.ax_lex.specs.declared.token.Token.{Token}
use Rattle.ax_lex.specs.Lexeme.{Lexeme}
use Rattle.ax_lex.specs.Tokens.{AreTokens}
use Rattle.ax_lex.proofs.TokenLaws.{SameList, tokens_one}
use Rattle.ax_tree.specs.declared.members.Member.{Member}
use Rattle.ax_tree.specs.declared.tree.Tree.{Tree}
use Rattle.ax_mean.specs.declared.query.Query.{Query}
use Rattle.ax_grammar.specs.Query.{IsQuery, most_bytes, query_of}
use Rattle.ax_grammar.proofs.CompleteWritten.{read_written_complete}

abbrev is_found : Query → Option Query
is_found query = Some query

found_of_own : {text : List ℕ} {params : List (Member Tree)} {query : Query}
    (q : IsQuery text params query) → query_of params text q.lexemes ≡ is_found query
found_of_own {text} q =
    rw (le-leb (length text) most_bytes q.short, read_written_complete q.writes, q.obeys)
    (ap is_found (sym q.is_made))

-- the reader finds the query that a text is, in the lexemes of the text
pub query_of_complete : {text : List ℕ} {params : List (Member Tree)} {query : Query}
    {tokens : List Token} {lexemes : List Lexeme} → IsQuery text params query
    → AreTokens text tokens lexemes → query_of params text lexemes ≡ Some query
query_of_complete {text} {params} {query} {tokens} {lexemes} q t =
    let same : SameList tokens q.tokens lexemes q.lexemes = tokens_one t.reads q.reads.reads in
    ap (query_of params text) same.lexemes ∙ found_of_own q

-- a text is one query at most
pub query_one : {text : List ℕ} {params : List (Member Tree)} {a b : Query}
    → IsQuery text params a → IsQuery text params b → a ≡ b
query_one {text} {params} {a} {b} x y =
    let one : query_of params text x.lexemes ≡ Some a = query_of_complete x x.reads in
    let other : query_of params text x.lexemes ≡ Some b = query_of_complete y x.reads in
    cc
