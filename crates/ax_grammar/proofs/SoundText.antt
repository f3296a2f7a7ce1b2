-- The query that the reader makes of a text's lexemes is the text's query.
use Rattle.std.proofs.Common.{◌≡◌, ℕ, Bool, true, false, List, length, Option, Some, None, refl}
use Rattle.std.specs.Prelude.{nat_le}
use Rattle.std.proofs.lemmas.Bool.{leb-true}
use Rattle.ax_lex.specs.declared.token.Token.{Token}
use Rattle.ax_lex.specs.Lexeme.{Lexeme}
use Rattle.ax_lex.specs.Tokens.{AreTokens}
use Rattle.ax_tree.specs.declared.members.Member.{Member}
use Rattle.ax_tree.specs.declared.tree.Tree.{Tree}
use Rattle.ax_mean.specs.declared.query.Query.{Query}
use Rattle.ax_grammar.specs.Made.{made}
use Rattle.ax_grammar.specs.Query.{IsQuery, most_bytes, query_written, query_of}
use Rattle.ax_grammar.specs.QueryReader.{read_written}
use Rattle.ax_grammar.specs.Reading.{provided}
use Rattle.ax_grammar.specs.Scope.{obeys_rules}
use Rattle.ax_grammar.specs.Written.{Written}
use Rattle.ax_grammar.proofs.Sound.{read_written_sound}

provided_found : {X : Type 0} (b : Bool) (o : Option X) (x : X) → provided b o ≡ Some x
    → (b ≡ true) × (o ≡ Some x)
provided_found true o x e = (refl, e)
provided_found false o x e = absurd (cc)

-- what was written, of the query that it makes
record WasWritten (o : Option Written) (query : Query) : Type 0 where
  written : Written
  was : o ≡ Some written
  obeys : obeys_rules written ≡ true
  is_made : query ≡ made written

was_written : (o : Option Written) (query : Query) → query_written o ≡ Some query
    → WasWritten o query
was_written None query e = absurd (cc)
was_written (Some written) query e =
    let k : (obeys_rules written ≡ true) × (Some (made written) ≡ Some query) =
    provided_found (obeys_rules written) (Some (made written)) query e in
    let same : Some (made written) ≡ Some query = k.1 in
    record { written = written; was = refl; obeys = k.0; is_made = cc same }

pub query_of_sound : (params : List (Member Tree)) (text : List ℕ) (tokens : List Token)
    (lexemes : List Lexeme) (query : Query) → AreTokens text tokens lexemes
    → query_of params text lexemes ≡ Some query → IsQuery text params query
query_of_sound params text tokens lexemes query t e =
    let k : (nat_le (length text) most_bytes ≡ true)
    × (query_written (read_written params lexemes) ≡ Some query) =
    provided_found _ _ query e in
    let w : WasWritten (read_written params lexemes) query =
    was_written (read_written params lexemes) query k.1 in
    record {
      tokens = tokens;
      lexemes = lexemes;
      written = w.written;
      short = leb-true (length text) most_bytes k.0;
      reads = t;
      writes = read_written_sound params lexemes w.written w.was;
      obeys = w.obeys;
      is_made = w.is_made;
    }
