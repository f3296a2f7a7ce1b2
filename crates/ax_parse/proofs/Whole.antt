-- From what is read of a text's lexemes to what query the text is.
use Rattle.std.proofs.Common.{◌≡◌, ℕ, ◌≤◌, ◌<◌, List, length, Option, Some, None, Result, Ok, Err, refl, sym, ◌∙◌, le-leb, arith}
use Rattle.std.specs.Prelude.{IfOk}
use Rattle.ax_lex.specs.declared.token.Token.{Token}
use Rattle.ax_lex.specs.Lexeme.{Lexeme}
use Rattle.ax_lex.specs.Tokens.{AreTokens}
use Rattle.ax_tree.specs.declared.members.Member.{Member}
use Rattle.ax_tree.specs.declared.tree.Tree.{Tree}
use Rattle.ax_mean.specs.declared.query.Query.{Query}
use Rattle.ax_grammar.specs.Query.{IsQuery, most_bytes, query_of, query_written}
use Rattle.ax_grammar.specs.QueryReader.{read_written}
use Rattle.ax_grammar.specs.Scoped.{IsScoped}
use Rattle.ax_grammar.proofs.Scoping.{query_scoped}
use Rattle.ax_grammar.proofs.SoundText.{query_of_sound}
use Rattle.ax_grammar.proofs.CompleteText.{query_of_complete}
use Rattle.ax_parse.specs.declared.fault.ParseFault.{ParseFault}
use Rattle.ax_parse.specs.declared.fault.ParseFault.TheVariants as parse
use Rattle.ax_parse.specs.Reads.{IsValue}

pub too_long : (text : List ℕ) (params : List (Member Tree)) (query : Query)
    → most_bytes < length text → IsQuery text params query → ⊥
too_long text params query h is = omega (arith, is.short)

same_fault : (a b : ParseFault) → ◌≡◌ {A = Result Query ParseFault} (Err a) (Err b) → a ≡ b
same_fault a b h = cc

none_not_some : (query : Query) → None ≡ Some query → ⊥
none_not_some query h = absurd (cc)

not_both : (query : Query) {found : Option Query} → found ≡ Some query → found ≡ None → ⊥
not_both query a b = none_not_some query (sym b ∙ a)

module _ (text : List ℕ) (params : List (Member Tree)) (tokens : List Token)
    (lexemes : List Lexeme) (short : length text ≤ most_bytes)
    (are : AreTokens text tokens lexemes) where
  short_enough : query_of params text lexemes ≡ query_written (read_written params lexemes)
  short_enough = rw (le-leb (length text) most_bytes short) refl

  pub is_found : (result : Result Query ParseFault)
      → IsValue result (query_written (read_written params lexemes))
      → IfOk result (λ query. IsQuery text params query)
  is_found (Ok query) e = query_of_sound params text tokens lexemes query are (short_enough ∙ e)
  is_found (Err fault) e = tt

  pub is_scoped : (result : Result Query ParseFault)
      → IsValue result (query_written (read_written params lexemes)) → IfOk result IsScoped
  is_scoped (Ok query) e =
      query_scoped (query_of_sound params text tokens lexemes query are (short_enough ∙ e))
  is_scoped (Err fault) e = tt

  pub is_refused : (result : Result Query ParseFault)
      → IsValue result (query_written (read_written params lexemes))
      → result ≡ Err parse.Text → (query : Query) → IsQuery text params query → ⊥
  is_refused (Ok found) e r query is = absurd (cc)
  is_refused (Err fault) e r query is =
      not_both query (query_of_complete is are) (short_enough ∙ e (same_fault fault parse.Text r))
