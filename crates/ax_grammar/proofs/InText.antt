-- The query in a text, by the lexemes in it.
use Rattle.std.specs.Prelude.{◌≡◌, refl, ℕ, List, Option, Some, None, option_and_then}
use Rattle.std.proofs.Common.{◌∙◌, ap}
use Rattle.ax_lex.specs.Lexeme.{Lexeme}
use Rattle.ax_lex.specs.LexemesIn.{lexemes_in}
use Rattle.ax_lex.proofs.LexemeLaws.{lexemes_exact}
use Rattle.ax_tree.specs.declared.members.Member.{Member}
use Rattle.ax_tree.specs.declared.tree.Tree.{Tree}
use Rattle.ax_mean.specs.declared.query.Query.{Query}
use Rattle.ax_grammar.specs.Query.{IsQuery, query_of, query_in}
use Rattle.ax_grammar.proofs.SoundText.{query_of_sound}
use Rattle.ax_grammar.proofs.CompleteText.{query_of_complete}

sound_at : (text : List ℕ) (params : List (Member Tree)) (query : Query)
    (found : Option (List Lexeme)) → lexemes_in text ≡ found
    → option_and_then (query_of params text) found ≡ Some query → IsQuery text params query
sound_at text params query None at read = absurd (cc)
sound_at text params query (Some lexemes) at read =
    let tokens = (lexemes_exact text lexemes).0 at in
    query_of_sound params text tokens.0 lexemes query tokens.1 read

pub in_sound : (text : List ℕ) (params : List (Member Tree)) (query : Query)
    → query_in params text ≡ Some query → IsQuery text params query
in_sound text params query = sound_at text params query (lexemes_in text) refl

pub in_complete : (text : List ℕ) (params : List (Member Tree)) (query : Query)
    → IsQuery text params query → query_in params text ≡ Some query
in_complete text params query is =
    ap (option_and_then (query_of params text)) ((lexemes_exact text is.lexemes).1 (is.tokens, is.reads))
    ∙ query_of_complete is is.reads
