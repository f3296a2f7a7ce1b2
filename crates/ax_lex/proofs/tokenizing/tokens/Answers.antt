use Rattle.std.proofs.Common.{length, List}
use Rattle.ax_lex.specs.Lexeme.{Lexeme}
use Rattle.ax_lex.specs.Tokens.{HasTokens}
use Rattle.ax_lex.proofs.LexemeLaws.{in_complete}
use Rattle.ax_lex.proofs.Meanings.{with_lexemes, then_ok}
use Rattle.ax_lex.proofs.SpanLaws.{all_rise}
use Rattle.ax_lex.proofs.tokenizing.tokens.Goals as goal

pub returns-clause-ok : goal.returns-clause-ok
returns-clause-ok c =
    let text = c.args.text.now in
    then_ok (λ found. (lexemes : List Lexeme) × HasTokens
    (length text) text found.items lexemes) _ c.lex.result
    (λ found h. with_lexemes text found.items c.in-Ok.ensures.cases.1 h) c.lex.ensures.ok

pub returns-clause-lexemes : goal.returns-clause-lexemes
returns-clause-lexemes c =
    let text = c.args.text.now in
    then_ok (λ found. (lexemes : List Lexeme) × HasTokens
    (length text) text found.items lexemes) _ c.lex.result
    (λ found h. in_complete text found.items _ (with_lexemes text found.items
    c.in-Ok.ensures.cases.1 h)) c.lex.ensures.ok

pub returns-clause-spans : goal.returns-clause-spans
returns-clause-spans c =
    let text = c.args.text.now in
    then_ok (λ found. (lexemes : List Lexeme) × HasTokens
    (length text) text found.items lexemes) _ c.lex.result
    (λ found h. all_rise text found.items h.0 h.1) c.lex.ensures.ok
