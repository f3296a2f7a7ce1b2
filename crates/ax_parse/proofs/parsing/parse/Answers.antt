use Rattle.std.proofs.Common.{sym, subst, arith}
use Rattle.ax_lex.specs.Lexemes.{lexemes_of}
use Rattle.ax_lex.specs.Tokens.{AreTokens}
use Rattle.ax_parse.proofs.Whole.{is_found, is_refused, is_scoped}
use Rattle.ax_parse.proofs.parsing.parse.Goals as goal

pub returns-clause-found : goal.returns-clause-found
returns-clause-found c =
    let are = subst (λ ts. AreTokens c.args.text.now ts (lexemes_of c.args.text.now ts))
    (sym c.deref.ensures.value) c.in_ok-tokens.ensures.ok in
    is_found c.args.text.now c.args.params.now _ _ (omega (arith, c.if-text-gt-MOST_BYTES.false)) are
    c.from_tokens.result (c.from_tokens.ensures are)

pub returns-clause-scoped : goal.returns-clause-scoped
returns-clause-scoped c =
    let are = subst (λ ts. AreTokens c.args.text.now ts (lexemes_of c.args.text.now ts))
    (sym c.deref.ensures.value) c.in_ok-tokens.ensures.ok in
    is_scoped c.args.text.now c.args.params.now _ _ (omega (arith, c.if-text-gt-MOST_BYTES.false)) are
    c.from_tokens.result (c.from_tokens.ensures are)

pub returns-clause-refused : goal.returns-clause-refused
returns-clause-refused c =
    let are = subst (λ ts. AreTokens c.args.text.now ts (lexemes_of c.args.text.now ts))
    (sym c.deref.ensures.value) c.in_ok-tokens.ensures.ok in
    is_refused c.args.text.now c.args.params.now _ _ (omega (arith, c.if-text-gt-MOST_BYTES.false)) are
    c.from_tokens.result (c.from_tokens.ensures are)
