use Rattle.ax_lex.proofs.TokenLaws.{sign_taken}
use Rattle.ax_lex.proofs.lex.split_token.Goals as goal

pub returns-in_ok-after-in-Sign : goal.returns-in_ok-after-in-Sign
returns-in_ok-after-in-Sign c =
    sign_taken _ _ c.args.bytes.now _ c.in_ok-first.ensures.cases.0 c.in-Sign.ensures
    c.in_ok-after-in-Sign.ensures
