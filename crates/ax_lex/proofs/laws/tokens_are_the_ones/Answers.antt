use Rattle.ax_lex.proofs.TokenLaws.{SameList, tokens_one}
use Rattle.ax_lex.proofs.laws.tokens_are_the_ones.Goals as goal

pub returns : goal.returns
returns c text a b x y s t =
    let same : SameList a b x y = tokens_one s.reads t.reads in
    (same.tokens, same.lexemes)
