use Rattle.std.proofs.Common.{sym}
use Rattle.ax_lex.proofs.Words.{word_too_long, word_taken}
use Rattle.ax_lex.proofs.word.split_word.Goals as goal

pub returns-then-is_too_long : goal.returns-then-is_too_long
returns-then-is_too_long c =
    word_too_long _ _ _ _ c.in_ok-first.ensures.cases.0 c.after_word-after.ensures.after
    (sym c.if-is_too_long.ensures)

pub returns : goal.returns
returns c =
    word_taken _ _ _ _ c.in_ok-first.ensures.cases.0 c.after_word-after.ensures.after (cc)
    (sym c.if-is_too_long.ensures)
