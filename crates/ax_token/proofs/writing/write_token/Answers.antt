-- The word is made of the token's bytes.
use Rattle.std.proofs.Common.{◌∙◌, ◌++◌, List, ℕ, ap}
use Rattle.ax_token.specs.TokenBytes.{token_bytes}
use Rattle.ax_token.proofs.Words.{word_written}
use Rattle.ax_token.proofs.writing.write_token.Goals as goal

pub returns : goal.returns
returns c =
    word_written c.args.token.now c.as_slice-3.result.now c.put_token.new.out.items c.word_of.result
    c.in_ok-put_token.ensures.spelling c.as_slice-3.ensures.value
    (c.in_ok-put_token.ensures.bytes ∙ ap (λ (bs : List ℕ). bs ++ token_bytes c.args.token.now) c.in_ok-bytes.ensures.items)
    c.word_of.ensures.spelled c.word_of.ensures.fit
