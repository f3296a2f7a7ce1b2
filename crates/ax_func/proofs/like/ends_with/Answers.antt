-- The last characters of the text, as many as the piece has, are the piece.
use Rattle.std.proofs.Common.{ap, ◌∙◌, ◌-◌, length, drop}
use Rattle.std.specs.Str.{chars, encode_utf8_all}
use Rattle.ax_func.proofs.Pieces.{ends_there}
use Rattle.ax_func.proofs.like.ends_with.Goals as goal

pub returns : goal.returns
returns c =
    c.eq.ensures
    ∙ ends_there c.args.text.now c.args.piece.now c.ending.result.now c.utf8.piece c.requires
    (c.ending.ensures
    ∙ ap (λ n. encode_utf8_all (drop (length (chars c.args.text.now) - n) (chars c.args.text.now)))
    c.char_count.ensures)
