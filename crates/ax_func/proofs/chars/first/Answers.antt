-- What `next` of `chars` gives, seen by the characters.
use Rattle.std.proofs.Common.{◌∙◌, sym, ap, ◌++◌}
use Rattle.std.specs.Char.{encode_utf8}
use Rattle.ax_func.proofs.Characters.{first_of}
use Rattle.ax_func.proofs.chars.first.Goals as goal

pub returns : goal.returns
returns c =
    first_of c.args.text.now c.as_str.result.now c.in_ok-character.character c.utf8.text
    (sym c.chars-left.ensures.rest ∙ c.in_ok-character.ensures.steps.0
    ∙ ap (λ r. encode_utf8 c.in_ok-character.character ++ r) (sym c.as_str.ensures))
