-- What `next_back` of `chars` gives, seen by the characters.
use Rattle.std.proofs.Common.{◌∙◌, sym, ap, ◌++◌, length}
use Rattle.std.specs.Char.{encode_utf8}
use Rattle.ax_func.proofs.Characters.{last_of, no_character}
use Rattle.ax_func.proofs.chars.last.Goals as goal

pub returns : goal.returns
returns c =
    last_of c.args.text.now c.as_str.result.now c.in-Some.character c.utf8.text c.as_str.utf8
    (sym c.chars-left.ensures.rest ∙ c.in-Some.ensures.steps
    ∙ ap (λ r. r ++ encode_utf8 c.in-Some.character) (sym c.as_str.ensures))

pub returns-in_default : goal.returns-in_default
returns-in_default c =
    no_character c.args.text.now
    (ap length (sym c.chars-left.ensures.rest) ∙ c.in_default.ensures.steps.0)
