-- By where std finds the part.
use Rattle.std.proofs.Common.{◌∙◌, sym, ap, Some, length, take, arith}
use Rattle.std.specs.Str.{chars}
use Rattle.ax_func.proofs.PlaceLemmas.{place_of-none, place_of-some}
use Rattle.ax_func.proofs.texts.place.Goals as goal

pub returns-in-None : goal.returns-in-None
returns-in-None c =
    sym
    (place_of-none c.args.text.now c.args.part.now c.utf8.text c.utf8.part c.in-None.ensures.cases)

pub returns-in-Some : goal.returns-in-Some
returns-in-Some c =
    let text = c.args.text.now in
    let found = c.in-Some.ensures.cases in
    ap Some
    (c.char_count.ensures
    ∙ ap (λ t. length (chars t)) (c.range.ensures.value ∙ ap (λ n. take n text) (omega arith)))
    ∙ sym (place_of-some text c.args.part.now c.utf8.text c.utf8.part c.in-Some.at found.0 found.1)
