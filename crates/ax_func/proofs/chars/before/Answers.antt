-- The text is its front and its rest, so it may be cut between them.
use Rattle.std.proofs.Common.{◌∙◌, arith, ap, take}
use Rattle.std.specs.Str.{chars, encode_utf8_all}
use Rattle.ax_func.proofs.Characters.{front_and_rest, rest_is_short, cut_boundary, cut_front}
use Rattle.ax_func.proofs.chars.before.Goals as goal

pub overflow_sub-text : goal.overflow_sub-text
overflow_sub-text c =
    rest_is_short c.args.text.now _ c.after-rest.result.now
    (front_and_rest c.args.text.now c.after-rest.result.now c.args.count c.utf8.text
    c.after-rest.utf8 c.after-rest.ensures)

pub range-requires-clause-end_boundary : goal.range-requires-clause-end_boundary
range-requires-clause-end_boundary c =
    cut_boundary c.args.text.now _ c.after-rest.result.now c.after-rest.utf8
    (front_and_rest c.args.text.now c.after-rest.result.now c.args.count c.utf8.text
    c.after-rest.utf8 c.after-rest.ensures)

pub returns : goal.returns
returns c =
    let text = c.args.text.now in
    c.range.ensures.value
    ∙ ap (λ n. take n text) (omega arith)
    ∙ cut_front c.args.text.now (encode_utf8_all (take c.args.count (chars c.args.text.now)))
    c.after-rest.result.now
    (front_and_rest c.args.text.now c.after-rest.result.now c.args.count c.utf8.text
    c.after-rest.utf8 c.after-rest.ensures)
