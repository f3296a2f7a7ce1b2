-- What follows the characters that are left out, as bytes.
use Rattle.std.proofs.Common.{◌∙◌, sym, ap, drop, ◌-◌}
use Rattle.std.proofs.lemmas.Str.{encodes-chars}
use Rattle.std.specs.Str.{chars, encode_utf8_all}
use Rattle.ax_func.proofs.chars.ending.Goals as goal

pub returns : goal.returns
returns c =
    let rest = c.after.result.now in
    sym (encodes-chars rest c.after.utf8)
    ∙ ap encode_utf8_all
    (c.after.ensures
    ∙ ap (λ n. drop n (chars c.args.text.now))
    (c.saturating_sub.ensures ∙ ap (λ n. n - c.args.count) c.char_count.ensures))
