-- No part has the name, and the new one keeps nothing.
use Rattle.std.proofs.Common.{◌≡◌, true, sym, ap, ◌∙◌, subst}
use Rattle.ax_excerpt.specs.declared.excerpt.Excerpt.TheVariants.{Part}
use Rattle.ax_excerpt.specs.Openings.{IsOpened}
use Rattle.ax_excerpt.specs.Plain.{are_plain}
use Rattle.ax_excerpt.proofs.Grown.{newly, none_plain}
use Rattle.ax_excerpt.proofs.growing.opened_new.Goals as goal

pub returns-in-Ok-clause-opened : goal.returns-in-Ok-clause-opened
returns-in-Ok-clause-opened c =
    let named : c.in-Ok.name ≡ c.args.name.now = c.in-Ok.ensures in
    let plain : are_plain (Part c.new.result) ≡ true =
    ap (λ ps. are_plain (Part ps)) c.new.ensures ∙ none_plain in
    subst (λ n. IsOpened c.args.parts.items c.args.name.now n c.args.parts.items (Part c.new.result))
    (sym named) (newly c.args.parts.items c.args.at c.args.name.now (Part c.new.result) c.requires plain)
