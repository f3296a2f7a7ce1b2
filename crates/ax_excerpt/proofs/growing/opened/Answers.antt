-- The part that is taken out may be put back.
use Rattle.std.proofs.Common.{◌≡◌, ◌+◌, ◌<◌, ◌++◌, length, take, drop, get_or, ◌∙◌, ap, sym, subst}
use Rattle.ax_tree.specs.declared.members.Member.{Member}
use Rattle.ax_excerpt.specs.declared.excerpt.Excerpt.{Excerpt}
use Rattle.ax_excerpt.proofs.Grown.{taken_out}
use Rattle.ax_excerpt.proofs.RisingParts.{old_room}
use Rattle.ax_excerpt.proofs.growing.opened.Goals as goal

pub returns-in-Ok-clause-room : goal.returns-in-Ok-clause-room
returns-in-Ok-clause-room c =
    let whole : c.into_vec-parts.result.items ≡ c.args.parts = c.into_vec-parts.ensures.members in
    old_room c.args.parts c.remove-name.new.self.items c.in-Ok.at c.remove-name.result
    c.into_vec-parts.ensures.rising
    (subst (λ l. c.in-Ok.at < length l) (c.as_slice.ensures.value ∙ whole) c.in-Ok.ensures.found)
    (c.remove-name.ensures.value ∙ ap (λ l. get_or l c.in-Ok.at c.remove-name.result) whole)
    (c.remove-name.ensures.by_index.2 ∙ ap (λ l. take c.in-Ok.at l ++ drop (c.in-Ok.at + 1) l) whole)

pub returns-in-Ok-clause-opened : goal.returns-in-Ok-clause-opened
returns-in-Ok-clause-opened c =
    let whole : c.into_vec-parts.result.items ≡ c.args.parts = c.into_vec-parts.ensures.members in
    let is : c.remove-name.result ≡ get_or c.args.parts c.in-Ok.at c.remove-name.result =
    c.remove-name.ensures.value ∙ ap (λ l. get_or l c.in-Ok.at c.remove-name.result) whole in
    let named : (get_or c.args.parts c.in-Ok.at c.remove-name.result).name ≡ c.args.name.now =
    ap (λ l. (get_or l c.in-Ok.at c.remove-name.result).name) (sym (c.as_slice.ensures.value ∙ whole))
    ∙ c.in-Ok.ensures.same c.remove-name.result ∙ c.as_str.ensures.text in
    taken_out c.args.parts c.remove-name.new.self.items c.in-Ok.at c.remove-name.result c.args.name.now
    c.into_vec-parts.ensures.rising
    (subst (λ l. c.in-Ok.at < length l) (c.as_slice.ensures.value ∙ whole) c.in-Ok.ensures.found)
    is (ap (λ (m : Member Excerpt). m.name) is ∙ named)
    (c.remove-name.ensures.by_index.2 ∙ ap (λ l. take c.in-Ok.at l ++ drop (c.in-Ok.at + 1) l) whole)
