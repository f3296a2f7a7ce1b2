use Rattle.std.proofs.Common.{◌≡◌, ◌+◌, ◌++◌, take, drop, get_or, ◌∙◌, ap, subst}
use Rattle.ax_policy.specs.RuleTrees.{IsFound}
use Rattle.ax_policy.proofs.NamePlaces.{opened_there}
use Rattle.ax_policy.proofs.with_rule.opened.Goals as goal

pub returns-in-Ok : goal.returns-in-Ok
returns-in-Ok c =
    let whole : c.into_vec-names.result.items ≡ c.args.names = c.into_vec-names.ensures.members in
    opened_there c.args.names c.remove-name.new.self.items c.args.name.now c.in-Ok.at c.remove-name.result
    c.into_vec-names.ensures.rising
    (subst (λ n. IsFound n c.args.names c.in-Ok.at) c.as_str.ensures.text
    (subst (λ l. IsFound c.as_str.result.now l c.in-Ok.at) (c.as_slice.ensures.value ∙ whole) c.in-Ok.ensures.found))
    (c.remove-name.ensures.value ∙ ap (λ l. get_or l c.in-Ok.at c.remove-name.result) whole)
    (c.remove-name.ensures.by_index.2 ∙ ap (λ l. take c.in-Ok.at l ++ drop (c.in-Ok.at + 1) l) whole)
