use Rattle.std.proofs.Common.{ℕ, List, ◌∷◌, [], ◌++◌, ap, subst, ◌∙◌}
use Rattle.ax_terms.specs.Adding.{AddsAt}
use Rattle.ax_terms.specs.Leaves.{leaves}
use Rattle.ax_terms.proofs.TermSets.{plain_from_top}
use Rattle.ax_terms.proofs.terms.plain_terms.Goals as goal

pub returns : goal.returns
returns c =
    plain_from_top c.walk.result c.args.policy.now c.args.tree.now c.push.new.self.items
    c.append_leaves.new.terms.items c.walk.ensures
    (c.in_ok-push.ensures.items ∙ ap (λ bs. bs ++ 2 ∷ []) c.new-front.ensures.items)
    (subst (λ (ts : List (List ℕ)). AddsAt c.walk.result c.push.new.self.items (leaves c.args.tree.now) ts c.append_leaves.new.terms.items)
    c.new-terms.ensures.items c.in_ok-append_leaves.ensures.terms)
