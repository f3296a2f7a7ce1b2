-- At the end nothing is left.
use Rattle.std.proofs.Common.{◌≡◌, [], sym, subst, ◌∙◌}
use Rattle.std.proofs.lemmas.List.{append-nil}
use Rattle.std.specs.Vec.Iter.{into_iter_items}
use Rattle.ax_plan.specs.ByPaths.{AreOfConjuncts, empty}
use Rattle.ax_plan.proofs.Unions.{nothing_left}
use Rattle.ax_plan.proofs.planning.usable.Goals as goal

pub returns : goal.returns
returns c =
    let none : into_iter_items c.loop-conjunct.conjunct-iterator ≡ [] =
    nothing_left (into_iter_items c.loop-conjunct.conjunct-iterator)
    (sym c.loop-conjunct.conjunct-iterator.rest.ok.0 ∙ c.in-None.ensures.steps.0) in
    subst (AreOfConjuncts c.args.table.now c.args.found.items)
    (append-nil c.loop-conjunct.sought.items)
    (c.loop-conjunct.invariant.taken []
    (subst (λ conjuncts. AreOfConjuncts c.args.table.now conjuncts []) (sym none) empty))
