-- A conjunct is taken where it is covered.
use Rattle.std.proofs.Common.{◌∷◌, ◌++◌, Option, refl, sym, subst}
use Rattle.std.proofs.lemmas.Bool.{both_ways}
use Rattle.std.specs.Option.{option_to_list}
use Rattle.ax_plan.specs.ByPaths.{AreCovered, AreOfConjuncts, uncovered}
use Rattle.ax_plan.specs.declared.sought.Sought.{Sought}
use Rattle.ax_plan.proofs.Unions.{one_more}
use Rattle.ax_plan.proofs.planning.sought_where_covered.Goals as goal

pub returns-then-are_covered : goal.returns-then-are_covered
returns-then-are_covered c = λ conjuncts sought more.
    subst (λ (found : Option Sought). AreOfConjuncts c.args.table.now (c.args.conjunct ∷ conjuncts) (option_to_list found ++ sought))
    (sym c.sought_in.ensures)
    (one_more c.args.table.now c.args.conjunct c.args.conjunct.ranges conjuncts sought refl
    (subst (AreCovered c.args.table.now c.args.conjunct.whole) c.as_slice.ensures
    (c.are_covered.ensures.0 c.if-are_covered.true)) more)

pub returns-else-are_covered : goal.returns-else-are_covered
returns-else-are_covered c = λ conjuncts sought more.
    uncovered c.args.conjunct conjuncts sought
    (λ covered. both_ways c.are_covered.result c.if-are_covered.false
    (c.are_covered.ensures.1 (subst (AreCovered c.args.table.now c.args.conjunct.whole) (sym c.as_slice.ensures) covered)))
    more
