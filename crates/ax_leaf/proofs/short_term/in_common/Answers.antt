use Rattle.std.proofs.Common.{arith, ◌∙◌, sym}
use Rattle.ax_leaf.proofs.Shared.{all_of_one, no_more}
use Rattle.ax_leaf.proofs.short_term.in_common.Goals as goal

pub returns-then-eq-clause-shared : goal.returns-then-eq-clause-shared
returns-then-eq-clause-shared c = all_of_one c.args.a.now c.args.b.now (sym c.if-eq.true ∙ c.eq.ensures)

pub returns-clause-shared : goal.returns-clause-shared
returns-clause-shared c =
    omega (arith, no_more c.args.a.now c.args.b.now c.loop-place.place (omega arith), c.loop-place.invariant)
