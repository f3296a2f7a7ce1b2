use Rattle.std.proofs.Common.{arith}
use Rattle.std.proofs.lemmas.Bool.{eq-eqb, ne_eqb}
use Rattle.ax_skim.proofs.Blocked.{at_start, at_end, opened, closed_here, closed_one}
use Rattle.ax_skim.proofs.walking.walk.Goals as goal

pub loop-left-init : goal.loop-left-init
loop-left-init c = at_start c.args.brackets c.args.opens c.args.depth c.requires.depth.0

pub overflow_add-depth : goal.overflow_add-depth
overflow_add-depth c =
    record {
      fits = omega (
        arith,
        c.loop-left.invariant.deep.1,
        c.loop-left.invariant.within,
        c.requires.depth.1,
      );
    }

pub loop-left-preserved-then-has_bit : goal.loop-left-preserved-then-has_bit
loop-left-preserved-then-has_bit c =
    opened c.args.brackets c.args.opens c.args.depth c.loop-left.left c.loop-left.depth
    c.lowest-at.result c.loop-left.invariant c.lowest-at.ensures.bound c.lowest-at.ensures.set
    c.lowest-at.ensures.below c.without-left.result c.without-left.ensures.kept
    c.without-left.ensures.cleared c.if-has_bit.ensures

pub returns-then-depth-eq1-clause-same : goal.returns-then-depth-eq1-clause-same
returns-then-depth-eq1-clause-same c =
    closed_here c.args.brackets c.args.opens c.args.depth c.loop-left.left c.loop-left.depth
    c.lowest-at.result c.loop-left.invariant c.lowest-at.ensures.bound c.lowest-at.ensures.set
    c.lowest-at.ensures.below c.if-has_bit.ensures (eq-eqb _ _ c.if-depth-eq1.true)

pub loop-left-preserved : goal.loop-left-preserved
loop-left-preserved c =
    closed_one c.args.brackets c.args.opens c.args.depth c.loop-left.left c.loop-left.depth
    c.lowest-at.result c.loop-left.invariant c.lowest-at.ensures.bound c.lowest-at.ensures.set
    c.lowest-at.ensures.below c.without-left.result c.without-left.ensures.kept
    c.without-left.ensures.cleared c.if-has_bit.ensures
    (ne_eqb _ _ c.if-depth-eq1.false)
    (omega (arith, c.loop-left.invariant.deep.0, c.if-depth-eq1.false))

pub returns-clause-same : goal.returns-clause-same
returns-clause-same c =
    at_end c.args.brackets c.args.opens c.args.depth c.loop-left.left c.loop-left.depth
    c.loop-left.invariant (omega (arith, c.loop-left-test.false))
