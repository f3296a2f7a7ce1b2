-- Two lists are compared element by element.
use Rattle.std.proofs.Common.{◌∙◌, sym, ap, ap₂, drop, arith, ◌&&◌, ◌+◌}
use Rattle.std.proofs.lemmas.List.{drop_all}
use Rattle.ax_grammar.specs.SameExprs.{all_steps_same}
use Rattle.ax_scope.proofs.Pairs.{turn, steps_uneven}
use Rattle.ax_scope.proofs.same_parts.same_steps.Goals as goal

pub returns-then-left-right : goal.returns-then-left-right
returns-then-left-right c =
    sym (steps_uneven _ _ c.if-left-right.true)
    ∙ ap₂ all_steps_same c.as_slice-left.ensures c.as_slice-right.ensures

pub returns-then-not-same_step : goal.returns-then-not-same_step
returns-then-not-same_step c =
    let xs = c.as_slice-left.result.now in
    let ys = c.as_slice-right.result.now in
    let i = c.loop-at.at in
    ap (λ b. b && all_steps_same (drop (i + 1) xs) (drop (i + 1) ys)) c.if-not-same_step.ensures
    ∙ sym
    (turn all_steps_same xs ys i _ _ c.loop-at-test.true c.if-left-right.false c.index-left-at.is
    c.index-right-at.is)
    ∙ c.loop-at.invariant
    ∙ ap₂ all_steps_same c.as_slice-left.ensures c.as_slice-right.ensures

pub loop-at-preserved : goal.loop-at-preserved
loop-at-preserved c =
    let xs = c.as_slice-left.result.now in
    let ys = c.as_slice-right.result.now in
    let i = c.loop-at.at in
    ap (λ b. b && all_steps_same (drop (i + 1) xs) (drop (i + 1) ys)) c.if-not-same_step.ensures
    ∙ sym
    (turn all_steps_same xs ys i _ _ c.loop-at-test.true c.if-left-right.false c.index-left-at.is
    c.index-right-at.is)
    ∙ c.loop-at.invariant

pub returns : goal.returns
returns c =
    let xs = c.as_slice-left.result.now in
    let ys = c.as_slice-right.result.now in
    let i = c.loop-at.at in
    sym
    (ap₂ all_steps_same (drop_all i xs (omega (arith, c.loop-at-test.false)))
    (drop_all i ys (omega (arith, c.loop-at-test.false, c.if-left-right.false))))
    ∙ c.loop-at.invariant
    ∙ ap₂ all_steps_same c.as_slice-left.ensures c.as_slice-right.ensures
