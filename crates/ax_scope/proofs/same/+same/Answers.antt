-- Two lists are compared element by element.
use Rattle.std.proofs.Common.{◌∙◌, sym, ap, ap₂, drop, arith, ◌&&◌, ◌+◌}
use Rattle.std.proofs.lemmas.List.{drop_all}
use Rattle.ax_scope.proofs.Pairs.{turn, exprs_pass, chains_pass, members_pass, exprs_uneven, chains_uneven, members_uneven}
use Rattle.ax_scope.proofs.same.+same.Goals as goal

pub same_exprs-returns-then-left-right : goal.same_exprs-returns-then-left-right
same_exprs-returns-then-left-right t c =
    sym (exprs_uneven _ _ c.if-left-right.true)
    ∙ ap₂ exprs_pass c.as_slice-left.ensures c.as_slice-right.ensures

pub same_exprs-returns-then-not-same : goal.same_exprs-returns-then-not-same
same_exprs-returns-then-not-same t c =
    let xs = c.as_slice-left.result.now in
    let ys = c.as_slice-right.result.now in
    let i = c.loop-at.at in
    ap (λ b. b && exprs_pass (drop (i + 1) xs) (drop (i + 1) ys)) c.if-not-same.ensures
    ∙ sym
    (turn exprs_pass xs ys i _ _ c.loop-at-test.true c.if-left-right.false c.index-left-at.is
    c.index-right-at.is)
    ∙ c.loop-at.invariant
    ∙ ap₂ exprs_pass c.as_slice-left.ensures c.as_slice-right.ensures

pub same_exprs-loop-at-preserved : goal.same_exprs-loop-at-preserved
same_exprs-loop-at-preserved t c =
    let xs = c.as_slice-left.result.now in
    let ys = c.as_slice-right.result.now in
    let i = c.loop-at.at in
    ap (λ b. b && exprs_pass (drop (i + 1) xs) (drop (i + 1) ys)) c.if-not-same.ensures
    ∙ sym
    (turn exprs_pass xs ys i _ _ c.loop-at-test.true c.if-left-right.false c.index-left-at.is
    c.index-right-at.is)
    ∙ c.loop-at.invariant

pub same_exprs-returns : goal.same_exprs-returns
same_exprs-returns t c =
    let xs = c.as_slice-left.result.now in
    let ys = c.as_slice-right.result.now in
    let i = c.loop-at.at in
    sym
    (ap₂ exprs_pass (drop_all i xs (omega (arith, c.loop-at-test.false)))
    (drop_all i ys (omega (arith, c.loop-at-test.false, c.if-left-right.false))))
    ∙ c.loop-at.invariant
    ∙ ap₂ exprs_pass c.as_slice-left.ensures c.as_slice-right.ensures

pub same_chains-returns-then-left-right : goal.same_chains-returns-then-left-right
same_chains-returns-then-left-right t c =
    sym (chains_uneven _ _ c.if-left-right.true)
    ∙ ap₂ chains_pass c.as_slice-left.ensures c.as_slice-right.ensures

pub same_chains-returns : goal.same_chains-returns
same_chains-returns t c =
    let xs = c.as_slice-left.result.now in
    let ys = c.as_slice-right.result.now in
    let i = c.loop-at.at in
    sym
    (ap₂ chains_pass (drop_all i xs (omega (arith, c.loop-at-test.false)))
    (drop_all i ys (omega (arith, c.loop-at-test.false, c.if-left-right.false))))
    ∙ c.loop-at.invariant
    ∙ ap₂ chains_pass c.as_slice-left.ensures c.as_slice-right.ensures

pub same_members-returns-then-left-right : goal.same_members-returns-then-left-right
same_members-returns-then-left-right t c =
    sym (members_uneven _ _ c.if-left-right.true)
    ∙ ap₂ members_pass c.as_slice-left.ensures c.as_slice-right.ensures

pub same_members-returns : goal.same_members-returns
same_members-returns t c =
    let xs = c.as_slice-left.result.now in
    let ys = c.as_slice-right.result.now in
    let i = c.loop-at.at in
    sym
    (ap₂ members_pass (drop_all i xs (omega (arith, c.loop-at-test.false)))
    (drop_all i ys (omega (arith, c.loop-at-test.false, c.if-left-right.false))))
    ∙ c.loop-at.invariant
    ∙ ap₂ members_pass c.as_slice-left.ensures c.as_slice-right.ensures
