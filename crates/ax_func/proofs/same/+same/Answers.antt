-- Two lists are compared element by element.
use Rattle.std.proofs.Common.{◌∙◌, sym, ap, ap₂, drop, arith, ◌&&◌, ◌+◌}
use Rattle.std.proofs.lemmas.List.{drop_all}
use Rattle.ax_func.proofs.Pairwise.{items_pass, members_pass, turn, items_pass-uneven, members_pass-uneven}
use Rattle.ax_func.proofs.same.+same.Goals as goal

pub same_items-returns-then-left-right : goal.same_items-returns-then-left-right
same_items-returns-then-left-right t c =
    sym (items_pass-uneven _ _ c.if-left-right.true)
    ∙ ap₂ items_pass c.as_slice-left.ensures c.as_slice-right.ensures

pub same_items-returns-then-not-same : goal.same_items-returns-then-not-same
same_items-returns-then-not-same t c =
    let xs = c.as_slice-left.result.now in
    let ys = c.as_slice-right.result.now in
    let i = c.loop-at.at in
    ap (λ b. b && items_pass (drop (i + 1) xs) (drop (i + 1) ys)) c.if-not-same.ensures
    ∙ sym
    (turn xs ys i _ _ c.loop-at-test.true c.if-left-right.false c.index-left-at.is
    c.index-right-at.is items_pass)
    ∙ c.loop-at.invariant
    ∙ ap₂ items_pass c.as_slice-left.ensures c.as_slice-right.ensures

pub same_items-loop-at-preserved : goal.same_items-loop-at-preserved
same_items-loop-at-preserved t c =
    let xs = c.as_slice-left.result.now in
    let ys = c.as_slice-right.result.now in
    let i = c.loop-at.at in
    ap (λ b. b && items_pass (drop (i + 1) xs) (drop (i + 1) ys)) c.if-not-same.ensures
    ∙ sym
    (turn xs ys i _ _ c.loop-at-test.true c.if-left-right.false c.index-left-at.is
    c.index-right-at.is items_pass)
    ∙ c.loop-at.invariant

pub same_items-returns : goal.same_items-returns
same_items-returns t c =
    let xs = c.as_slice-left.result.now in
    let ys = c.as_slice-right.result.now in
    let i = c.loop-at.at in
    sym
    (ap₂ items_pass (drop_all i xs (omega (arith, c.loop-at-test.false)))
    (drop_all i ys (omega (arith, c.loop-at-test.false, c.if-left-right.false))))
    ∙ c.loop-at.invariant
    ∙ ap₂ items_pass c.as_slice-left.ensures c.as_slice-right.ensures

pub same_members-returns-then-left-right : goal.same_members-returns-then-left-right
same_members-returns-then-left-right t c =
    sym (members_pass-uneven _ _ c.if-left-right.true)
    ∙ ap₂ members_pass c.as_slice-left.ensures.members c.as_slice-right.ensures.members

pub same_members-returns : goal.same_members-returns
same_members-returns t c =
    let xs = c.as_slice-left.result.now in
    let ys = c.as_slice-right.result.now in
    let i = c.loop-at.at in
    sym
    (ap₂ members_pass (drop_all i xs (omega (arith, c.loop-at-test.false)))
    (drop_all i ys (omega (arith, c.loop-at-test.false, c.if-left-right.false))))
    ∙ c.loop-at.invariant
    ∙ ap₂ members_pass c.as_slice-left.ensures.members c.as_slice-right.ensures.members
