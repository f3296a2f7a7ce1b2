use Rattle.std.proofs.Common.{ap, refl, ◌∙◌}
use Rattle.std.specs.Ordering.{is_le}
use Rattle.ax_index.proofs.PageWalk.{ahead_term, fewer_behind, fewer_past, next_ahead, start_ahead}
use Rattle.ax_index.proofs.numbers.page_behind.Goals as goal

pub returns-then-is_le-clause-fewer : goal.returns-then-is_le-clause-fewer
returns-then-is_le-clause-fewer g c = fewer_behind c.args.page c.in_ok-next.next _ c.in_ok-next.ensures.found

pub returns-then-is_le-clause-reaches : goal.returns-then-is_le-clause-reaches
returns-then-is_le-clause-reaches g c = λ p other within h less up.
    next_ahead c.args.page c.in_ok-next.next _ c.in_ok-next.ensures.found p other h less up

pub returns-else-is_le-clause-fewer : goal.returns-else-is_le-clause-fewer
returns-else-is_le-clause-fewer g c =
    fewer_past c.args.page c.in_ok-next.next c.page_of.result _ c.low.result.0.now c.in-Some.start.now c.is_le.result c.in_ok-next.ensures.found
    c.low.ensures.term (c.is_le.ensures ∙ ap is_le c.cmp.ensures) c.if-is_le.false c.page_of.ensures

pub returns-else-is_le-clause-reaches : goal.returns-else-is_le-clause-reaches
returns-else-is_le-clause-reaches g c = λ p other within h less up.
    start_ahead c.in-Some.start.now c.page_of.result _ c.page_of.ensures p
    (c.in-Some.ensures p.term within
    (ahead_term c.args.page c.in_ok-next.next other _ _ p c.in_ok-next.ensures.found refl h less up))

pub returns-in_default-clause-reaches : goal.returns-in_default-clause-reaches
returns-in_default-clause-reaches g c = λ p other within h less up.
    c.in_default.ensures p.term within (ahead_term c.args.page c.in_ok-next.next other _ _ p c.in_ok-next.ensures.found refl h less up)
