use Rattle.ax_index.proofs.PageWalk.{nothing_first, start_ahead}
use Rattle.ax_index.proofs.numbers.first_page.Goals as goal

pub returns-clause-reaches : goal.returns-clause-reaches
returns-clause-reaches g c = λ p within.
    start_ahead c.in_ok-start.start.now c.page_of.result _ c.page_of.ensures p (c.in_ok-start.ensures p.term within (nothing_first p.term))
