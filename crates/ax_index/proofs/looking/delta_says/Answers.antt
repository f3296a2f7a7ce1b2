use Rattle.ax_index.proofs.looking.delta_says.Goals as goal

pub returns-clause-met : goal.returns-clause-met
returns-clause-met c = (_, c.in_ok-delta.ensures.found)
