use Rattle.ax_index.proofs.folding.merge_payload.Goals as goal

pub returns-clause-met : goal.returns-clause-met
returns-clause-met c = (_, c.in-Some.ensures.found)
