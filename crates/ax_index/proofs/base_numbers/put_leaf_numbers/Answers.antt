use Rattle.ax_index.proofs.GrammarLemmas.{leaf_base}
use Rattle.ax_index.proofs.base_numbers.put_leaf_numbers.Goals as goal

pub returns-clause-met : goal.returns-clause-met
returns-clause-met c = λ is. leaf_base c.args.payload.now _ _ c.in-Some.ensures.found
