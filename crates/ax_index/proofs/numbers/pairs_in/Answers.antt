use Rattle.ax_index.proofs.SomeRanges.{in_one_by}
use Rattle.ax_index.proofs.GrammarLemmas.{met_by_one}
use Rattle.ax_index.proofs.Standing.{all_by_one}
use Rattle.ax_index.proofs.numbers.pairs_in.Goals as goal

pub returns-clause-numbers : goal.returns-clause-numbers
returns-clause-numbers g c = λ told set is.
    in_one_by c.pairs_in_some.result (λ numbers. numbers.items) c.from_ref.result.now c.args.range.now set c.from_ref.ensures.value
    (c.pairs_in_some.ensures.numbers told set is)

pub returns-clause-met : goal.returns-clause-met
returns-clause-met g c = λ told.
    met_by_one c.pairs_in_some.result c.from_ref.result.now c.args.range.now _ c.from_ref.ensures.value (c.pairs_in_some.ensures.met told)

pub returns-clause-all : goal.returns-clause-all
returns-clause-all g c = λ told.
    all_by_one c.pairs_in_some.result (λ numbers. numbers.items) c.from_ref.result.now c.args.range.now _ c.from_ref.ensures.value
    (c.pairs_in_some.ensures.all told)
