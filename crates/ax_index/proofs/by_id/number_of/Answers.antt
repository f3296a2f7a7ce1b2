use Rattle.ax_index.proofs.OnlyTerm.{number_by}
use Rattle.ax_index.proofs.by_id.number_of.Goals as goal

pub returns-clause-number : goal.returns-clause-number
returns-clause-number g c = λ told set is.
    number_by c.args.id.now set c.in-Ok.range c.in-Ok-pairs_in.numbers.items _ c.first_of.result c.in-Ok.ensures c.as_slice.ensures.value
    c.first_of.ensures (c.in-Ok-pairs_in.ensures.numbers told set is)
