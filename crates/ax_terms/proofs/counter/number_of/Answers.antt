use Rattle.std.proofs.Common.{◌+◌, ap}
use Rattle.ax_terms.proofs.PathNumbers.{gets_number}
use Rattle.ax_terms.proofs.counter.number_of.Goals as goal

pub returns : goal.returns
returns c =
    gets_number c.args.numbers.now c.insert.new.self c.args.key _ c.in_ok-insert.field-0
    c.in_default.ensures.value c.in_ok-insert.ensures.old (ap (λ n. n + 1) c.len.ensures.len)
    c.in_ok-insert.ensures.updates c.in_ok-insert.ensures.len
