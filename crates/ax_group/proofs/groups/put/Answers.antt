use Rattle.ax_group.specs.Walks.{asks_of}
use Rattle.ax_group.proofs.Asking.{on_err, on_ok}
use Rattle.ax_group.proofs.GroupLaws.{puts_there, stays_there}
use Rattle.ax_group.proofs.groups.put.Goals as goal

pub returns-in-Some-clause-ok : goal.returns-in-Some-clause-ok
returns-in-Some-clause-ok c =
    let w = c.add_row.new.state in
    on_ok c.add_row.result
    (λ tallies. puts_there (asks_of c.args.asked.now) c.args.row.values.items
    c.args.row.arguments.items c.args.scope.now c.args.row.key c.args.states.now
    (c.get_mut.follows.lender w) c.get_mut.result c.in-Some.state w c.in-Some.is
    c.get_mut.ensures.value c.get_mut.ensures.ordered c.add_row.ensures.values tallies
    (c.get_mut.follows.holds w).0)
    c.add_row.ensures.tallies

pub returns-in-Some-clause-err : goal.returns-in-Some-clause-err
returns-in-Some-clause-err c =
    let w = c.add_row.new.state in
    on_err c.add_row.result
    (λ same. stays_there c.args.row.key c.args.states.now (c.get_mut.follows.lender w) c.get_mut.result
    c.in-Some.state w c.in-Some.is c.get_mut.ensures.value same (c.get_mut.follows.holds w).0)
    c.add_row.ensures.err
