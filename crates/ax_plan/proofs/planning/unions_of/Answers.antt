-- What is sought is that for the query's usable conditions.
use Rattle.ax_atoms.specs.Conjuncts.{atoms}
use Rattle.ax_plan.proofs.Unions.{unions_made}
use Rattle.ax_plan.proofs.planning.unions_of.Goals as goal

pub returns : goal.returns
returns c =
    unions_made c.args.table.now (atoms c.args.query.now) c.in_ok-conjuncts.field-0.items c.in_ok-usable.field-0.items
    c.combined.result c.in_ok-conjuncts.ensures c.in_ok-usable.ensures c.combined.ensures
