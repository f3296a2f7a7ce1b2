-- The steps of a query are those of the line that asks it.
use Rattle.std.proofs.Common.{sym, subst}
use Rattle.ax_lines.specs.declared.line.Line.{Line}
use Rattle.ax_store.specs.Store.{store_contents}
use Rattle.ax_engine.specs.Damage.{CountsFew}
use Rattle.ax_engine.proofs.engine.answer.Goals as goal

pub returns-in-Query-clause-few : goal.returns-in-Query-clause-few
returns-in-Query-clause-few g c = λ told.
    subst
    (λ (asked : Line).
    CountsFew c.args.documents.now.table asked (store_contents c.args.documents.now.store) c.args.steps.now c.query.new.steps)
    (sym c.in-Query.is) (c.query.ensures.few told)
