-- Where no number is given the container refuses the policy, and nothing has changed.
use Rattle.std.proofs.Common.{subst}
use Rattle.ax_policy.specs.Table.{IsGiven}
use Rattle.ax_store.proofs.StoreLemmas.{agrees_says}
use Rattle.ax_store.specs.Store.{store_contents}
use Rattle.ax_transform.proofs.Crowds.{crowded}
use Rattle.ax_transform.proofs.FewNumbers.{few_numbers}
use Rattle.ax_transform.proofs.Leaving.{still}
use Rattle.ax_transform.proofs.setting.set_policy.Goals as goal

pub returns-in-Ok-None-clause-tells : goal.returns-in-Ok-None-clause-tells
returns-in-Ok-None-clause-tells g c = λ honest works before hold.
    let store = c.args.store.now in
    let table = c.args.table.now in
    let few = few_numbers g.C.PageCache.pages store _ _ table (c.requires.agrees honest works) c.requires.table in (
      crowded _ honest table (store_contents store) few c.requires.table c.args.policy before hold.documents.show.under
          (subst (IsGiven c.args.policy table) c.in-Ok-None.field-0-is c.in-Ok-None.ensures),
      (hold, still store before _ (agrees_says g.C.PageCache.pages store _ (c.requires.agrees honest works)) hold),
    )

pub returns-in-Err-clause-tells : goal.returns-in-Err-clause-tells
returns-in-Err-clause-tells g c = λ honest works before hold.
    (hold, still c.args.store.now before _ (agrees_says g.C.PageCache.pages c.args.store.now _ (c.requires.agrees honest works)) hold)
