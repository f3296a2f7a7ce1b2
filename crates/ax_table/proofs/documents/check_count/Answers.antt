use Rattle.ax_store.specs.Store.{store_contents}
use Rattle.ax_table.proofs.Passing.{few_of_none}
use Rattle.ax_table.proofs.documents.check_count.Goals as goal

pub returns-in-None-clause-few : goal.returns-in-None-clause-few
returns-in-None-clause-few g c = few_of_none (store_contents c.args.store.now).documents c.args.first c.in-None.is c.requires
