use Rattle.std.proofs.Common.{rules}
use Rattle.ax_store.specs.Store.{store_contents}
use Rattle.ax_index.proofs.RunLemmas.{some_in_run}
use Rattle.ax_index.proofs.runs.first_run.Goals as goal

pub returns-clause-some : goal.returns-clause-some
returns-clause-some g c =
    some_in_run (store_contents c.args.store.now).terms c.page_of_pair-page.result c.args.changes.now c.run_len-len.result c.requires
    (search rules) c.run_len-len.ensures.parted
