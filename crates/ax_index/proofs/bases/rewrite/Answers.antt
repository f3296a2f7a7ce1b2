use Rattle.std.proofs.Common.{rules}
use Rattle.ax_store.specs.Store.{store_contents}
use Rattle.ax_index.proofs.PutLemmas.{belong_begins}
use Rattle.ax_index.proofs.bases.rewrite.Goals as goal

pub put_bases-requires-clause-begins : goal.put_bases-requires-clause-begins
put_bases-requires-clause-begins g c =
    belong_begins (store_contents c.args.store.now).terms c.args.page c.low_of-low.result c.args.pairs.now c.low_of-low.ensures
    (c.all_belong.ensures.0 (search rules))
