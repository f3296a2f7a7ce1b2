use Rattle.ax_store.proofs.CacheLemmas.{kept}
use Rattle.ax_store.proofs.cached.keep.Goals as goal

pub returns : goal.returns
returns g c = kept c.put-kept.result (g.C.PageCache.room c.args.cache.now) c.args.key c.args.bytes.now _ _ c.put-kept.ensures.put c.put-kept.ensures.refused
