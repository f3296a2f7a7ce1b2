-- The documents are the same, over a cache that holds nothing yet.
use Rattle.std.proofs.Common.{refl}
use Rattle.ax_engine.proofs.Recaching.{holds_still}
use Rattle.ax_engine.proofs.engine.Engine.with_cache.Goals as goal

pub returns-clause-holds : goal.returns-clause-holds
returns-clause-holds g c = λ container holds. holds_still c.args.self _ refl c.with_cache.ensures.same container holds
