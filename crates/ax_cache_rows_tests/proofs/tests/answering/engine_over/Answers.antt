-- The engine that was opened works still over its cache.
use Rattle.std.proofs.Common.{ap, ◌∙◌}
use Rattle.ax_cache.specs.PageLaws.{no_pages}
use Rattle.ax_engine.proofs.Recaching.{works_still}
use Rattle.ax_cache_rows_tests.proofs.tests.answering.engine_over.Goals as goal

pub returns : goal.returns
returns g c =
    works_still c.in_ok-opened.opened c.with_cache.result c.with_cache.ensures.fault c.with_cache.ensures.documents
    (λ _. no_pages) g.C.PageCache.pages _ _ (ap g.C.PageCache.pages c.with_cache.ensures.cache ∙ c.requires) c.in_ok-opened.ensures.works
