use Rattle.std.proofs.Common.{◌≡◌, ◌∙◌, List, false, subst, IfOk}
use Rattle.ax_pair.specs.declared.pair.Pair.{Pair}
use Rattle.ax_pages.specs.TermPages.{low_pair}
use Rattle.ax_pairs.specs.Index.{AllBelong}
use Rattle.ax_store.specs.Store.{store_contents}
use Rattle.ax_index.specs.PageSizes.{AreStuck}
use Rattle.ax_index.proofs.bases.rewrite_list.Goals as goal

pub returns-clause-full : goal.returns-clause-full
returns-clause-full g c =
    let pages = (store_contents c.args.store.now).terms in
    subst
    (λ (ps : List Pair). IfOk c.rewrite.result (λ done. done ≡ false → AllBelong ps c.args.page pages → AreStuck c.args.next.now (low_pair c.args.page pages) ps))
    (c.as_slice.ensures.value ∙ c.in_ok-refs.ensures) c.rewrite.ensures.full
