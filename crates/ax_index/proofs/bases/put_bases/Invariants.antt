use Rattle.std.proofs.Common.{◌≡◌, ◌<◌, ◌≤◌, List, length}
use Rattle.std.specs.List.{All}
use Rattle.ax_pair.specs.Order.{Rise}
use Rattle.ax_pages.specs.Contents.{TermPage}
use Rattle.ax_pages.specs.TermPages.{low_pair}
use Rattle.ax_pairs.specs.Index.{AllBelong}
use Rattle.ax_store.specs.Batch.{batch_parts}
use Rattle.ax_index.specs.DeltaSizes.{most_term_bytes}
use Rattle.ax_index.specs.PageSizes.{HasNumbers}
use Rattle.ax_index.specs.Rewriting.{IsRewrittenTo}
use Rattle.ax_index.proofs.bases.put_bases.Given as goal

abbrev pub invariant-loop-low : goal.invariant-loop-low
invariant-loop-low l = record {
  rise : Rise l.rest;
  short : All (λ pair. length pair.term ≤ most_term_bytes) l.rest;
  numbers : HasNumbers l.next l.rest;
  rewritten : (now : List TermPage) → l.fn.next ≡ length now → l.page < length now → low_pair l.page now ≡ l.fn.low
      → AllBelong l.pairs l.page now → IsRewrittenTo l.page l.pairs l.rest now l.next (batch_parts l.fn.batch) (batch_parts l.batch);
}

abbrev pub decreases-loop-low : goal.decreases-loop-low
decreases-loop-low l = length l.rest
