use Rattle.std.proofs.Common.{◌≡◌, ◌+◌, ◌<◌, ◌≤◌, ◌++◌, List, length}
use Rattle.ax_delta.specs.declared.change.Change.{Change}
use Rattle.ax_delta.specs.Changes.{changed_pairs}
use Rattle.ax_pair.specs.Order.{Rise}
use Rattle.ax_pages.specs.Contents.{TermPage}
use Rattle.ax_store.specs.Batch.{batch_parts}
use Rattle.ax_index.specs.DeltaRuns.{ArePut}
use Rattle.ax_index.specs.DeltaSizes.{HaveShortTerms}
use Rattle.ax_index.proofs.parts.put_pieces.Given as goal

abbrev pub invariant-loop-rest : goal.invariant-loop-rest
invariant-loop-rest l = record {
  rise : Rise (changed_pairs l.rest);
  short : HaveShortTerms l.rest;
  few : l.count + length l.rest ≤ length l.changes;
  put : (now : List TermPage) → l.page < length now
      → (done : List Change) × (l.changes ≡ done ++ l.rest) × ArePut l.page done now l.count (batch_parts l.fn.batch) (batch_parts l.batch);
}

abbrev pub decreases-loop-rest : goal.decreases-loop-rest
decreases-loop-rest l = length l.rest
