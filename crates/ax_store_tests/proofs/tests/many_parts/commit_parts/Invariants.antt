use Rattle.ax_store.specs.Batch.{batch_parts}
use Rattle.ax_store_tests.proofs.ManyParts.{AreMany}
use Rattle.ax_store_tests.proofs.tests.many_parts.commit_parts.Given as goal

abbrev pub invariant-loop-made : goal.invariant-loop-made
invariant-loop-made g l = AreMany (batch_parts l.batch)
