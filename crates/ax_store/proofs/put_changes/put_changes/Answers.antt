use Rattle.std.proofs.Common.{ap, arith}
use Rattle.std.proofs.lemmas.List.{length-map}
use Rattle.ax_store.specs.Change.{change_value, changes_value}
use Rattle.ax_store.proofs.PuttingLemmas.{none_put, first_within, delta_left, one_put}
use Rattle.ax_store.proofs.put_changes.put_changes.Goals as goal

pub loop-change-init : goal.loop-change-init
loop-change-init c =
    none_put (changes_value c.args.changes.items) _ c.args.at c.args.pages.now c.requires.within
    (omega (arith, c.requires.room, length-map c.args.changes.items change_value, c.args.changes.ok.0)) c.requires.deltas
    (ap changes_value c.into_iter-change-iterator.ensures.into_iter_gives.0)

pub put_change-requires-clause-within : goal.put_change-requires-clause-within
put_change-requires-clause-within c =
    first_within _ _ _ _ _ _ c.loop-change.invariant _ _ (ap changes_value c.in-Some.ensures.steps.0)

pub put_change-requires-clause-deltas : goal.put_change-requires-clause-deltas
put_change-requires-clause-deltas c =
    delta_left _ _ _ _ _ _ c.loop-change.invariant (change_value c.in-Some.change) _ (ap changes_value c.in-Some.ensures.steps.0)

pub loop-change-preserved : goal.loop-change-preserved
loop-change-preserved c =
    one_put _ _ _ _ _ _ c.loop-change.invariant (change_value c.in-Some.change) _ (ap changes_value c.in-Some.ensures.steps.0) c.put_change.new.pages _
    c.put_change.ensures.lead c.put_change.ensures.offsets c.put_change.ensures.room c.put_change.ensures.rooms (omega (arith, c.in-Some.change.new.part.whole))
