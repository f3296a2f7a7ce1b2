-- A row whose text went into the set was not seen before.
use Rattle.ax_rows.proofs.Seen.{kept_more}
use Rattle.ax_rows.proofs.unseen.distinct.Goals as goal

pub loop-row-preserved-in_ok-push : goal.loop-row-preserved-in_ok-push
loop-row-preserved-in_ok-push c = record {
  next = tt;
  finite = tt;
  made =
      kept_more c.loop-row.kept.items _ _ _ _ c.in-Some.row _ c.loop-row.seen c.insert.new.self _
      c.in_ok-insert.ensures.updates c.in_ok-insert.ensures.added c.if-branch.true
      c.in_ok-tree.ensures c.in-Some.ensures.steps.0 c.in_ok-push.ensures.items
      c.loop-row.invariant.made;
}
