-- The sources that are left get fewer. What takes the rest of the rows from here has taken all of
-- them from the beginning.
use Rattle.std.proofs.Common.{◌≡◌, ◌+◌, ◌*◌, length, true}
use Rattle.ax_rows.proofs.Walking.{rows_after}
use Rattle.ax_rows.proofs.walk.Walk.+walk.Given as goal

abbrev pub decreases-rows : goal.decreases-rows
decreases-rows g l = 5 * length l.items.now

abbrev pub decreases-choose : goal.decreases-choose
decreases-choose g l = 5 * length l.rest.now + 4

abbrev pub decreases-bind_each : goal.decreases-bind_each
decreases-bind_each g l = 5 * length l.rest.now + 3

abbrev pub decreases-bind_at : goal.decreases-bind_at
decreases-bind_at g l = 5 * length l.rest.now + 2

abbrev pub decreases-bind : goal.decreases-bind
decreases-bind g l = 5 * length l.rest.now + 1

abbrev pub invariant-bind_each-loop-at : goal.invariant-bind_each-loop-at
invariant-bind_each-loop-at g l = record {
  scope : l.self.scope ≡ l.fn.self.scope;
  place : l.self.place.items ≡ l.fn.self.place.items;
  wants : g.T.Taker.wants_more l.self.taker ≡ true;
  goes : (after : g.row.T.Denot)
      → g.T.Taker.Took l.self.taker
      (rows_after l.rest l.alias l.fn.self.scope l.fn.self.place.items l.at l.tree-items) after
      → g.T.Taker.Took l.fn.self.taker
      (rows_after l.rest l.alias l.fn.self.scope l.fn.self.place.items 0 l.tree-items) after;
}
