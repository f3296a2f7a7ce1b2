-- The documents above the number and below the next one are under the policy now.
use Rattle.std.proofs.Common.{ℕ, ◌-◌, ◌<◌, Option, Some, None}
use Rattle.std.specs.Prelude.{IsTrue}
use Rattle.std.specs.FinMap as map
use Rattle.ax_area.specs.Contents.{Contents}
use Rattle.ax_store.specs.Store.{store_contents}
use Rattle.ax_transform.specs.Moving.{AreUnderNow, IsNoneBehind}
use Rattle.ax_transform.proofs.next.next_behind.Given as goal

-- how far the next number is below those that no document has
abbrev left_above : Option ℕ → ℕ
left_above None = 0
left_above (Some next) = 4294967296 - next

-- the next number is held, and the documents before it are under the policy now; where there is no next one, all above are
abbrev ArePassed : Contents → ℕ → ℕ → Option ℕ → Type 0
ArePassed contents now after None = IsNoneBehind contents now after
ArePassed contents now after (Some next) =
    (after < next) × IsTrue (map.contains_key contents.documents next) × AreUnderNow contents now after next

abbrev pub decreases-loop-next : goal.decreases-loop-next
decreases-loop-next g l = left_above l.next

abbrev pub invariant-loop-next : goal.invariant-loop-next
invariant-loop-next g l = ArePassed (store_contents l.store) l.now l.after l.next
