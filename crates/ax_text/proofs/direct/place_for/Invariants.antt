-- The name is before the members from the place on.
use Rattle.std.proofs.Common.{◌≤◌, length, drop}
use Rattle.ax_text.proofs.Placing.{IsAhead}
use Rattle.ax_text.proofs.direct.place_for.Given as goal

abbrev pub invariant-earlier : goal.invariant-earlier
invariant-earlier l = (l.place ≤ length l.members) × IsAhead l.name (drop l.place l.members)

abbrev pub decreases-earlier : goal.decreases-earlier
decreases-earlier l = l.place
