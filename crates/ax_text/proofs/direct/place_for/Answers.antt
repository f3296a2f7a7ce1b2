-- The name is behind the member that was compared, so behind all before it.
use Rattle.std.proofs.Common.{sym, arith}
use Rattle.ax_text.proofs.Placing.{place_found}
use Rattle.ax_text.proofs.direct.place_for.Goals as goal

pub returns-then-is_gt : goal.returns-then-is_gt
returns-then-is_gt c =
    place_found c.args.name.now c.args.members.now c.earlier.place c.index-members-place.result
    c.requires (omega (arith, c.earlier-test.true)) c.earlier.invariant.0 (sym c.index-members-place.is)
    (grind arith) c.earlier.invariant.1
