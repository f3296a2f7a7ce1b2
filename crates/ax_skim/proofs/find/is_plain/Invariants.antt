-- All so far are plain, and all that are left: so all are.
use Rattle.std.proofs.Common.{◌≡◌, ◌&&◌, drop}
use Rattle.std.specs.List.{list_all}
use Rattle.ax_skim.specs.Members.{is_plain_byte}
use Rattle.ax_skim.proofs.find.is_plain.Given as goal

abbrev pub invariant-loop-byte : goal.invariant-loop-byte
invariant-loop-byte l =
    (l.plain && list_all is_plain_byte (drop l.byte-index l.inside))
    ≡ list_all is_plain_byte l.inside
