-- The bytes so far are complemented, and the rest are as they were.
use Rattle.std.proofs.Common.{◌≡◌, ◌++◌, take, drop}
use Rattle.ax_term.specs.TermBytes.{complemented}
use Rattle.ax_term.proofs.room.complement.Given as goal

abbrev pub invariant-loop-byte : goal.invariant-loop-byte
invariant-loop-byte l =
    l.byte-items
    ≡ complemented (take l.byte-index l.initial.byte-items) ++ drop l.byte-index l.initial.byte-items
