-- What is written, with what the rest gives, is the whole; a byte has taken at most two.
use Rattle.std.proofs.Common.{◌≡◌, ◌+◌, ◌*◌, ◌≤◌, ◌++◌, drop, vec_len, vec_capacity}
use Rattle.ax_term.specs.TermBytes.{escaped}
use Rattle.ax_term.proofs.room.put_escaped.Given as goal

abbrev pub invariant-loop-byte : goal.invariant-loop-byte
invariant-loop-byte l =
    (l.out.items ++ escaped (drop l.byte-index l.bytes) ≡ l.fn.out.items ++ escaped l.bytes)
    × (vec_len l.out ≤ vec_len l.fn.out + 2 * l.byte-index)
    × (vec_capacity l.out ≡ vec_capacity l.fn.out)
