use Rattle.std.proofs.Common.{◌≡◌, ◌-◌, length}
use Rattle.ax_lex.specs.Reading.{behind, read_inside}
use Rattle.ax_lex.proofs.unescape.unescaped.Given as goal

abbrev pub invariant-loop-turn : goal.invariant-loop-turn
invariant-loop-turn l =
    behind l.value.items (read_inside l.quote (length l.bytes - l._turn) l.rest)
    ≡ read_inside l.quote (length l.bytes) l.bytes
