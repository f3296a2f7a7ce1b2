use Rattle.std.proofs.Common.{◌≡◌, ◌≤◌, length}
use Rattle.ax_lex.specs.Bytes.{is_digit}
use Rattle.ax_lex.specs.Reading.{after_stretch}
use Rattle.ax_lex.proofs.word.after_digits.Given as goal

abbrev pub invariant-loop-byte : goal.invariant-loop-byte
invariant-loop-byte l = (after_stretch is_digit l.rest ≡ after_stretch is_digit l.bytes) ×
    (length l.rest ≤ length l.bytes)

abbrev pub decreases-loop-byte : goal.decreases-loop-byte
decreases-loop-byte l = length l.rest
