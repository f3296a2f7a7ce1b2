use Rattle.std.proofs.Common.{◌≡◌, ◌≤◌, length}
use Rattle.ax_lex.specs.Bytes.{is_word_byte}
use Rattle.ax_lex.specs.Reading.{after_stretch}
use Rattle.ax_lex.proofs.word.after_word.Given as goal

abbrev pub invariant-loop-byte : goal.invariant-loop-byte
invariant-loop-byte l = (after_stretch is_word_byte l.rest ≡ after_stretch is_word_byte l.bytes) ×
    (length l.rest ≤ length l.bytes)

abbrev pub decreases-loop-byte : goal.decreases-loop-byte
decreases-loop-byte l = length l.rest
