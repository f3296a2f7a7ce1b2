use Rattle.std.proofs.Common.{length}
use Rattle.ax_lex.proofs.Lexing.{IsUnderWay}
use Rattle.ax_lex.proofs.lex.lex.Given as goal

abbrev pub invariant-loop-byte : goal.invariant-loop-byte
invariant-loop-byte l = IsUnderWay l.text l.rest l.found.items

abbrev pub decreases-loop-byte : goal.decreases-loop-byte
decreases-loop-byte l = length l.rest
