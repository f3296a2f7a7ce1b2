use Rattle.std.proofs.Common.{◌≡◌, drop}
use Rattle.ax_lex.specs.Tokens.{number_of}
use Rattle.ax_lex.proofs.Numbers.{on_from}
use Rattle.ax_lex.proofs.decimal.number.Given as goal

abbrev pub invariant-loop-digit : goal.invariant-loop-digit
invariant-loop-digit l = on_from l.value (drop l.digit-index l.digits) ≡ number_of l.digits
