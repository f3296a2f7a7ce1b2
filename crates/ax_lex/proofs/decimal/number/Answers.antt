use Rattle.std.proofs.Common.{◌≤◌, ◌*◌, ◌+◌, ◌-◌, get_or, arith}
use Rattle.ax_lex.specs.Tokens.{number_of}
use Rattle.ax_lex.proofs.Numbers.{large_already}
use Rattle.ax_lex.proofs.decimal.number.Goals as goal

pub returns-in_err-checked_mul : goal.returns-in_err-checked_mul
returns-in_err-checked_mul c =
    let large : 10 * c.loop-digit.value +
    (get_or c.args.digits.now c.loop-digit.digit-index 0 - 48) ≤ number_of c.args.digits.now =
    rw c.loop-digit.invariant at
    (large_already c.args.digits.now c.loop-digit.digit-index c.loop-digit.value (omega arith)) in
    rw c.from_residual.ensures (λ h. c.in_err-checked_mul.ensures (omega (arith, h)))

pub returns-in_err-value : goal.returns-in_err-value
returns-in_err-value c =
    let large : 10 * c.loop-digit.value +
    (get_or c.args.digits.now c.loop-digit.digit-index 0 - 48) ≤ number_of c.args.digits.now =
    rw c.loop-digit.invariant at
    (large_already c.args.digits.now c.loop-digit.digit-index c.loop-digit.value (omega arith)) in
    rw c.from_residual-in_err-value.ensures (λ h. c.in_err-value.ensures (omega
    (arith, h, c.in_ok-checked_mul.ensures, c.from.ensures, c.saturating_sub.ensures)))
