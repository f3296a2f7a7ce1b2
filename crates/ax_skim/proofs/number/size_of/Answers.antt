use Rattle.std.proofs.Common.{◌≡◌, ◌*◌, ◌-◌, ◌∙◌, true, get_or, sym, arith, rules}
use Rattle.std.proofs.lemmas.Bool.{false≢true}
use Rattle.ax_skim.specs.Numerals.{is_numeral}
use Rattle.ax_skim.proofs.Decimals.{reads_decimal, own_numeral, all_read, given_number, read_is_written, is_written, place_never_too_large}
use Rattle.ax_skim.proofs.number.size_of.Goals as goal

pub returns-then-not-is_numeral-clause-given : goal.returns-then-not-is_numeral-clause-given
returns-then-not-is_numeral-clause-given c = λ number small is.
    absurd (false≢true (c.if-not-is_numeral.ensures ∙ own_numeral number c.args.digits.now small is))

pub returns-in_err-checked_mul-clause-given : goal.returns-in_err-checked_mul-clause-given
returns-in_err-checked_mul-clause-given c = λ number small is.
    let numeral : is_numeral c.args.digits.now ≡ true = sym c.is_numeral.ensures ∙ c.if-not-is_numeral.false in
    let bound = place_never_too_large c.args.digits.now c.loop-digit.number c.loop-digit.digit-index
    numeral (omega arith) c.loop-digit.invariant.0 in
    absurd (c.in_err-checked_mul.ensures (omega (arith, bound)))

pub returns-in_err-number-clause-given : goal.returns-in_err-number-clause-given
returns-in_err-number-clause-given c = λ number small is.
    let numeral : is_numeral c.args.digits.now ≡ true = sym c.is_numeral.ensures ∙ c.if-not-is_numeral.false in
    let bound = place_never_too_large c.args.digits.now c.loop-digit.number c.loop-digit.digit-index
    numeral (omega arith) c.loop-digit.invariant.0 in
    let product : c.in_ok-checked_mul.field-0 ≡ c.loop-digit.number * 10 = search rules in
    let digit : c.from.result ≡ get_or c.args.digits.now c.loop-digit.digit-index 0 - 48 = search rules in
    absurd (c.in_err-number.ensures (omega (arith, bound, product, digit)))

pub returns-clause-same : goal.returns-clause-same
returns-clause-same c = λ number is.
    let numeral : is_numeral c.args.digits.now ≡ true = sym c.is_numeral.ensures ∙ c.if-not-is_numeral.false in
    all_read c.loop-digit.number c.args.digits.now c.loop-digit.digit-index (omega arith) c.loop-digit.invariant.0
    ∙ reads_decimal number c.args.digits.now is (is_written c.args.digits.now numeral).few

pub returns-clause-written : goal.returns-clause-written
returns-clause-written c =
    let numeral : is_numeral c.args.digits.now ≡ true = sym c.is_numeral.ensures ∙ c.if-not-is_numeral.false in
    read_is_written c.args.digits.now c.loop-digit.number numeral
    (all_read c.loop-digit.number c.args.digits.now c.loop-digit.digit-index (omega arith) c.loop-digit.invariant.0)

pub returns-clause-given : goal.returns-clause-given
returns-clause-given c = λ number small is.
    given_number c.loop-digit.number number c.args.digits.now
    (all_read c.loop-digit.number c.args.digits.now c.loop-digit.digit-index (omega arith) c.loop-digit.invariant.0)
    small is
