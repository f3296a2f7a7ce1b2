use Rattle.std.proofs.Common.{◌≡◌, slice_get, Some, None, true, false, ◌||◌, ◌==◌, rules}
use Rattle.std.specs.Char.{is_ascii_digit}
use Rattle.ax_skim.proofs.Shapes.{is_text, is_number, given_text, given_number, given_word, word_same, word_written, some_first}
use Rattle.ax_skim.proofs.scalar.read_scalar.Goals as goal

pub returns-in_err-first-clause-given : goal.returns-in_err-first-clause-given
returns-in_err-first-clause-given c = λ tree at is.
    let none : slice_get c.args.text.now 0 ≡ None = search rules in
    absurd (some_first tree c.args.text.now at is none)

pub returns-then-first-eq34-clause-same : goal.returns-then-first-eq34-clause-same
returns-then-first-eq34-clause-same c = λ tree is.
    let first : slice_get c.args.text.now 0 ≡ Some 34 = search rules in
    is_text tree c.args.text.now c.read_text.result is first c.read_text.ensures.same

pub returns-then-first-eq34-clause-given : goal.returns-then-first-eq34-clause-given
returns-then-first-eq34-clause-given c = λ tree at is.
    let first : slice_get c.args.text.now 0 ≡ Some 34 = search rules in
    given_text tree c.args.text.now c.read_text.result at is first c.read_text.ensures.given

pub returns-then-begins_number-clause-same : goal.returns-then-begins_number-clause-same
returns-then-begins_number-clause-same c = λ tree is.
    let first : slice_get c.args.text.now 0 ≡ Some c.in_ok-first.field-0.now = search rules in
    let digit : (is_ascii_digit c.in_ok-first.field-0.now || (c.in_ok-first.field-0.now == 45)) ≡ true = cc in
    is_number tree c.args.text.now c.in_ok-first.field-0.now c.read_number.result is first digit c.read_number.ensures.same

pub returns-then-begins_number-clause-given : goal.returns-then-begins_number-clause-given
returns-then-begins_number-clause-given c = λ tree at is.
    let first : slice_get c.args.text.now 0 ≡ Some c.in_ok-first.field-0.now = search rules in
    let digit : (is_ascii_digit c.in_ok-first.field-0.now || (c.in_ok-first.field-0.now == 45)) ≡ true = cc in
    given_number tree c.args.text.now c.in_ok-first.field-0.now c.read_number.result at is first digit c.read_number.ensures.given

pub returns-else-begins_number-clause-same : goal.returns-else-begins_number-clause-same
returns-else-begins_number-clause-same c =
    word_same c.args.text.now c.read_word.result c.read_word.ensures

pub returns-else-begins_number-clause-written : goal.returns-else-begins_number-clause-written
returns-else-begins_number-clause-written c =
    word_written c.args.text.now c.read_word.result c.read_word.ensures

pub returns-else-begins_number-clause-given : goal.returns-else-begins_number-clause-given
returns-else-begins_number-clause-given c = λ tree at is.
    let first : slice_get c.args.text.now 0 ≡ Some c.in_ok-first.field-0.now = search rules in
    let digit : (is_ascii_digit c.in_ok-first.field-0.now || (c.in_ok-first.field-0.now == 45)) ≡ false = cc in
    given_word tree c.args.text.now c.in_ok-first.field-0.now c.read_word.result c.read_word.ensures at is first
    c.if-first-eq34.false digit
