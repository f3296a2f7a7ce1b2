use Rattle.std.proofs.Common.{◌≡◌, ◌++◌, ap, sym, arith, ◌∙◌}
use Rattle.ax_gap.specs.Varint.{varint}
use Rattle.ax_pair.proofs.Lows.{number_again, number_none}
use Rattle.ax_pair.proofs.number.split_number.Goals as goal

pub returns-in_err-number-clause-first : goal.returns-in_err-number-clause-first
returns-in_err-number-clause-first c =
    let none = number_none c.args.bytes.now (λ i. omega (arith, c.type_inv.bytes i))
    (λ n rest h e. let there = c.in_err-number.ensures.only n rest h e in cc)
    in cc

pub returns-clause-first : goal.returns-clause-first
returns-clause-first c =
    let spelled : c.args.bytes.now ≡ varint c.in_ok-number.number ++ c.split_at.result.1.now =
    c.in_ok-number.ensures.found ∙ ap (λ bs. varint c.in_ok-number.number ++ bs) (sym c.split_at.ensures.back)
    in sym (number_again c.args.bytes.now c.in_ok-number.number c.split_at.result.1.now (omega arith) spelled)
