use Rattle.std.proofs.Common.{◌≡◌, ◌++◌, arith, ap, sym, ◌∙◌}
use Rattle.ax_gap.specs.Varint.{varint}
use Rattle.ax_gap.specs.Reading.{first_varint, at_most}
use Rattle.ax_gap.proofs.VarintLaws.{split_takes, split_again, length-split, drop-split, same_used, same_number, found}
use Rattle.ax_gap.proofs.varint.read_varint.Goals as goal

pub returns-in_err-number-clause-only : goal.returns-in_err-number-clause-only
returns-in_err-number-clause-only c n rest h e =
    let s : at_most 4294967296 (first_varint c.args.bytes.now) ≡ found n rest = split_again c.args.bytes.now n rest (omega arith) e in
    absurd (cc (c.in_err-number.ensures))

pub returns-then-number-clause-only : goal.returns-then-number-clause-only
returns-then-number-clause-only c n rest h e =
    let s : at_most 4294967296 (first_varint c.args.bytes.now) ≡ found n rest = split_again c.args.bytes.now n rest (omega arith) e in
    let same : c.in_ok-number.number ≡ n = same_number _ n _ rest (c.in_ok-number.ensures ∙ s) in
    absurd (omega arith)

pub overflow_sub-result : goal.overflow_sub-result
overflow_sub-result c =
    let e : c.args.bytes.now ≡ varint c.in_ok-number.number ++ c.in_ok-number.rest.now =
    split_takes c.args.bytes.now _ _ (λ i. omega (arith, c.type_inv.bytes i)) c.in_ok-number.ensures
    in omega (arith, length-split c.args.bytes.now _ _ e)

pub returns-clause-found : goal.returns-clause-found
returns-clause-found c =
    let e : c.args.bytes.now ≡ varint c.in_ok-number.number ++ c.in_ok-number.rest.now =
    split_takes c.args.bytes.now _ _ (λ i. omega (arith, c.type_inv.bytes i)) c.in_ok-number.ensures
    in e ∙ ap (λ bs. varint c.in_ok-number.number ++ bs) (sym (drop-split c.args.bytes.now c.in_ok-number.number c.in_ok-number.rest.now e))

pub returns-clause-used : goal.returns-clause-used
returns-clause-used c =
    let e : c.args.bytes.now ≡ varint c.in_ok-number.number ++ c.in_ok-number.rest.now =
    split_takes c.args.bytes.now _ _ (λ i. omega (arith, c.type_inv.bytes i)) c.in_ok-number.ensures
    in omega (arith, length-split c.args.bytes.now _ _ e)

pub returns-clause-only : goal.returns-clause-only
returns-clause-only c n rest h e =
    let s : at_most 4294967296 (first_varint c.args.bytes.now) ≡ found n rest = split_again c.args.bytes.now n rest (omega arith) e in
    let same : c.in_ok-number.number ≡ n = same_number _ n _ rest (c.in_ok-number.ensures ∙ s) in
    same_used c.in_ok-number.number n _ same (returns-clause-used c)
