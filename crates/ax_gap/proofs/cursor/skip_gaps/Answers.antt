use Rattle.std.proofs.Common.{◌+◌, ◌-◌, arith, ap, ◌∙◌, sym}
use Rattle.std.specs.Option.{option_map}
use Rattle.ax_gap.specs.Reading.{first_gaps}
use Rattle.ax_gap.proofs.CursorLaws.{first_gaps_past, first_gaps_more, first_gaps_done, number_fits, end_before}
use Rattle.ax_gap.proofs.cursor.skip_gaps.Goals as goal

pub returns-in_err-number : goal.returns-in_err-number
returns-in_err-number c =
    rw c.from_residual.ensures
    (ap (option_map (λ found. found.1)) (sym (first_gaps_past c.loop-many.least c.loop-many.many (c.loop-many.many - 1) c.loop-many.remaining.now
    (omega arith) c.in_err-number.ensures))
    ∙ c.loop-many.invariant.reads)

pub loop-many-preserved : goal.loop-many-preserved
loop-many-preserved c = record {
  reads = sym (end_before c.in_ok-number.number (first_gaps (c.in_ok-number.number + 1) (c.loop-many.many - 1) c.in_ok-number.after.now))
      ∙ ap (option_map (λ found. found.1)) (sym (first_gaps_more c.loop-many.least c.loop-many.many
      (c.loop-many.many - 1) _ c.loop-many.remaining.now c.in_ok-number.after.now (omega arith) c.in_ok-number.ensures))
      ∙ c.loop-many.invariant.reads;
  fits = omega (arith, number_fits c.loop-many.least c.in_ok-number.number c.loop-many.remaining.now c.in_ok-number.after.now c.in_ok-number.ensures);
}

pub returns : goal.returns
returns c =
    ap (option_map (λ found. found.1)) (sym (first_gaps_done c.loop-many.least c.loop-many.many c.loop-many.remaining.now (omega arith)))
    ∙ c.loop-many.invariant.reads
