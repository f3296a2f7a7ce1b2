use Rattle.std.proofs.Common.{◌++◌, ◌∙◌, [], refl, ap, arith, append_assoc, sym, List}
use Rattle.ax_delta.specs.declared.change.Change.{Change}
use Rattle.ax_index.specs.DeltaSizes.{counted_bytes}
use Rattle.ax_index.proofs.DeltaSizes.{short_back}
use Rattle.ax_index.proofs.PutLemmas.{more_put, none_put, put_together, rise_parted}
use Rattle.ax_index.proofs.parts.put_pieces.Goals as goal

pub loop-rest-init : goal.loop-rest-init
loop-rest-init c = record {
  rise = c.requires.rise;
  short = c.requires.short;
  few = omega arith;
  put = λ now there. ([], refl, none_put c.args.page now _);
}

pub put_delta-requires-clause-rise : goal.put_delta-requires-clause-rise
put_delta-requires-clause-rise c =
    (rise_parted c.loop-rest.rest.now _ _ (put_together c.delta_len.result c.loop-rest.rest.now _ _ c.split_at.ensures.front c.split_at.ensures.back)
    c.loop-rest.invariant.rise).0

pub put_delta-requires-clause-fits : goal.put_delta-requires-clause-fits
put_delta-requires-clause-fits c = omega (arith, ap counted_bytes c.split_at.ensures.front, c.delta_len.ensures.fits)

pub loop-rest-preserved : goal.loop-rest-preserved
loop-rest-preserved c =
    let whole = put_together c.delta_len.result c.loop-rest.rest.now _ _ c.split_at.ensures.front c.split_at.ensures.back in
    record {
      rise = (rise_parted c.loop-rest.rest.now _ _ whole c.loop-rest.invariant.rise).1;
      short = short_back c.delta_len.result c.loop-rest.rest.now _ c.split_at.ensures.back c.loop-rest.invariant.short;
      few = omega (arith, c.delta_len.ensures.some (omega arith), c.split_at.ensures.back_len, c.loop-rest.invariant.few);
      put = λ now there.
          let before = c.loop-rest.invariant.put now there in (
            before.0 ++ c.split_at.result.0.now,
            before.1 ∙ ap (λ (rest : List Change). before.0 ++ rest) whole ∙ sym (append_assoc before.0 c.split_at.result.0.now c.split_at.result.1.now),
            more_put c.args.page before.0 c.split_at.result.0.now now c.loop-rest.count _ _ _ there before.2 c.in_ok-put_delta.ensures,
          );
    }
