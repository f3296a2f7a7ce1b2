use Rattle.std.proofs.Common.{◌≡◌, ◌+◌, arith, nat_lt, sym, take}
use Rattle.ax_pair.specs.Low.{first_pair}
use Rattle.ax_index.specs.PageSizes.{base_bytes, bytes_beside}
use Rattle.ax_index.proofs.BaseSizes.{base_more, kept_fits, one_counts, one_fits, whole_fits}
use Rattle.ax_index.proofs.PageSizesLemmas.{all_fit, begun, cut_here, goes_on, kept_within}
use Rattle.ax_index.proofs.sizes.base_len.Goals as goal

pub loop-i-init : goal.loop-i-init
loop-i-init c = record {
  some = omega arith;
  up_to = omega arith;
  few = omega arith;
  counted = λ some. sym (one_counts c.args.pairs.now some);
  fits = one_fits c.args.pairs.now;
  so_far = λ d some. begun c.args.pairs.now d some;
}

pub returns-then-bytes-gt-MOST_BASE_BYTES-clause-cut : goal.returns-then-bytes-gt-MOST_BASE_BYTES-clause-cut
returns-then-bytes-gt-MOST_BASE_BYTES-clause-cut c =
    let counted : c.loop-i.bytes + c.bytes_of_pair-bytes.result ≡ c.loop-i.bytes + bytes_beside c.index-pairs-i.result c.index-pairs-i-in-loop-i.result =
    omega (arith, c.bytes_of_pair-bytes.ensures.is)
    in
    cut_here c.args.pairs.now c.loop-i.i c.loop-i.bytes c.loop-i.front c.index-pairs-i.result c.index-pairs-i-in-loop-i.result c.loop-i-test.true
    c.loop-i.auto.i
    c.index-pairs-i.is c.index-pairs-i-in-loop-i.is c.loop-i.invariant.so_far (c.loop-i.bytes + c.bytes_of_pair-bytes.result) counted
    c.if-bytes-gt-MOST_BASE_BYTES.true

pub loop-i-preserved : goal.loop-i-preserved
loop-i-preserved c =
    let counted : c.loop-i.bytes + c.bytes_of_pair-bytes.result ≡ c.loop-i.bytes + bytes_beside c.index-pairs-i.result c.index-pairs-i-in-loop-i.result =
    omega (arith, c.bytes_of_pair-bytes.ensures.is)
    in
    let sum : c.loop-i.bytes + c.bytes_of_pair-bytes.result ≡ base_bytes (take (c.loop-i.i + 1) c.args.pairs.now) =
    omega (
      arith,
      counted,
      c.loop-i.invariant.counted (omega arith),
      base_more c.args.pairs.now c.loop-i.i c.index-pairs-i.result c.index-pairs-i-in-loop-i.result c.loop-i.auto.i c.loop-i-test.true
          c.index-pairs-i.is c.index-pairs-i-in-loop-i.is,
    )
    in
    let kept = kept_within
    (nat_lt 2048 (c.loop-i.bytes + c.bytes_of_pair-bytes.result)) c.loop-i.front c.loop-i.i c.front_after-front.result c.front_after-front.ensures
    c.loop-i.invariant.some c.loop-i.invariant.up_to
    in
    record {
      some = kept.0;
      up_to = kept.1;
      few = c.if-bytes-gt-MOST_BASE_BYTES.false;
      counted = λ some. sum;
      fits = kept_fits c.args.pairs.now (nat_lt 2048 (c.loop-i.bytes + c.bytes_of_pair-bytes.result)) c.loop-i.i c.loop-i.front c.front_after-front.result
          c.front_after-front.ensures c.loop-i.invariant.fits (omega (arith, sum, c.if-bytes-gt-MOST_BASE_BYTES.false));
      so_far = goes_on c.args.pairs.now c.loop-i.i c.loop-i.bytes c.loop-i.front c.index-pairs-i.result c.index-pairs-i-in-loop-i.result c.loop-i-test.true
          c.loop-i.auto.i c.index-pairs-i.is c.index-pairs-i-in-loop-i.is c.loop-i.invariant.so_far (c.loop-i.bytes + c.bytes_of_pair-bytes.result)
          c.front_after-front.result counted c.if-bytes-gt-MOST_BASE_BYTES.false c.front_after-front.ensures;
    }

pub returns-clause-cut : goal.returns-clause-cut
returns-clause-cut c =
    all_fit c.args.pairs.now c.loop-i.i c.loop-i.bytes c.loop-i.front c.loop-i-test.false first_pair (c.loop-i.invariant.so_far first_pair)

pub returns-clause-fits : goal.returns-clause-fits
returns-clause-fits c =
    whole_fits c.args.pairs.now c.loop-i.i c.loop-i.bytes c.loop-i-test.false c.loop-i.invariant.few c.loop-i.invariant.counted
