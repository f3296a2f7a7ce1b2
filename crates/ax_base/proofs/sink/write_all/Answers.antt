-- Each call adds the next bytes.
use Rattle.std.proofs.Common.{arith}
use Rattle.std.proofs.lemmas.Result.{err_from_is_err_and}
use Rattle.ax_base.proofs.BytesLemmas.{Appends-further, AppendsPrefix-further, within_further}
use Rattle.ax_base.proofs.sink.write_all.Goals as goal

pub returns-in_err-count-clause-failed : goal.returns-in_err-count-clause-failed
returns-in_err-count-clause-failed g c =
    let p =
    err_from_is_err_and c.from_residual.result c.from_residual.ensures.1 in rw p.1
    (AppendsPrefix-further _ _ _ c.loop-at.at c.args.bytes.now c.loop-at.invariant.within c.loop-at.invariant.added c.in_err-count.ensures.failed)

pub loop-at-preserved : goal.loop-at-preserved
loop-at-preserved g c = record {
  within =
      within_further c.loop-at.at c.in_ok-count.count c.args.bytes.now c.loop-at.invariant.within c.in_ok-count.ensures.bound;
  added =
      Appends-further _ _ _ c.loop-at.at c.in_ok-count.count c.args.bytes.now c.loop-at.invariant.added c.in_ok-count.ensures.added;
  never_falls = omega (arith, c.write_some.ensures.cause.never_falls);
}
