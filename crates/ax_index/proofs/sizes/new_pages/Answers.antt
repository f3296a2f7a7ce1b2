use Rattle.std.proofs.Common.{arith, ◌∙◌}
use Rattle.ax_index.proofs.PageSizesLemmas.{take_all_of, take_first, take_more}
use Rattle.ax_index.proofs.sizes.new_pages.Goals as goal

pub loop-rest-init : goal.loop-rest-init
loop-rest-init c = record {
  few = omega (arith, c.split_at.ensures.back_len);
  take = take_first c.args.pairs.now _ (c.split_at.ensures.back ∙ c.base_len.ensures.cut);
}

pub loop-rest-preserved : goal.loop-rest-preserved
loop-rest-preserved c = record {
  few = omega (arith, c.loop-rest.invariant.few);
  take = take_more c.loop-rest.count c.args.pairs.now c.loop-rest.rest.now _ c.loop-rest-test.true
      (c.split_at-in-loop-rest.ensures.back ∙ c.base_len-in-loop-rest.ensures.cut) c.loop-rest.invariant.take;
}

pub returns-clause-take : goal.returns-clause-take
returns-clause-take c = take_all_of c.loop-rest.count c.args.pairs.now c.loop-rest.rest.now (omega arith) c.loop-rest.invariant.take
