use Rattle.std.proofs.Common.{ap, arith, ◌∙◌}
use Rattle.ax_skim.specs.Skipping.{outside, past}
use Rattle.ax_skim.specs.Nested.{place_in}
use Rattle.ax_skim.proofs.Blocked.{block_closed, block_goes_on}
use Rattle.ax_skim.proofs.nested.after_nested.Goals as goal

pub returns-in-Closed-clause-after : goal.returns-in-Closed-clause-after
returns-in-Closed-clause-after c =
    ap (past outside 0) c.split_at.ensures.back
    ∙ block_closed c.loop-depth.inside c.loop-depth.rest.now c.in-Some.block c.loop-depth.depth
    c.in-Closed.at c.in-Some.ensures (omega (arith, c.loop-depth-test.true))
    c.in-Closed.ensures.same
    ∙ c.loop-depth.invariant.0

pub loop-depth-preserved-in-Open : goal.loop-depth-preserved-in-Open
loop-depth-preserved-in-Open c =
    let within = c.loop-depth.invariant.1 in
    let long = c.in-Some.ensures.long in
    let bounds = c.in-Open.ensures.bounds in
    let behind = c.split_at-in-Open.ensures.back_len in (
      ap (past (place_in c.in-Some.block.inside) c.in-Open.more) c.split_at-in-Open.ensures.back
          ∙ block_goes_on c.loop-depth.inside c.loop-depth.rest.now c.in-Some.block
          c.loop-depth.depth c.in-Open.more c.in-Some.ensures
          (omega (arith, c.loop-depth-test.true)) c.in-Open.ensures.same
          ∙ c.loop-depth.invariant.0,
      omega (arith, within, long, bounds.1, behind),
      λ none. absurd (omega (arith, none, bounds.0)),
      omega (arith, c.loop-depth.invariant.3, behind),
    )
