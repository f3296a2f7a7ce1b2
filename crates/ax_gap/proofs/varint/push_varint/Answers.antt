use Rattle.std.proofs.Common.{◌++◌, ◌+◌, ◌∷◌, [], ◌/◌, ◌%◌, ap, ◌∙◌, sym, arith}
use Rattle.ax_gap.specs.Varint.{varint}
use Rattle.ax_gap.proofs.VarintLaws.{varint-small, push-large, take-more_written}
use Rattle.ax_gap.proofs.varint.push_varint.Goals as goal

pub loop-high-preserved : goal.loop-high-preserved
loop-high-preserved c = (
  ap (λ bs. bs ++ varint (c.loop-high.high / 128)) c.in_ok-push.ensures.items
      ∙ push-large c.loop-high.out.items c.loop-high.high (omega arith) ∙ c.loop-high.invariant.0,
  rw c.in_ok-push.ensures.items
      (take-more_written c.args.out.now.items c.loop-high.out.items ((128 + c.loop-high.high % 128) ∷ []) c.loop-high.invariant.1),
)

pub returns-clause-ok : goal.returns-clause-ok
returns-clause-ok c =
    c.in_ok-push-2.ensures.items ∙ ap (λ bs. c.loop-high.out.items ++ bs) (sym (varint-small c.loop-high.high (omega arith))) ∙ c.loop-high.invariant.0
