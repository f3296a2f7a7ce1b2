use Rattle.std.proofs.Common.{◌∙◌, ◌+◌, ◌++◌, take, arith, ap, sym}
use Rattle.ax_leaf.proofs.Fronts.{front_kept}
use Rattle.ax_leaf.proofs.front.keep_front.Goals as goal

pub returns : goal.returns
returns c last has within =
    front_kept c.args.front.now c.put_at.new.front last c.args.term.shared c.min-kept.result c.args.term.rest.now (omega arith) c.min-kept.ensures (omega arith)
    (ap (λ n. take (c.args.term.shared + n) c.put_at.new.front) (sym c.split_at.ensures.front_len) ∙ c.put_at.ensures
    ∙ ap (λ bs. take c.args.term.shared c.args.front.now ++ bs) c.split_at.ensures.front)
    has within
