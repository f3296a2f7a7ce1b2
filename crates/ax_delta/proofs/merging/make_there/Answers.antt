use Rattle.std.proofs.Common.{Bool, subst, sym}
use Rattle.ax_delta.specs.Pass.{IsMadeAt}
use Rattle.ax_delta.proofs.Placing.{taken_out}
use Rattle.ax_delta.proofs.merging.make_there.Goals as goal

pub returns-then-not-add : goal.returns-then-not-add
returns-then-not-add c = λ p is.
    subst (λ (add : Bool). IsMadeAt add c.args.at p c.args.pairs.now c.args.at c.remove.new.self) (sym c.if-not-add.true)
    (taken_out c.args.at p c.args.pairs.now c.remove.new.self c.requires.rise is c.remove.ensures)
