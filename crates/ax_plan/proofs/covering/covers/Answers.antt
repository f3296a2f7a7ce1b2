use Rattle.std.proofs.Common.{sym, subst}
use Rattle.std.specs.Prelude.{◌↔◌, IsTrue}
use Rattle.ax_plan.specs.ByPaths.{CoversPath}
use Rattle.ax_plan.proofs.covering.covers.Goals as goal

pub returns-then-whole : goal.returns-then-whole
returns-then-whole c =
    subst (λ whole. IsTrue c.covers_all.result ↔ CoversPath whole c.args.path.now c.args.policy.now) (sym c.if-whole.true)
    c.covers_all.ensures
