use Rattle.std.proofs.Common.{◌<◌, map, sum, sym, subst}
use Rattle.ax_mean.specs.Parts.{size}
use Rattle.ax_mean.proofs.ByParts.{parts_smaller}
use Rattle.ax_mean.proofs.expr.Expr.parts.Goals as goal

pub returns-clause-smaller : goal.returns-clause-smaller
returns-clause-smaller c =
    subst (λ parts. sum (map size parts) < size c.args.self.now) (sym c.of.ensures)
    (parts_smaller c.args.self.now)
