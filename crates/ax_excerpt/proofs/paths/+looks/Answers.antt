-- An expression that is no alias and has no steps looks at what its parts look at.
use Rattle.std.proofs.Common.{rules, ◌≡◌, false}
use Rattle.ax_excerpt.proofs.LookedAt.{by_parts}
use Rattle.ax_excerpt.proofs.UsesByParts.{is_path}
use Rattle.ax_excerpt.proofs.paths.+looks.Goals as goal

pub at-returns-in_default : goal.at-returns-in_default
at-returns-in_default t c =
    let apart : is_path c.args.expr.now ≡ false = search rules in
    by_parts c.at_parts.result c.args.alias.now c.args.expr.now c.args.steps.now _ _ apart c.at_parts.ensures
