-- What the map's insertion makes of its entries, it makes of the members that they are seen as.
use Rattle.std.proofs.Common.{ap, ◌∙◌}
use Rattle.ax_lines.specs.Bodies.{with_parameter}
use Rattle.ax_lines.proofs.Written.{members_of, inserted}
use Rattle.ax_lines.proofs.parameters.put.Goals as goal

pub returns : goal.returns
returns c =
    ap members_of c.in_ok-replaced.ensures.entries
    ∙ inserted c.args.values.now.entries c.into_string.result c.args.parameter.value
    ∙ ap (λ n. with_parameter (members_of c.args.values.now.entries)
    (record { name = n; value = c.args.parameter.value })) c.into_string.ensures
