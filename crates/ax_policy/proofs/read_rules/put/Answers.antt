-- What the map's insertion makes of its entries, it makes of the rules that they are seen as.
use Rattle.std.proofs.Common.{ap, ◌∙◌}
use Rattle.ax_policy.specs.Rules.{with_rule}
use Rattle.ax_policy.proofs.RuleMaps.{rules_in, inserted}
use Rattle.ax_policy.proofs.read_rules.put.Goals as goal

pub returns : goal.returns
returns c =
    ap rules_in c.in_ok-insert.ensures.entries
    ∙ inserted c.args.rules.now.entries c.into_string.result c.args.included
    ∙ ap (λ n. with_rule (rules_in c.args.rules.now.entries)
    (record { name = n; value = c.args.included })) c.into_string.ensures
