-- The rules together are those of the two lists, where these share no path.
use Rattle.std.proofs.Common.{false, sym, ap, ◌∙◌}
use Rattle.std.specs.List.{fold, list_any}
use Rattle.ax_policy.specs.Rules.{with_rule, flagged, if_holds}
use Rattle.ax_policy.specs.Written.{are_written}
use Rattle.ax_policy.proofs.RuleMaps.{rules_in, is_rule}
use Rattle.ax_policy.proofs.RuleLaws.{when_shared, when_apart, from_written}
use Rattle.ax_policy.proofs.read_rules.rules_from.Goals as goal

pub returns-then-has_any : goal.returns-then-has_any
returns-then-has_any c =
    when_shared c.args.mode c.args.included c.args.excluded (rules_in c.in-Ok.rules.entries)
    c.in-Ok.ensures
    (sym c.if-has_any.true ∙ c.has_any.ensures
    ∙ ap (list_any (is_rule c.in-Ok.rules.entries)) c.as_slice.ensures)

pub if_says-requires : goal.if_says-requires
if_says-requires c =
    ap are_written (c.in_ok-both.ensures
    ∙ ap (λ l. fold with_rule l (flagged false c.args.excluded)) c.in-Ok.ensures)
    ∙ from_written c.args.included c.args.excluded c.requires.included c.requires.excluded

pub returns : goal.returns
returns c =
    c.in_ok-found.ensures
    ∙ ap (if_holds c.args.mode) c.in_ok-both.ensures
    ∙ when_apart c.args.mode c.args.included c.args.excluded (rules_in c.in-Ok.rules.entries)
    c.in-Ok.ensures
    (sym c.if-has_any.false ∙ c.has_any.ensures
    ∙ ap (list_any (is_rule c.in-Ok.rules.entries)) c.as_slice.ensures)
