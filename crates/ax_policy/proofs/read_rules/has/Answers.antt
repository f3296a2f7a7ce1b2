use Rattle.std.proofs.Common.{◌∙◌, ap}
use Rattle.std.specs.Option.{is_some}
use Rattle.ax_policy.proofs.RuleMaps.{looked_up}
use Rattle.ax_policy.proofs.read_rules.has.Goals as goal

pub returns : goal.returns
returns c = c.contains_key.ensures ∙ ap is_some (looked_up c.args.rules.now.entries c.args.text.now)
