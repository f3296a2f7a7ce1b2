-- The text of a path is written as paths are.
use Rattle.std.proofs.Common.{ap, ◌∙◌}
use Rattle.ax_policy.specs.Written.{is_written}
use Rattle.ax_policy.proofs.PathTexts.{text_is_written}
use Rattle.ax_policy.proofs.read_rules.path_text.Goals as goal

pub returns-then-is_short_path-clause-written : goal.returns-then-is_short_path-clause-written
returns-then-is_short_path-clause-written c =
    ap is_written c.in_ok-rule_text.ensures ∙ text_is_written c.args.path c.requires
