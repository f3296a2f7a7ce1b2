-- How a policy finds the rule that decides on a leaf: that with `/?` for the whole path, else that
-- with `/*` for its longest front that has one. No public clause cites these words.
use Rattle.std.specs.Prelude.{ℕ, zero, suc, List, [], take, length, Bool, true, false, not, ◌||◌, ◌&&◌, Option}
use Rattle.std.specs.Str.{bytes_eq}
use Rattle.ax_mean.specs.declared.query.Step.{Step}
use Rattle.ax_tree.specs.declared.members.Member.{Member}
use Rattle.std.specs.List.{list_all}
use Rattle.std.specs.Option.{unwrap_or}
use Rattle.ax_policy.specs.declared.policy.Policy.{Policy}
use Rattle.ax_policy.specs.Covering.{indexes}
use Rattle.ax_policy.specs.Paths.{rule_text, steps_text, either}
use Rattle.ax_policy.specs.Rules.{under}

-- of the fronts of at most so many steps
abbrev pub longest : List (Member Bool) → List Step → ℕ → Option Bool
longest rules path zero = under (rule_text [] true) rules
longest rules path (suc most) =
    either (under (rule_text (take (suc most) path) true) rules) (longest rules path most)

abbrev pub decision : List (Member Bool) → List Step → Option Bool
decision rules path =
    either (under (rule_text path false) rules) (longest rules path (length path))

-- the text begins with that of the steps
abbrev pub begins_with : List Step → List ℕ → Bool
begins_with steps text = bytes_eq (take (length (steps_text steps)) text) (steps_text steps)

-- the rule is an included one, or its steps do not begin with these
abbrev pub is_kept : List Step → Member Bool → Bool
is_kept steps rule = rule.value || not (begins_with steps rule.name)

abbrev pub is_covered : Policy → List Step → Bool
is_covered policy path = indexes policy && unwrap_or (decision policy.rules path) false

abbrev pub is_all_covered : Policy → List Step → Bool
is_all_covered policy path =
    indexes policy && unwrap_or (longest policy.rules path (length path)) false
    && list_all (is_kept path) policy.rules
