-- The policy of a new store: every leaf is indexed but that at `_etag`, and no composite is kept.
use Rattle.std.specs.Prelude.{List, [], ◌∷◌, Bool, true, false, codes}
use Rattle.ax_mean.specs.declared.query.Step.TheVariants.{Name}
use Rattle.ax_tree.specs.declared.members.Member.{Member}
use Rattle.ax_policy.specs.declared.mode.Mode.TheVariants.{Consistent}
use Rattle.ax_policy.specs.declared.policy.Policy.{Policy}
use Rattle.ax_policy.specs.Paths.{rule_text}

-- `/"_etag"/?` is excluded, and `/*` included
abbrev pub default_rules : List (Member Bool)
default_rules =
    record { name = rule_text (Name (codes "_etag") ∷ []) false; value = false }
    ∷ record { name = rule_text [] true; value = true } ∷ []

abbrev pub default_policy : Policy
default_policy = record { mode = Consistent; automatic = true; rules = default_rules; composites = [] }
