-- The rules of the policy of a new store are written as paths are.
use Rattle.std.proofs.Common.{◌≡◌, List, [], ◌∷◌, Bool, true, false, refl, ap, ◌∙◌}
use Rattle.std.specs.Prelude.{codes}
use Rattle.ax_mean.specs.declared.query.Step.TheVariants.{Name}
use Rattle.ax_tree.specs.declared.members.Member.{Member}
use Rattle.ax_policy.specs.Default.{default_rules}
use Rattle.ax_policy.specs.Paths.{rule_text}
use Rattle.ax_policy.specs.Written.{are_written, is_written}
use Rattle.ax_policy.proofs.PathTexts.{text_is_written}
use Rattle.ax_policy.proofs.Searching.{both_true}

pub default_are_written : (rules : List (Member Bool)) → rules ≡ default_rules → are_written rules ≡ true
default_are_written rules e =
    ap are_written e
    ∙ both_true (is_written (rule_text (Name (codes "_etag") ∷ []) false)) _
    (text_is_written (record { steps = Name (codes "_etag") ∷ []; all = false }) refl)
    (both_true (is_written (rule_text [] true)) true
    (text_is_written (record { steps = []; all = true }) refl) refl)
