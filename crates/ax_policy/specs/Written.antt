-- The texts of paths as policies write them, with every name quoted.
use Rattle.std.specs.Prelude.{ℕ, List, Bool, false, not, ◌&&◌, Option, Some, None}
use Rattle.std.specs.List.{list_all}
use Rattle.std.specs.Str.{bytes_eq}
use Rattle.ax_tree.specs.declared.members.Member.{Member}
use Rattle.ax_policy.specs.declared.rule_path.RulePath.{RulePath}
use Rattle.ax_policy.specs.Paths.{rule_path, rule_text, is_empty}

abbrev pub is_text_of : List ℕ → Option RulePath → Bool
is_text_of text None = false
is_text_of text (Some path) = bytes_eq (rule_text path.steps path.all) text

-- the text is that of a path, as paths are written
unfoldable pub is_written : List ℕ → Bool
is_written text = is_text_of text (rule_path text)

abbrev pub are_written : List (Member Bool) → Bool
are_written rules = list_all (λ m. is_written m.name) rules

-- `/?` alone is no path
abbrev pub is_path : RulePath → Bool
is_path path = not (is_empty path.steps && not path.all)
