-- The indexing policy that a tree is, from the indexing-policy manual of Azure Cosmos DB for NoSQL,
-- and none of a tree that is refused. A policy is a map; a member that is absent has its default,
-- and one that is not named here is ignored.
use Rattle.std.specs.Prelude.{ℕ, List, length, map, Bool, true, false, ◌&&◌, nat_le}
use Rattle.std.specs.Prelude.{if◌then◌else◌, Option, Some, None, option_and_then, codes}
use Rattle.std.specs.Char.{to_ascii_lowercase}
use Rattle.std.specs.Str.{bytes_eq}
use Rattle.ax_tree.specs.Document.{member, text_value}
use Rattle.ax_tree.specs.declared.tree.Tree.{Tree, out-Tree}
use Rattle.ax_tree.specs.declared.tree.Tree.TheOpen.{Tree-F}
use Rattle.ax_policy.specs.declared.mode.Mode.{Mode}
use Rattle.ax_policy.specs.declared.mode.Mode.TheVariants.{Consistent, None as Off}
use Rattle.ax_policy.specs.declared.policy.Policy.{Policy}
use Rattle.ax_policy.specs.Composites.{composites_of}
use Rattle.ax_policy.specs.Limits.{most_policy_bytes}
use Rattle.ax_policy.specs.Normal.{normal_text}
use Rattle.ax_policy.specs.Paths.{is_empty}
use Rattle.ax_policy.specs.Reading.{list_value}
use Rattle.ax_policy.specs.Rules.{rules_of}

abbrev pub is_map_level : Tree-F Tree → Bool
is_map_level (Tree-F.Object members) = true
is_map_level Tree-F.Null = false
is_map_level (Tree-F.Truth value) = false
is_map_level (Tree-F.Number value) = false
is_map_level (Tree-F.Text value) = false
is_map_level (Tree-F.List items) = false

abbrev pub is_map : Tree → Bool
is_map given = is_map_level (out-Tree given)

-- `consistent` or `none`, in any case of its letters
abbrev pub mode_in : List ℕ → Option Mode
mode_in word =
    if bytes_eq (map to_ascii_lowercase word) (codes "consistent") then Some Consistent
    else if bytes_eq (map to_ascii_lowercase word) (codes "none") then Some Off else None

abbrev pub mode_of : Option Tree → Option Mode
mode_of None = Some Consistent
mode_of (Some given) = option_and_then mode_in (text_value given)

abbrev pub truth_level : Tree-F Tree → Option Bool
truth_level (Tree-F.Truth value) = Some value
truth_level Tree-F.Null = None
truth_level (Tree-F.Number value) = None
truth_level (Tree-F.Text value) = None
truth_level (Tree-F.List items) = None
truth_level (Tree-F.Object members) = None

abbrev pub truth_of : Option Tree → Option Bool
truth_of None = Some true
truth_of (Some given) = truth_level (out-Tree given)

-- absent, or the empty list
abbrev pub is_none_given : Option (List Tree) → Bool
is_none_given None = false
is_none_given (Some items) = is_empty items

abbrev pub is_unused : Option Tree → Bool
is_unused None = true
is_unused (Some given) = is_none_given (list_value given)

-- no kind of index that there is not here
abbrev pub has_no_others : Tree → Bool
has_no_others given =
    is_unused (member (codes "spatialIndexes") given)
    && is_unused (member (codes "vectorIndexes") given)
    && is_unused (member (codes "fullTextIndexes") given)

abbrev pub if_short_text : Policy → Option Policy
if_short_text policy =
    if nat_le (length (normal_text policy)) most_policy_bytes then Some policy else None

-- the policy of a map with this mode and this value of `automatic`
abbrev pub policy_with : Tree → Mode → Bool → Option Policy
policy_with given mode automatic =
    option_and_then
    (λ rules. option_and_then
    (λ composites. if_short_text (record { mode = mode; automatic = automatic; rules = rules; composites = composites }))
    (composites_of (member (codes "compositeIndexes") given)))
    (rules_of mode (member (codes "includedPaths") given) (member (codes "excludedPaths") given))

abbrev pub policy_in : Tree → Option Policy
policy_in given =
    option_and_then
    (λ mode. option_and_then (policy_with given mode) (truth_of (member (codes "automatic") given)))
    (mode_of (member (codes "indexingMode") given))

-- the policy that a tree is
abbrev pub policy_of : Tree → Option Policy
policy_of given = if is_map given && has_no_others given then policy_in given else None
