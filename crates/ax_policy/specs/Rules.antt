-- The rules of an indexing policy, from the indexing-policy manual of Azure Cosmos DB for NoSQL: the
-- included and the excluded paths, each under its text, in byte order of the texts. With mode
-- `consistent` the path `/*` is in one of the lists; no path is in both.
use Rattle.std.specs.Prelude.{ℕ, List, [], ◌∷◌, map, Bool, true, false, not, ◌&&◌, ◌||◌}
use Rattle.std.specs.Prelude.{if◌then◌else◌, Option, Some, None, is_some, option_and_then, codes}
use Rattle.std.specs.Cmp.Lexicographic.{slice_cmp}
use Rattle.std.specs.List.{list_any, fold}
use Rattle.std.specs.Ordering.{nat_cmp, match_ordering}
use Rattle.std.specs.Str.{bytes_eq}
use Rattle.ax_tree.specs.Document.{text_member}
use Rattle.ax_tree.specs.declared.members.Member.{Member}
use Rattle.ax_tree.specs.declared.tree.Tree.{Tree}
use Rattle.ax_policy.specs.declared.mode.Mode.{Mode}
use Rattle.ax_policy.specs.declared.mode.Mode.TheVariants.{Consistent, None as Off}
use Rattle.ax_policy.specs.declared.rule_path.RulePath.{RulePath}
use Rattle.ax_policy.specs.Limits.{is_short_path}
use Rattle.ax_policy.specs.Paths.{rule_path, rule_text}
use Rattle.ax_policy.specs.Reading.{read_all, trees_of}

-- ---- one list of paths

abbrev pub path_text : RulePath → Option (List ℕ)
path_text path = if is_short_path path.steps then Some (rule_text path.steps path.all) else None

-- the path of an item, as it is written with every name quoted
abbrev pub item_text : Tree → Option (List ℕ)
item_text item =
    option_and_then path_text (option_and_then rule_path (text_member (codes "path") item))

-- the paths of a list, which is empty where the member is absent
abbrev pub texts_of : Option Tree → Option (List (List ℕ))
texts_of given = option_and_then (read_all item_text) (trees_of given)

-- ---- both lists

abbrev pub is_in : List ℕ → List (List ℕ) → Bool
is_in text texts = list_any (λ other. bytes_eq text other) texts

-- with mode `consistent` something is said of all paths
abbrev pub says_of_all : Mode → List (List ℕ) → List (List ℕ) → Bool
says_of_all Consistent included excluded =
    is_in (rule_text [] true) excluded || is_in (rule_text [] true) included
says_of_all Off included excluded = true

abbrev pub share : List (List ℕ) → List (List ℕ) → Bool
share included excluded = list_any (λ text. is_in text included) excluded

-- a rule among others, in byte order of the texts
abbrev pub with_rule : List (Member Bool) → Member Bool → List (Member Bool)
with_rule [] rule = rule ∷ []
with_rule (first ∷ rest) rule =
    match_ordering (slice_cmp nat_cmp rule.name first.name)
    (rule ∷ first ∷ rest)
    (record { name = first.name; value = rule.value } ∷ rest)
    (first ∷ with_rule rest rule)

-- the texts, as rules that are all included or all excluded
abbrev pub flagged : Bool → List (List ℕ) → List (Member Bool)
flagged included texts = map (λ text. record { name = text; value = included }) texts

abbrev pub rules_from : List (List ℕ) → List (List ℕ) → List (Member Bool)
rules_from included excluded =
    fold with_rule (fold with_rule [] (flagged true included)) (flagged false excluded)

abbrev pub if_allowed : Mode → List (List ℕ) → List (List ℕ) → Option (List (Member Bool))
if_allowed mode included excluded =
    if says_of_all mode included excluded && not (share included excluded)
    then Some (rules_from included excluded) else None

-- the rules of a policy of that mode with these members for its paths
abbrev pub rules_of : Mode → Option Tree → Option Tree → Option (List (Member Bool))
rules_of mode included excluded =
    option_and_then (λ ins. option_and_then (if_allowed mode ins) (texts_of excluded))
    (texts_of included)

-- what stands under a name: under the text of a rule whether it is included
abbrev pub under : {T : Type 0} → List ℕ → List (Member T) → Option T
under text [] = None
under text (first ∷ rest) = if bytes_eq text first.name then Some first.value else under text rest

-- what `says_of_all` comes to once the rules are together; no public clause cites it
abbrev pub holds_all : Mode → List (Member Bool) → Bool
holds_all Consistent rules = is_some (under (rule_text [] true) rules)
holds_all Off rules = true

abbrev pub if_holds : Mode → List (Member Bool) → Option (List (Member Bool))
if_holds mode rules = if holds_all mode rules then Some rules else None
