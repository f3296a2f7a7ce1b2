-- The default policy is read again from its own normal tree, so its normal text is a policy's text.
use Rattle.std.proofs.Common.{◌≡◌, ℕ, List, [], ◌∷◌, ◌++◌, map, length, Option, Bool, true, false}
use Rattle.std.proofs.Common.{ap, ◌∙◌, rules, nat_le}
use Rattle.std.specs.Prelude.{◌&&◌, Some, None, codes, if◌then◌else◌, option_and_then}
use Rattle.std.proofs.Common.{◌<◌, arith, zero, suc, nat_lt, refl}
use Rattle.std.specs.Prelude.{slice_index}
use Rattle.std.specs.List.{list_all}
use Rattle.std.specs.Str.{is_utf8}
use Rattle.std.proofs.lemmas.Bool.{and_parts, ltb-true}
use Rattle.std.proofs.lemmas.Str.{IsUtf8-from_ascii, is_utf8-from_IsUtf8}
use Rattle.ax_tree.specs.WellFormed.{IsWellFormed, is_well_formed}
use Rattle.json.specs.Print.{quoted, escape_byte}
use Rattle.ax_mean.specs.declared.query.Step.TheVariants.{Name}
use Rattle.ax_tree.specs.declared.members.Member.{Member}
use Rattle.ax_tree.specs.declared.tree.Tree as tree
use Rattle.ax_tree.specs.declared.tree.Tree.{Tree, out-Tree}
use Rattle.ax_tree.specs.declared.tree.Tree.TheOpen.{Tree-F}
use Rattle.ax_tree.specs.declared.tree.Tree.TheVariants as trees
use Rattle.ax_tree.specs.CanonicalText.{canonical_text, in_brackets, member_text}
use Rattle.ax_tree.specs.Document.{member_level, text_member, text_value_level}
use Rattle.ax_policy.specs.declared.mode.Mode.{Mode}
use Rattle.ax_policy.specs.declared.mode.Mode.TheVariants.{Consistent}
use Rattle.ax_policy.specs.declared.policy.Policy.{Policy}
use Rattle.ax_policy.specs.Composites.{composites_of}
use Rattle.ax_policy.specs.Default.{default_policy, default_rules}
use Rattle.ax_policy.specs.Limits.{most_policy_bytes}
use Rattle.ax_policy.specs.Normal.{normal_text, normal_tree, text_tree}
use Rattle.ax_policy.specs.Paths.{rule_text, rule_path, steps_in}
use Rattle.ax_policy.specs.Policies.{is_map_level, is_unused, mode_in, mode_of, truth_level}
use Rattle.ax_policy.specs.Policies.{truth_of, if_short_text, policy_of}
use Rattle.ax_policy.specs.Reading.{both, read_all, list_value_level}
use Rattle.ax_policy.specs.Rules.{path_text, item_text, texts_of, if_allowed, rules_of}

-- ---- one level of a tree

out_of_map : (members : List (Member Tree)) → out-Tree (trees.Object members)
    ≡ Tree-F.Object members
out_of_map members = search (rules, tree.the_lemmas)

out_of_list : (items : List Tree) → out-Tree (trees.List items) ≡ Tree-F.List items
out_of_list items = search (rules, tree.the_lemmas)

out_of_text : (text : List ℕ) → out-Tree (trees.Text text) ≡ Tree-F.Text text
out_of_text text = search (rules, tree.the_lemmas)

out_of_truth : (value : Bool) → out-Tree (trees.Truth value) ≡ Tree-F.Truth value
out_of_truth value = search (rules, tree.the_lemmas)

-- ---- the rules

abbrev etag : List ℕ
etag = rule_text (Name (codes "_etag") ∷ []) false

abbrev all : List ℕ
all = rule_text [] true

path_told : (text : List ℕ) → text_member (codes "path") (text_tree text) ≡ Some text
path_told text = search (rules, tree.the_lemmas)

etag_item : item_text (text_tree etag) ≡ Some etag
unfolding steps_in
etag_item = ap (λ t. option_and_then path_text (option_and_then rule_path t)) (path_told etag)

all_item : item_text (text_tree all) ≡ Some all
unfolding steps_in
all_item = ap (λ t. option_and_then path_text (option_and_then rule_path t)) (path_told all)

one_text_read : (text : List ℕ) → item_text (text_tree text) ≡ Some text
    → texts_of (Some (trees.List (text_tree text ∷ []))) ≡ Some (text ∷ [])
one_text_read text is =
    ap (λ x. option_and_then (read_all item_text) (list_value_level x))
    (out_of_list (text_tree text ∷ []))
    ∙ ap (λ first. both first (Some [])) is

rules_read : rules_of Consistent (Some (trees.List (text_tree all ∷ [])))
    (Some (trees.List (text_tree etag ∷ []))) ≡ Some default_rules
rules_read =
    ap (λ ins. option_and_then (λ i. option_and_then (if_allowed Consistent i)
    (texts_of (Some (trees.List (text_tree etag ∷ []))))) ins) (one_text_read all all_item)
    ∙ ap (λ outs. option_and_then (if_allowed Consistent (all ∷ [])) outs)
    (one_text_read etag etag_item)

-- ---- the other members

mode_read : mode_of (Some (trees.Text (codes "consistent"))) ≡ Some Consistent
mode_read =
    ap (λ x. option_and_then mode_in (text_value_level x)) (out_of_text (codes "consistent"))

truth_read : truth_of (Some (trees.Truth true)) ≡ Some true
truth_read = ap truth_level (out_of_truth true)

composites_read : composites_of (Some (trees.List [])) ≡ Some []
composites_read = search (rules, tree.the_lemmas)

-- ---- the text

abbrev told : Member Tree → Member (List ℕ)
told m = record { name = m.name; value = canonical_text m.value }

text_of_map : (members : List (Member Tree)) → canonical_text (trees.Object members)
    ≡ in_brackets 123 125 (map member_text (map told members))
text_of_map members = search (rules, tree.the_lemmas)

text_of_list : (items : List Tree)
    → canonical_text (trees.List items) ≡ in_brackets 91 93 (map canonical_text items)
text_of_list items = search (rules, tree.the_lemmas)

text_of_text : (text : List ℕ) → canonical_text (trees.Text text) ≡ quoted text
text_of_text text = search (rules, tree.the_lemmas)

text_of_true : canonical_text (trees.Truth true) ≡ codes "true"
text_of_true = search (rules, tree.the_lemmas)

path_item : (text : List ℕ) → canonical_text (text_tree text)
    ≡ in_brackets 123 125 ((quoted (codes "path") ++ 58 ∷ quoted text) ∷ [])
path_item text =
    text_of_map (record { name = codes "path"; value = trees.Text text } ∷ [])
    ∙ ap (λ v. in_brackets 123 125 ((quoted (codes "path") ++ 58 ∷ v) ∷ [])) (text_of_text text)

path_list : (text : List ℕ) → canonical_text (trees.List (text_tree text ∷ []))
    ≡ in_brackets 91 93 (in_brackets 123 125 ((quoted (codes "path") ++ 58 ∷ quoted text) ∷ []) ∷
    [])
path_list text =
    text_of_list (text_tree text ∷ [])
    ∙ ap (λ v. in_brackets 91 93 (v ∷ [])) (path_item text)

abbrev five : List ℕ → List ℕ → List ℕ → List ℕ → List ℕ → List ℕ
five a b c d e =
    in_brackets 123 125
    ((quoted (codes "automatic") ++ 58 ∷ a)
    ∷ (quoted (codes "compositeIndexes") ++ 58 ∷ b)
    ∷ (quoted (codes "excludedPaths") ++ 58 ∷ c)
    ∷ (quoted (codes "includedPaths") ++ 58 ∷ d)
    ∷ (quoted (codes "indexingMode") ++ 58 ∷ e) ∷ [])

abbrev item : List ℕ → List ℕ
item text =
    in_brackets 91 93 (in_brackets 123 125 ((quoted (codes "path") ++ 58 ∷ quoted text) ∷ []) ∷ [])

abbrev default_members : List (Member Tree)
default_members =
    record { name = codes "automatic"; value = trees.Truth true }
    ∷ record { name = codes "compositeIndexes"; value = trees.List [] }
    ∷ record { name = codes "excludedPaths"; value = trees.List (text_tree etag ∷ []) }
    ∷ record { name = codes "includedPaths"; value = trees.List (text_tree all ∷ []) }
    ∷ record { name = codes "indexingMode"; value = trees.Text (codes "consistent") } ∷ []

whole_text : normal_text default_policy
    ≡ five (codes "true") (in_brackets 91 93 []) (item etag) (item all)
    (quoted (codes "consistent"))
whole_text =
    text_of_map default_members
    ∙ (λ i. five (text_of_true i) (text_of_list [] i) (path_list etag i) (path_list all i)
    (text_of_text (codes "consistent") i))

short : if_short_text default_policy ≡ Some default_policy
unfolding escape_byte
short =
    ap (λ text. if nat_le (length text) most_policy_bytes then Some default_policy else None)
    whole_text

-- ---- the policy

abbrev with_members : Option Mode → Option Bool → (Mode → Option (List (Member Bool)))
    → Option Policy
with_members mode automatic rules =
    option_and_then
    (λ m. option_and_then (λ a. option_and_then
    (λ r. option_and_then
    (λ c. if_short_text (record { mode = m; automatic = a; rules = r; composites = c }))
    (composites_of (Some (trees.List [])))) (rules m)) automatic) mode

abbrev at_level : Tree-F Tree → Option Policy
at_level x =
    if is_map_level x && (is_unused (member_level (codes "spatialIndexes") x)
    && is_unused (member_level (codes "vectorIndexes") x)
    && is_unused (member_level (codes "fullTextIndexes") x))
    then option_and_then
    (λ m. option_and_then (λ a. option_and_then
    (λ r. option_and_then
    (λ c. if_short_text (record { mode = m; automatic = a; rules = r; composites = c }))
    (composites_of (member_level (codes "compositeIndexes") x)))
    (rules_of m (member_level (codes "includedPaths") x) (member_level (codes "excludedPaths") x)))
    (truth_of (member_level (codes "automatic") x)))
    (mode_of (member_level (codes "indexingMode") x))
    else None

pub default_reads : policy_of (normal_tree default_policy) ≡ Some default_policy
default_reads =
    ap at_level (out_of_map default_members)
    ∙ ap (λ mode. with_members mode (truth_of (Some (trees.Truth true)))
    (λ m. rules_of m (Some (trees.List (text_tree all ∷ [])))
    (Some (trees.List (text_tree etag ∷ []))))) mode_read
    ∙ ap (λ a. with_members (Some Consistent) a
    (λ m. rules_of m (Some (trees.List (text_tree all ∷ [])))
    (Some (trees.List (text_tree etag ∷ []))))) truth_read
    ∙ ap (λ r. option_and_then
    (λ r. option_and_then
    (λ c. if_short_text (record { mode = Consistent; automatic = true; rules = r; composites = c }))
    (composites_of (Some (trees.List [])))) r) rules_read
    ∙ ap (λ c. option_and_then
    (λ c. if_short_text
    (record { mode = Consistent; automatic = true; rules = default_rules; composites = c })) c)
    composites_read
    ∙ short

-- ---- its texts are UTF-8

low : (bytes : List ℕ) → list_all (λ byte. nat_lt byte 128) bytes ≡ true
    → (i : ℕ) → slice_index bytes i < 128
low [] h i = omega arith
low (byte ∷ bytes) h zero = ltb-true byte 128 ((and_parts _ _ h).0)
low (byte ∷ bytes) h (suc i) = low bytes ((and_parts _ _ h).1) i

utf8 : (bytes : List ℕ) → list_all (λ byte. nat_lt byte 128) bytes ≡ true → is_utf8 bytes ≡ true
utf8 bytes h = is_utf8-from_IsUtf8 bytes (IsUtf8-from_ascii bytes (low bytes h))

automatic_fits : is_utf8 (codes "automatic") ≡ true
automatic_fits = utf8 (codes "automatic") refl

composites_fits : is_utf8 (codes "compositeIndexes") ≡ true
composites_fits = utf8 (codes "compositeIndexes") refl

excluded_fits : is_utf8 (codes "excludedPaths") ≡ true
excluded_fits = utf8 (codes "excludedPaths") refl

included_fits : is_utf8 (codes "includedPaths") ≡ true
included_fits = utf8 (codes "includedPaths") refl

mode_fits : is_utf8 (codes "indexingMode") ≡ true
mode_fits = utf8 (codes "indexingMode") refl

path_fits : is_utf8 (codes "path") ≡ true
path_fits = utf8 (codes "path") refl

consistent_fits : is_utf8 (codes "consistent") ≡ true
consistent_fits = utf8 (codes "consistent") refl

etag_fits : is_utf8 (etag) ≡ true
etag_fits = utf8 (etag) refl

all_fits : is_utf8 (all) ≡ true
all_fits = utf8 (all) refl

path_fine : (text : List ℕ) → is_utf8 text ≡ true → is_well_formed (text_tree text) ≡ true
path_fine text fits = search (rules, tree.the_lemmas, path_fits, fits)

pub default_fine : IsWellFormed (normal_tree default_policy)
default_fine =
    search (
      rules,
      tree.the_lemmas,
      automatic_fits,
      composites_fits,
      excluded_fits,
      included_fits,
      mode_fits,
      path_fits,
      consistent_fits,
      etag_fits,
      all_fits,
    )
