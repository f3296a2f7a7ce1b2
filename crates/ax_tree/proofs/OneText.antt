-- A canonical text determines its tree: its tokens do, and a tree is found again in those.
use Rattle.std.proofs.Common.{◌≡◌, List, [], ◌∷◌, ◌++◌, map, max, Bool, true, Option, Some, option_map, option_and_then, refl, sym, ap, ap₂, ◌∙◌, subst, arith}
use Rattle.std.proofs.lemmas.Bool.{and_parts}
use Rattle.std.specs.List.{list_all}
use Rattle.json.specs.Json as json
use Rattle.json.specs.Lex.{tokens}
use Rattle.json.specs.Token.{Token}
use Rattle.json.specs.Tree as shape
use Rattle.json.proofs.Printed.Tokens.{tokens-print}
use Rattle.json.proofs.Printed.Trees.{value-json_tokens, ArePrintable-json_tokens}
use Rattle.serde_json.specs.Data as serde
use Rattle.serde_json.specs.Find.{as_i64}
use Rattle.serde_json.specs.Read.{number_of}
use Rattle.serde_json.specs.View as view
use Rattle.serde_json.specs.Written.{outline, items_outline, members_outline}
use Rattle.ax_tree.specs.declared.members.Member.{Member}
use Rattle.ax_tree.specs.declared.tree.Tree as tree
use Rattle.ax_tree.specs.declared.tree.Tree.{Tree}
use Rattle.ax_tree.specs.declared.tree.Tree.TheOpen.{Tree-F}
use Rattle.ax_tree.specs.declared.tree.Tree.TheViews.{roll-Tree}
use Rattle.ax_tree.specs.declared.tree.Tree.TheFolds.{map-Tree, fold-roll-Tree, ind-Tree}
use Rattle.ax_tree.specs.declared.tree.Tree.TheVariants.{rolls-Null, rolls-Truth, rolls-Number, rolls-Text, rolls-List, rolls-Object}
use Rattle.ax_tree.specs.CanonicalText.{canonical_text}
use Rattle.ax_tree.specs.SerdeData.{data_level, data_of, data_members, member_data}
use Rattle.ax_tree.specs.WellFormed.{numbers_level, numbers_fit, NumbersFit}
use Rattle.ax_tree.proofs.SerdeLemmas.{printed_text}
use Rattle.ax_tree.proofs.WholeNumbers.{reads_back, whole}

-- the tree that JSON shows, with each item and each member where it stands
abbrev mutual
  tree_in : json.Json → Option Tree
  tree_in json.null = Some tree.Null
  tree_in (json.boolean b) = Some (tree.Truth b)
  tree_in (json.number s) = option_map tree.Number (option_and_then as_i64 (number_of s))
  tree_in (json.string s) = Some (tree.Text s)
  tree_in (json.array js) = option_map tree.List (items_in js)
  tree_in (json.object ms) = option_map tree.Object (members_in ms)

  items_in : json.Items → Option (List Tree)
  items_in json.no_items = Some []
  items_in (json.item j js) =
      option_and_then (λ t. option_map (λ l. t ∷ l) (items_in js)) (tree_in j)

  members_in : json.Members → Option (List (Member Tree))
  members_in json.no_members = Some []
  members_in (json.member k j ms) =
      option_and_then (λ t. option_map (λ l. record { name = k; value = t } ∷ l) (members_in ms))
      (tree_in j)

-- the tree is found in the JSON, whose numbers are numbers
record IsShown (j : json.Json) (t : Tree) : Type 0 where
  found : tree_in j ≡ Some t
  numbers : shape.HasNumbers j

numbers-roll : (x : Tree-F Tree)
    → numbers_fit (roll-Tree x) ≡ numbers_level (map-Tree Tree Bool numbers_fit x)
numbers-roll = fold-roll-Tree Bool numbers_level

data-roll : (x : Tree-F Tree)
    → data_of (roll-Tree x) ≡ data_level (map-Tree Tree serde.Data data_of x)
data-roll = fold-roll-Tree serde.Data data_level

abbrev IsKept : Tree → Type 0
IsKept t = NumbersFit t → IsShown (outline (data_of t)) t

abbrev Kept : Type 0
Kept = (t : Tree) × IsKept t

abbrev tree_of : Kept → Tree
tree_of e = e.0

abbrev member_of : Member Kept → Member Tree
member_of m = record { name = m.name; value = tree_of m.value }

-- a name beside whether the value's numbers fit
abbrev judged : Member Tree → Member Bool
judged m = record { name = m.name; value = numbers_fit m.value }

abbrev shown_items : List Kept → json.Items
shown_items es = items_outline (view.items_of (map data_of (map tree_of es)))

abbrev shown_members : List (Member Kept) → json.Members
shown_members ms = members_outline (data_members (map member_data (map member_of ms)))

items_found : (es : List Kept) → list_all (λ item. item) (map numbers_fit (map tree_of es)) ≡ true
    → items_in (shown_items es) ≡ Some (map tree_of es)
items_found [] h = refl
items_found (e ∷ es) h =
    let p = and_parts (numbers_fit e.0) _ h in
    ap₂ (λ t l. option_and_then (λ u. option_map (λ us. u ∷ us) l) t) (e.1 p.0).found
    (items_found es p.1)

items_numbers : (es : List Kept) → list_all (λ item. item) (map numbers_fit (map tree_of es)) ≡ true
    → shape.ItemsHaveNumbers (shown_items es)
items_numbers [] h = tt
items_numbers (e ∷ es) h =
    let p = and_parts (numbers_fit e.0) _ h in ((e.1 p.0).numbers, items_numbers es p.1)

members_found : (ms : List (Member Kept))
    → list_all (λ m. m.value) (map judged (map member_of ms)) ≡ true
    → members_in (shown_members ms) ≡ Some (map member_of ms)
members_found [] h = refl
members_found (m ∷ ms) h =
    let p = and_parts (numbers_fit m.value.0) _ h in
    ap₂
    (λ t l. option_and_then (λ u. option_map (λ us. record { name = m.name; value = u } ∷ us) l)
    t) (m.value.1 p.0).found (members_found ms p.1)

members_numbers : (ms : List (Member Kept))
    → list_all (λ m. m.value) (map judged (map member_of ms)) ≡ true
    → shape.MembersHaveNumbers (shown_members ms)
members_numbers [] h = tt
members_numbers (m ∷ ms) h =
    let p = and_parts (numbers_fit m.value.0) _ h in (
      (m.value.1 p.0).numbers,
      members_numbers ms p.1,
    )

level : (y : Tree-F Kept) → let x =
    map-Tree Kept Tree tree_of y in numbers_level (map-Tree Tree Bool numbers_fit x) ≡ true
    → IsShown (outline (data_level (map-Tree Tree serde.Data data_of x))) (roll-Tree x)
level Tree-F.Null h = record { found = ap Some (sym rolls-Null); numbers = tt }
level (Tree-F.Truth b) h = record { found = ap Some (sym (rolls-Truth b)); numbers = tt }
level (Tree-F.Number z) h =
    let back = reads_back z h in
    record {
      found = ap (λ n. option_map tree.Number (option_and_then as_i64 n)) back.value
          ∙ ap (option_map tree.Number) (whole z h) ∙ ap Some (sym (rolls-Number z));
      numbers = back.number;
    }
level (Tree-F.Text s) h = record { found = ap Some (sym (rolls-Text s)); numbers = tt }
level (Tree-F.List es) h =
    record {
      found = ap (option_map tree.List) (items_found es h)
          ∙ ap Some (sym (rolls-List (map tree_of es)));
      numbers = items_numbers es h;
    }
level (Tree-F.Object ms) h =
    record {
      found = ap (option_map tree.Object) (members_found ms h)
          ∙ ap Some (sym (rolls-Object (map member_of ms)));
      numbers = members_numbers ms h;
    }

roll_kept : (y : Tree-F Kept) → IsKept (roll-Tree (map-Tree Kept Tree tree_of y))
roll_kept y =
    let x = map-Tree Kept Tree tree_of y in λ h. subst (λ d. IsShown (outline d) (roll-Tree x))
    (sym (data-roll x)) (level y (sym (numbers-roll x) ∙ h))

is_shown : (t : Tree) → NumbersFit t → IsShown (outline (data_of t)) t
is_shown = ind-Tree IsKept (λ x y is. subst (λ z. IsKept (roll-Tree z)) is (roll_kept y))

tokens-text : (t : Tree) → NumbersFit t
    → tokens (canonical_text t) ≡ shape.json_tokens (outline (data_of t))
tokens-text t h =
    let j = outline (data_of t) in
    ap tokens (sym (printed_text t))
    ∙ tokens-print (shape.json_tokens j) (ArePrintable-json_tokens j (is_shown t h).numbers)

-- the tokens determine the JSON
json_of_tokens : (i j : json.Json) → shape.json_tokens i ≡ shape.json_tokens j → Some i ≡ Some j
json_of_tokens i j same =
    let n = max (shape.depth i) (shape.depth j) in
    ap (option_map (λ (p : json.Json × List Token). p.0))
    (sym (value-json_tokens i n [] (omega arith))
    ∙ ap (λ l. json.value n (l ++ [])) same
    ∙ value-json_tokens j n [] (omega arith))

some_same : (a b : Tree) → Some a ≡ Some b → a ≡ b
some_same a b e = cc

pub one_text : (a b : Tree) → NumbersFit a → NumbersFit b → canonical_text a ≡ canonical_text b
    → a ≡ b
one_text a b fit_a fit_b same =
    let i = outline (data_of a) in
    let j = outline (data_of b) in
    let alike : shape.json_tokens i ≡ shape.json_tokens j = sym (tokens-text a fit_a)
    ∙ ap tokens same ∙ tokens-text b fit_b in
    some_same a b
    (sym (is_shown a fit_a).found ∙ ap (option_and_then tree_in) (json_of_tokens i j alike)
    ∙ (is_shown b fit_b).found)
