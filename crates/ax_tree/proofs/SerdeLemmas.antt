-- What `serde_json` writes of a tree is its canonical text.
use Rattle.std.proofs.Common.{◌≡◌, ℕ, List, [], ◌∷◌, ◌++◌, map, true, false, pos, negsuc, refl, sym, ap, ◌∙◌, subst, append_assoc}
use Rattle.std.specs.List.{join_with_byte}
use Rattle.json.specs.Print.{quoted, print}
use Rattle.serde_json.specs.Data as serde
use Rattle.serde_json.specs.View.{items_of}
use Rattle.serde_json.specs.Written.{compact_text, items_text, members_text}
use Rattle.serde_json.proofs.Texts.{print-outline}
use Rattle.ax_tree.specs.declared.members.Member.{Member}
use Rattle.ax_tree.specs.declared.tree.Tree.{Tree}
use Rattle.ax_tree.specs.declared.tree.Tree.TheOpen.{Tree-F}
use Rattle.ax_tree.specs.declared.tree.Tree.TheViews.{roll-Tree}
use Rattle.ax_tree.specs.declared.tree.Tree.TheFolds.{map-Tree, fold-roll-Tree, ind-Tree}
use Rattle.ax_tree.specs.CanonicalText.{comma, colon, in_brackets, member_text, text_level, canonical_text}
use Rattle.ax_tree.specs.SerdeData.{data_level, data_of, data_members, member_data, tree_tokens}

-- texts with a comma before each, and a closing bracket
abbrev closed_by : ℕ → List (List ℕ) → List ℕ
closed_by bracket [] = bracket ∷ []
closed_by bracket (text ∷ texts) = comma ∷ (text ++ closed_by bracket texts)

joined-first : (bracket : ℕ) (text : List ℕ) (texts : List (List ℕ))
    → text ++ closed_by bracket texts ≡ join_with_byte comma (text ∷ texts) ++ bracket ∷ []
joined-first bracket text [] = refl
joined-first bracket text (next ∷ texts) =
    ap (λ l. text ++ comma ∷ l) (joined-first bracket next texts)
    ∙ sym (append_assoc text (comma ∷ join_with_byte comma (next ∷ texts)) (bracket ∷ []))

items_text-later : (ds : List serde.Data)
    → items_text true (items_of ds) ≡ closed_by 93 (map compact_text ds)
items_text-later [] = refl
items_text-later (d ∷ ds) = ap (λ l. comma ∷ (compact_text d ++ l)) (items_text-later ds)

items_text-joined : (ds : List serde.Data)
    → 91 ∷ items_text false (items_of ds) ≡ in_brackets 91 93 (map compact_text ds)
items_text-joined [] = refl
items_text-joined (d ∷ ds) =
    ap (λ l. 91 ∷ l)
    (ap (λ l. compact_text d ++ l) (items_text-later ds)
    ∙ joined-first 93 (compact_text d) (map compact_text ds))

-- a member, whose value is seen as its text
abbrev written : Member serde.Data → List ℕ
written m = member_text (record { name = m.name; value = compact_text m.value })

member_split : (m : Member serde.Data) (rest : List ℕ)
    → quoted m.name ++ colon ∷ (compact_text m.value ++ rest) ≡ written m ++ rest
member_split m rest = sym (append_assoc (quoted m.name) (colon ∷ compact_text m.value) rest)

members_text-later : (ms : List (Member serde.Data))
    → members_text true (data_members ms) ≡ closed_by 125 (map written ms)
members_text-later [] = refl
members_text-later (m ∷ ms) =
    ap (λ l. comma ∷ l)
    (member_split m (members_text true (data_members ms))
    ∙ ap (λ l. written m ++ l) (members_text-later ms))

members_text-joined : (ms : List (Member serde.Data))
    → 123 ∷ members_text false (data_members ms) ≡ in_brackets 123 125 (map written ms)
members_text-joined [] = refl
members_text-joined (m ∷ ms) =
    ap (λ l. 123 ∷ l) (member_split m (members_text true (data_members ms))
    ∙ ap (λ l. written m ++ l) (members_text-later ms)
    ∙ joined-first 125 (written m) (map written ms))

-- one level of a tree, by its text and by its data
text-roll : (x : Tree-F Tree)
    → canonical_text (roll-Tree x) ≡ text_level (map-Tree Tree (List ℕ) canonical_text x)
text-roll = fold-roll-Tree (List ℕ) text_level

data-roll : (x : Tree-F Tree)
    → data_of (roll-Tree x) ≡ data_level (map-Tree Tree serde.Data data_of x)
data-roll = fold-roll-Tree serde.Data data_level

-- what is written of a tree's data is its canonical text
abbrev IsWritten : Tree → Type 0
IsWritten t = compact_text (data_of t) ≡ canonical_text t

abbrev Written : Type 0
Written = (t : Tree) × IsWritten t

abbrev tree_in : Written → Tree
tree_in e = e.0

items_written : (es : List Written)
    → map compact_text (map data_of (map tree_in es)) ≡ map canonical_text (map tree_in es)
items_written [] = refl
items_written (e ∷ es) = λ i. e.1 i ∷ items_written es i

-- the member's value, without its proof
abbrev member_in : Member Written → Member Tree
member_in m = record { name = m.name; value = tree_in m.value }

members_written : (ms : List (Member Written)) → map written (map member_data (map member_in ms))
    ≡ map member_text
    (map (λ m. record { name = m.name; value = canonical_text m.value }) (map member_in ms))
members_written [] = refl
members_written (m ∷ ms) =
    λ i. member_text (record { name = m.name; value = m.value.1 i }) ∷ members_written ms i

-- one level
level_written : (y : Tree-F Written) → let x = map-Tree Written Tree tree_in y in
    compact_text (data_level (map-Tree Tree serde.Data data_of x)) ≡ text_level
    (map-Tree Tree (List ℕ) canonical_text x)
level_written Tree-F.Null = refl
level_written (Tree-F.Truth true) = refl
level_written (Tree-F.Truth false) = refl
level_written (Tree-F.Number (pos n)) = refl
level_written (Tree-F.Number (negsuc n)) = refl
level_written (Tree-F.Text text) = refl
level_written (Tree-F.List es) = items_text-joined (map data_of (map tree_in es))
    ∙ ap (in_brackets 91 93) (items_written es)
level_written (Tree-F.Object ms) =
    members_text-joined (map member_data (map member_in ms))
    ∙ ap (in_brackets 123 125) (members_written ms)

roll_written : (y : Tree-F Written) → IsWritten (roll-Tree (map-Tree Written Tree tree_in y))
roll_written y =
    let x = map-Tree Written Tree tree_in y in ap compact_text (data-roll x) ∙ level_written y
    ∙ sym (text-roll x)

-- the text of a tree's data is its canonical text
pub compact_text-data_of : (t : Tree) → compact_text (data_of t) ≡ canonical_text t
compact_text-data_of =
    ind-Tree IsWritten (λ x y is. subst (λ z. IsWritten (roll-Tree z)) is (roll_written y))

-- what is printed of a tree's tokens is its canonical text
pub printed_text : (t : Tree) → print (tree_tokens t) ≡ canonical_text t
printed_text t = print-outline (data_of t) ∙ compact_text-data_of t
