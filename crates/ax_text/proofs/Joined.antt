-- Trees that are made one after another: those made so far, before what the rest is.
use Rattle.std.proofs.Common.{◌≡◌, ℕ, List, [], ◌∷◌, ◌++◌, Option, Some, None, option_map, refl, sym, ap, ◌∙◌, append_assoc, append-nil, string_cmp}
use Rattle.std.proofs.Common.{String, Global, string_bytes}
use Rattle.std.proofs.lemmas.List.{map-append}
use Rattle.std.specs.List.Sorted.{IsStrictlySortedBy}
use Rattle.std.specs.Map.{keys_of}
use Rattle.serde_json.specs.View.{view, items_view, members_view}
use Rattle.serde_json.specs.declared.value.Value.{Value}
use Rattle.ax_tree.specs.Names.{names, HaveRisingNames}
use Rattle.ax_tree.specs.Rising.{is_rising}
use Rattle.ax_tree.specs.declared.members.Member.{Member}
use Rattle.ax_tree.specs.declared.tree.Tree.{Tree}
use Rattle.ax_text.specs.TreeOf.{both, named, tree_of, items_of, members_of}
use Rattle.ax_text.proofs.Entries.{Entry, entry_names, entry_names-rise}

abbrev pub joined : {A : Type 0} → List A → Option (List A) → Option (List A)
joined done rest = option_map (λ l. done ++ l) rest

joined-both : {A : Type 0} (done : List A) (a : A) (rest : Option (List A))
    → joined done (both (Some a) rest) ≡ joined (done ++ a ∷ []) rest
joined-both done a None = refl
joined-both done a (Some l) = ap Some (sym (append_assoc done (a ∷ []) l))

-- a value is read, and its tree stands behind those made so far
pub items-more : (all : Option (List Tree)) (done : List Tree) (values rest : List Value)
    (v : Value) (t : Tree)
    → joined done (items_of (items_view values)) ≡ all → values ≡ v ∷ rest
    → tree_of (view v) ≡ Some t
    → joined (done ++ t ∷ []) (items_of (items_view rest)) ≡ all
items-more all done values rest v t made first value =
    sym (joined-both done t (items_of (items_view rest)))
    ∙ ap (λ o. joined done (both o (items_of (items_view rest)))) (sym value)
    ∙ ap (λ l. joined done (items_of (items_view l))) (sym first)
    ∙ made

-- an entry is read, and its member stands behind those made so far
pub members-more : (all : Option (List (Member Tree))) (done : List (Member Tree))
    (entries rest : List Entry) (k : String Global) (v : Value) (m : Member Tree)
    → joined done (members_of (members_view entries)) ≡ all → entries ≡ (k, v) ∷ rest
    → m.name ≡ string_bytes k → tree_of (view v) ≡ Some m.value
    → joined (done ++ m ∷ []) (members_of (members_view rest)) ≡ all
members-more all done entries rest k v m made first name value =
    sym (joined-both done m (members_of (members_view rest)))
    ∙ ap (λ n. joined done (both (named n (Some m.value)) (members_of (members_view rest)))) name
    ∙ ap (λ t. joined done (both (named (string_bytes k) t) (members_of (members_view rest))))
    (sym value)
    ∙ ap (λ l. joined done (members_of (members_view l))) (sym first)
    ∙ made

pub names-more : (all : List (List ℕ)) (done : List (Member Tree)) (entries rest : List Entry)
    (k : String Global) (v : Value) (m : Member Tree)
    → names done ++ entry_names entries ≡ all → entries ≡ (k, v) ∷ rest → m.name ≡ string_bytes k
    → names (done ++ m ∷ []) ++ entry_names rest ≡ all
names-more all done entries rest k v m listed first name =
    ap (λ l. l ++ entry_names rest) (map-append (λ n. n.name) done (m ∷ []))
    ∙ append_assoc (names done) (m.name ∷ []) (entry_names rest)
    ∙ ap (λ n. names done ++ n ∷ entry_names rest) name
    ∙ ap (λ l. names done ++ entry_names l) (sym first)
    ∙ listed

-- with all entries read, the names are the map's
pub names-rise : (done : List (Member Tree)) (remaining all : List Entry)
    → names done ++ entry_names remaining ≡ entry_names all → remaining ≡ []
    → IsStrictlySortedBy string_cmp (keys_of all) → HaveRisingNames done
names-rise done remaining all listed none_remain sorted =
    ap is_rising
    (sym (append-nil (names done)) ∙ ap (λ l. names done ++ entry_names l) (sym none_remain)
    ∙ listed) ∙ entry_names-rise all sorted
