-- The rules as a `BTreeMap` keeps them: what an insertion makes of them, what is found among them,
-- and that their texts rise since its keys do.
use Rattle.std.proofs.Common.{◌≡◌, ℕ, List, [], ◌∷◌, ◌++◌, map, ◌&&◌, Bool, cond, Some}
use Rattle.std.proofs.Common.{String, Global, string_bytes, string_cmp}
use Rattle.std.proofs.Common.{Ordering, Less, Equal, Greater}
use Rattle.std.proofs.Common.{refl, sym, ap, ◌∙◌, append-nil}
use Rattle.std.specs.BTreeMap.{insert_entry, is_at}
use Rattle.std.specs.Cmp.Lexicographic.{slice_cmp}
use Rattle.std.specs.List.Sorted.{IsStrictlySortedBy}
use Rattle.std.specs.Map.{keys_of, lookup}
use Rattle.std.specs.Option.{is_some}
use Rattle.std.specs.Ordering.{is_lt, nat_cmp, match_ordering}
use Rattle.std.specs.Str.{bytes_eq}
use Rattle.std.proofs.lemmas.Map.Text.{is_eq-slice_cmp}
use Rattle.ax_tree.specs.Names.{names, HaveRisingNames}
use Rattle.ax_tree.specs.Rising.{is_rising}
use Rattle.ax_tree.specs.declared.members.Member.{Member}
use Rattle.ax_policy.specs.Rules.{with_rule, under}

abbrev pub Entry : Type 0
Entry = String Global × Bool

abbrev pub rule_in : Entry → Member Bool
rule_in e = record { name = string_bytes e.0; value = e.1 }

abbrev pub rules_in : List Entry → List (Member Bool)
rules_in entries = map (λ e. record { name = string_bytes e.0; value = e.1 }) entries

abbrev pub is_rule : List Entry → List ℕ → Bool
is_rule entries text = is_some (under text (rules_in entries))

pub rise : (entries : List Entry) → IsStrictlySortedBy string_cmp (keys_of entries)
    → HaveRisingNames (rules_in entries)
unfolding IsStrictlySortedBy
rise [] h = refl
rise (e ∷ []) h = refl
rise (e ∷ next ∷ rest) h =
    ap (λ b. b && is_rising (names (rules_in (next ∷ rest)))) (ap is_lt h.0.0)
    ∙ rise (next ∷ rest) h.1

by_order : (o : Ordering) (a b : List Entry) (e : Entry) (c : List Entry)
    → rules_in (match_ordering o a b (e ∷ c))
    ≡ match_ordering o (rules_in a) (rules_in b) (rule_in e ∷ rules_in c)
by_order Less a b e c = refl
by_order Equal a b e c = refl
by_order Greater a b e c = refl

pub inserted : (entries : List Entry) (k : String Global) (value : Bool)
    → rules_in (insert_entry string_cmp entries k value)
    ≡ with_rule (rules_in entries) (record { name = string_bytes k; value = value })
inserted [] k value = refl
inserted (e ∷ entries) k value =
    by_order (string_cmp k e.0) ((k, value) ∷ e ∷ entries) ((e.0, value) ∷ entries) e
    (insert_entry string_cmp entries k value)
    ∙ ap (λ l. match_ordering (slice_cmp nat_cmp (string_bytes k) (string_bytes e.0))
    (record { name = string_bytes k; value = value } ∷ rules_in (e ∷ entries))
    (record { name = string_bytes e.0; value = value } ∷ rules_in entries)
    (rule_in e ∷ l)) (inserted entries k value)

-- what is found in the map is what stands under the text
pub looked_up : (entries : List Entry) (text : List ℕ)
    → lookup (is_at (λ k. slice_cmp nat_cmp text (string_bytes k))) entries ≡ under text (rules_in entries)
looked_up [] text = refl
looked_up (e ∷ entries) text =
    ap (λ b. cond b (Some e.1) (lookup (is_at (λ k. slice_cmp nat_cmp text (string_bytes k))) entries))
    (is_eq-slice_cmp text (string_bytes e.0))
    ∙ ap (λ o. cond (bytes_eq text (string_bytes e.0)) (Some e.1) o) (looked_up entries text)

pub none_in : (entries : List Entry) → entries ≡ [] → rules_in entries ≡ []
none_in entries e = ap rules_in e

-- with all entries read, the names are the map's
pub rise_at_end : (done : List (Member Bool)) (rest all : List Entry)
    → done ++ rules_in rest ≡ rules_in all → rest ≡ []
    → IsStrictlySortedBy string_cmp (keys_of all) → HaveRisingNames done
rise_at_end done rest all made none sorted =
    ap (λ l. is_rising (names l))
    (sym (append-nil done) ∙ ap (λ l. done ++ rules_in l) (sym none) ∙ made)
    ∙ rise all sorted
