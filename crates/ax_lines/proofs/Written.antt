-- The parameters as a `BTreeMap` keeps them: what an insertion makes of them, and that their names
-- rise since its keys do.
use Rattle.std.proofs.Common.{◌≡◌, List, [], ◌∷◌, ◌++◌, map, ◌&&◌, Option, Some, None, option_map}
use Rattle.std.proofs.Common.{String, Global, string_bytes, string_cmp}
use Rattle.std.proofs.Common.{Ordering, Less, Equal, Greater}
use Rattle.std.proofs.Common.{refl, sym, ap, ◌∙◌, append-nil}
use Rattle.std.specs.BTreeMap.{insert_entry}
use Rattle.std.specs.Cmp.Lexicographic.{slice_cmp}
use Rattle.std.specs.List.{fold}
use Rattle.std.specs.List.Sorted.{IsStrictlySortedBy}
use Rattle.std.specs.Map.{keys_of}
use Rattle.std.specs.Ordering.{is_lt, nat_cmp, match_ordering}
use Rattle.ax_tree.specs.Names.{names, HaveRisingNames}
use Rattle.ax_tree.specs.Rising.{is_rising}
use Rattle.ax_tree.specs.declared.members.Member.{Member}
use Rattle.ax_tree.specs.declared.tree.Tree.{Tree}
use Rattle.ax_text.specs.TreeOf.{both}
use Rattle.ax_lines.specs.Bodies.{parameter, parameters, with_parameter}

abbrev pub Entry : Type 0
Entry = String Global × Tree

abbrev pub member_of : Entry → Member Tree
member_of e = record { name = string_bytes e.0; value = e.1 }

abbrev pub members_of : List Entry → List (Member Tree)
members_of entries = map (λ e. record { name = string_bytes e.0; value = e.1 }) entries

pub rise : (entries : List Entry) → IsStrictlySortedBy string_cmp (keys_of entries)
    → HaveRisingNames (members_of entries)
unfolding IsStrictlySortedBy
rise [] h = refl
rise (e ∷ []) h = refl
rise (e ∷ next ∷ rest) h =
    ap (λ b. b && is_rising (names (members_of (next ∷ rest)))) (ap is_lt h.0.0)
    ∙ rise (next ∷ rest) h.1

by_order : (o : Ordering) (a b : List Entry) (e : Entry) (c : List Entry)
    → members_of (match_ordering o a b (e ∷ c))
    ≡ match_ordering o (members_of a) (members_of b) (member_of e ∷ members_of c)
by_order Less a b e c = refl
by_order Equal a b e c = refl
by_order Greater a b e c = refl

pub inserted : (entries : List Entry) (k : String Global) (value : Tree)
    → members_of (insert_entry string_cmp entries k value)
    ≡ with_parameter (members_of entries) (record { name = string_bytes k; value = value })
inserted [] k value = refl
inserted (e ∷ entries) k value =
    by_order (string_cmp k e.0) ((k, value) ∷ e ∷ entries) ((e.0, value) ∷ entries) e
    (insert_entry string_cmp entries k value)
    ∙ ap (λ l. match_ordering (slice_cmp nat_cmp (string_bytes k) (string_bytes e.0))
    (record { name = string_bytes k; value = value } ∷ members_of (e ∷ entries))
    (record { name = string_bytes e.0; value = value } ∷ members_of entries)
    (member_of e ∷ l)) (inserted entries k value)

-- the map of the parameters so far and of those that are written after them
abbrev pub and_then_written : List Entry → Option (List (Member Tree)) → Option (List (Member Tree))
and_then_written entries rest = option_map (fold with_parameter (members_of entries)) rest

one_more : (done : List (Member Tree)) (m : Member Tree) (rest : Option (List (Member Tree)))
    → option_map (fold with_parameter done) (both (Some m) rest)
    ≡ option_map (fold with_parameter (with_parameter done m)) rest
one_more done m None = refl
one_more done m (Some l) = refl

-- a parameter is read, and inserted
pub more : (all : Option (List (Member Tree))) (old new : List Entry) (items rest : List Tree)
    (item : Tree) (m : Member Tree)
    → and_then_written old (parameters items) ≡ all → items ≡ item ∷ rest
    → parameter item ≡ Some m → members_of new ≡ with_parameter (members_of old) m
    → and_then_written new (parameters rest) ≡ all
more all old new items rest item m made first is entries =
    ap (λ l. option_map (fold with_parameter l) (parameters rest)) entries
    ∙ sym (one_more (members_of old) m (parameters rest))
    ∙ ap (λ o. option_map (fold with_parameter (members_of old)) (both o (parameters rest))) (sym is)
    ∙ ap (λ l. and_then_written old (parameters l)) (sym first)
    ∙ made

-- with all entries read, the names are the map's
pub rise_at_end : (done : List (Member Tree)) (rest all : List Entry)
    → done ++ members_of rest ≡ members_of all → rest ≡ []
    → IsStrictlySortedBy string_cmp (keys_of all) → HaveRisingNames done
rise_at_end done rest all made none sorted =
    ap (λ l. is_rising (names l))
    (sym (append-nil done) ∙ ap (λ l. done ++ members_of l) (sym none) ∙ made)
    ∙ rise all sorted
