-- The pairs of a document that a store can hold have short terms, under every policy that some tree is.
use Rattle.std.proofs.Common.{◌≡◌, inl, inr, ℕ, zero, suc, ◌+◌, ◌*◌, ◌≤◌, ◌==◌, Bool, true, false, List, [], ◌∷◌, length, map}
use Rattle.std.proofs.Common.{arith, refl, ap, subst, ◌∙◌}
use Rattle.std.specs.Prelude.{◌-◌, if◌then◌else◌, sum_by, ◌&&◌, nat_le}
use Rattle.std.specs.List.{Contains}
use Rattle.std.proofs.lemmas.Bool.{and_parts, eqb-true, leb-true}
use Rattle.std.proofs.lemmas.List.{length-append, length-map, length-take}
use Rattle.std.proofs.lemmas.List.Sums.{sum_by-cons}
use Rattle.std.proofs.Common.{Option, Some, None}
use Rattle.std.specs.Prelude.{IfSome, codes, option_and_then}
use Rattle.std.specs.Option.{option_map}
use Rattle.std.specs.List.{AllByRecursion, fold}
use Rattle.std.specs.Cmp.Lexicographic.{slice_cmp}
use Rattle.std.specs.Ordering.{match_ordering, nat_cmp}
use Rattle.std.specs.declared.cmp.Ordering.TheVariants.{Less, Equal, Greater}
use Rattle.ax_area.proofs.OneTelling.{same_some, some_or_none}
use Rattle.ax_keep.specs.Owned.{HasIndexTerm, Owns}
use Rattle.ax_pair.specs.declared.pair.Pair.{Pair}
use Rattle.ax_policy.specs.Composites.{by_text, composite_of, composite_text, composites_of, if_composite, if_few, part_of, with_composite}
use Rattle.ax_policy.specs.Covering.{indexes}
use Rattle.ax_policy.specs.Limits.{least_paths, most_paths, most_policy_bytes}
use Rattle.ax_policy.specs.Normal.{normal_text}
use Rattle.ax_policy.specs.Ordering.{offered}
use Rattle.ax_policy.specs.Policies.{has_no_others, if_short_text, is_map, mode_of, policy_in, policy_of, policy_with, truth_of}
use Rattle.ax_policy.specs.Reading.{both, list_value, read_all, trees_of}
use Rattle.ax_policy.specs.Rules.{rules_of}
use Rattle.ax_policy.specs.declared.mode.Mode.{Mode}
use Rattle.ax_policy.specs.declared.policy.Policy.{Policy}
use Rattle.ax_tree.specs.Document.{document_id, is_id, member, text_member}
use Rattle.ax_storable.specs.Storable.{IsStorable}
use Rattle.ax_storable.specs.IndexLimits.{longest_path}
use Rattle.ax_mean.specs.declared.query.Order.{Order}
use Rattle.ax_mean.specs.declared.query.Step.{Step}
use Rattle.ax_mean.specs.declared.query.Step.TheVariants.{Item, Name}
use Rattle.ax_mean.specs.declared.value.Value.{Value}
use Rattle.ax_mean.specs.declared.value.Value.TheVariants.{Defined, Undefined}
use Rattle.ax_policy.specs.Composites.{are_apart, is_composite, parts_size}
use Rattle.ax_policy.specs.Limits as limits
use Rattle.ax_term.specs.CutTexts.{CutText, cut}
use Rattle.ax_term.specs.CutValues.{CutValue, cut_level, cut_of}
use Rattle.ax_term.specs.TermBytes.{columns_bytes, directed_bytes, escaped, path_bytes, step_bytes, text_bytes, value_bytes, values_bytes}
use Rattle.ax_terms.specs.Counts.{path_size}
use Rattle.ax_terms.specs.Leaves.{Leaf, leaves}
use Rattle.ax_terms.specs.TermsOf.{composite_term_of, leaf_term, value_at}
use Rattle.ax_mean.specs.Rows.{along_path}
use Rattle.ax_tree.specs.CanonicalText.{canonical_text}
use Rattle.ax_tree.specs.Nesting.{greatest}
use Rattle.ax_tree.specs.declared.tree.Tree.{Tree, out-Tree}
use Rattle.ax_tree.specs.declared.tree.Tree.TheOpen.{Tree-F}

-- ---- values

escaped_most : (bytes : List ℕ) → length (escaped bytes) ≤ 2 * length bytes
escaped_most [] = omega arith
escaped_most (zero ∷ bytes) = omega (arith, escaped_most bytes)
escaped_most (suc byte ∷ bytes) = omega (arith, escaped_most bytes)

cut_most : (bytes : List ℕ) → length (cut bytes).front ≤ 128
cut_most bytes = omega (arith, length-take 128 bytes)

text_most : (text : CutText) → length text.front ≤ 128 → length (text_bytes text) ≤ 258
text_most text short =
    omega (arith, short, escaped_most text.front, length-append (escaped text.front) (0 ∷ (if text.is_cut then 2 else 1) ∷ []))

cut_text_most : (bytes : List ℕ) → length (text_bytes (cut bytes)) ≤ 258
cut_text_most bytes = text_most (cut bytes) (cut_most bytes)

level_most : (tree : Tree) (level : Tree-F Tree) → length (value_bytes (cut_level tree level)) ≤ 259
level_most tree Tree-F.Null = omega arith
level_most tree (Tree-F.Truth false) = omega arith
level_most tree (Tree-F.Truth true) = omega arith
level_most tree (Tree-F.Number number) = omega arith
level_most tree (Tree-F.Text text) = omega (arith, cut_text_most text)
level_most tree (Tree-F.List items) = omega (arith, cut_text_most (canonical_text tree))
level_most tree (Tree-F.Object members) = omega (arith, cut_text_most (canonical_text tree))

value_most : (value : Value) → length (value_bytes (cut_of value)) ≤ 259
value_most Undefined = omega arith
value_most (Defined tree) = level_most tree (out-Tree tree)

-- ---- the term of a leaf

greatest_of : (given : List Leaf) (leaf : Leaf) → Contains given leaf → path_size leaf ≤ greatest (map path_size given)
greatest_of [] leaf (k, there, is) = absurd (omega (arith, there))
greatest_of (first ∷ given) leaf (zero, there, is) = omega (arith, ap path_size is)
greatest_of (first ∷ given) leaf (suc k, there, is) = omega (arith, greatest_of given leaf (k, omega (arith, there), is))

pub leaf_short : (tree : Tree) → IsStorable tree → (leaf : Leaf) → Contains (leaves tree) leaf → length (leaf_term leaf) ≤ 4096
leaf_short tree storable leaf there =
    let fits = and_parts _ _ storable.fits in
    let paths = and_parts (nat_le (longest_path tree) 1024) _ fits.0 in
    let longest : longest_path tree ≤ 1024 = leb-true (longest_path tree) 1024 paths.0 in
    let path : path_size leaf ≤ longest_path tree = greatest_of (leaves tree) leaf there in
    let value = value_most (Defined leaf.tree) in
    let long = length-append (path_bytes leaf.path) (value_bytes (cut_of (Defined leaf.tree))) in
    omega (arith, longest, path, value, long)

-- ---- the term of a composite

abbrev size_by : Bool → ℕ
size_by test = if test then 2 else 1

byte_is : (byte : ℕ) (bytes : List ℕ) → length (escaped (byte ∷ bytes)) ≡ limits.byte_size byte + length (escaped bytes)
byte_is zero bytes = omega arith
byte_is (suc byte) bytes = omega (arith, other byte)
  where
    by_test : (byte : ℕ) (test : Bool) → (suc byte == 0) ≡ test → size_by test ≡ 1
    by_test byte true e = absurd (omega (arith, eqb-true (suc byte) 0 e))
    by_test byte false e = refl

    other : (byte : ℕ) → limits.byte_size (suc byte) ≡ 1
    other byte = by_test byte (suc byte == 0) refl

escaped_is : (bytes : List ℕ) → sum_by limits.byte_size bytes ≡ length (escaped bytes)
escaped_is [] = refl
escaped_is (byte ∷ bytes) = sum_by-cons limits.byte_size byte bytes ∙ omega (arith, byte_is byte bytes, escaped_is bytes)

step_is : (step : Step) → limits.step_size step ≡ length (step_bytes step)
step_is Item = refl
step_is (Name name) = omega (arith, escaped_is name, length-append (escaped name) (0 ∷ 1 ∷ []))

steps_are : (steps : List Step) → sum_by limits.step_size steps + 1 ≡ length (path_bytes steps)
steps_are [] = refl
steps_are (step ∷ steps) =
    omega (arith, sum_by-cons limits.step_size step steps, step_is step, steps_are steps, length-append (step_bytes step) (path_bytes steps))

columns_are : (columns : List Order) → length (columns_bytes columns) ≡ length columns + parts_size columns
columns_are [] = refl
columns_are (column ∷ columns) =
    omega (
      arith,
      sum_by-cons (λ (part : Order). limits.path_size part.path) column columns,
      steps_are column.path,
      columns_are columns,
      length-append ((if column.down then 1 else 0) ∷ path_bytes column.path) (columns_bytes columns),
    )

directed_is : (down : Bool) (value : CutValue) → length (directed_bytes down value) ≡ length (value_bytes value)
directed_is true value = length-map (value_bytes value) (λ byte. 0xFF - byte)
directed_is false value = refl

values_most : (tree : Tree) (columns : List Order) → length (values_bytes columns (map (value_at tree) columns)) ≤ 259 * length columns
values_most tree [] = omega arith
values_most tree (column ∷ columns) =
    let value : CutValue = value_at tree column in
    omega (
      arith,
      value_most (along_path (Defined tree) column.path),
      directed_is column.down value,
      values_most tree columns,
      length-append (directed_bytes column.down value) (values_bytes columns (map (value_at tree) columns)),
    )

pub composite_short : (tree : Tree) (composite : List Order) → is_composite composite ≡ true → length (composite_term_of tree composite) ≤ 4096
composite_short tree composite is =
    let size =
    and_parts (nat_le least_paths (length composite) && nat_le (length composite) most_paths && are_apart composite)
    (nat_le (parts_size composite) 1024) is in
    let apart =
    and_parts (nat_le least_paths (length composite) && nat_le (length composite) most_paths) (are_apart composite) size.0 in
    let many = and_parts (nat_le least_paths (length composite)) (nat_le (length composite) most_paths) apart.0 in
    let few : length composite ≤ 8 = leb-true (length composite) 8 many.1 in
    let small : parts_size composite ≤ 1024 = leb-true (parts_size composite) 1024 size.1 in
    omega (
      arith,
      few,
      small,
      columns_are composite,
      values_most tree composite,
      length-append (columns_bytes composite) (values_bytes composite (map (value_at tree) composite)),
    )

-- ---- the composites of a policy

abbrev Is : List Order → Type 0
Is composite = is_composite composite ≡ true

abbrev AreAll : List (List Order) → Type 0
AreAll composites = AllByRecursion Is composites

if_then : {A B : Type 0} (found : Option A) (next : A → Option B) (P : B → Type 0) → ((a : A) → IfSome (next a) P)
    → IfSome (option_and_then next found) P
if_then None next P each = tt
if_then (Some a) next P each = each a

if_let : (composites : List Order) → IfSome (if_composite composites) Is
if_let parts =
    elim (is_composite parts) as (λ b. is_composite parts ≡ b → IfSome (if b then Some parts else None) Is) [
      | true ↦ λ is. is
      | false ↦ λ no. tt
    ] refl

one_is : (given : Tree) → IfSome (composite_of given) Is
one_is given = if_then (option_and_then (read_all part_of) (list_value given)) if_composite Is if_let

all_read : (items : List Tree) → IfSome (read_all composite_of items) AreAll
all_read [] = tt
all_read (item ∷ items) = by_first (read_all composite_of items) (all_read items) (composite_of item) (one_is item)
  where
    by_rest : (first : List Order) → Is first → (rest : Option (List (List Order))) → IfSome rest AreAll
        → IfSome (option_map (λ others. first ∷ others) rest) AreAll
    by_rest first is None others = tt
    by_rest first is (Some rest) others = (is, others)

    by_first : (rest : Option (List (List Order))) → IfSome rest AreAll → (first : Option (List Order)) → IfSome first Is
        → IfSome (both first rest) AreAll
    by_first rest others None is = tt
    by_first rest others (Some first) is = by_rest first is rest others

put_among : (composites : List (List Order)) (composite : List Order) → Is composite → AreAll composites → AreAll (with_composite composites composite)
put_among [] composite is all = (is, tt)
put_among (first ∷ rest) composite is all =
    elim (slice_cmp nat_cmp (composite_text composite) (composite_text first)) as
    (λ o. AreAll (match_ordering o (composite ∷ first ∷ rest) (first ∷ rest) (first ∷ with_composite rest composite))) [
      | Less ↦ (is, all)
      | Equal ↦ all
      | Greater ↦ (all.0, put_among rest composite is all.1)
    ]

put_all : (done composites : List (List Order)) → AreAll done → AreAll composites → AreAll (fold with_composite done composites)
put_all done [] are all = are
put_all done (composite ∷ composites) are all =
    put_all (with_composite done composite) composites (put_among done composite all.0 are) all.1

of_member : (given : Option Tree) → IfSome (composites_of given) AreAll
of_member given = by_read (option_and_then (read_all composite_of) (option_and_then if_few (trees_of given)))
    (if_then (option_and_then if_few (trees_of given)) (read_all composite_of) AreAll all_read)
  where
    by_read : (found : Option (List (List Order))) → IfSome found AreAll → IfSome (option_map by_text found) AreAll
    by_read None all = tt
    by_read (Some composites) all = put_all [] composites tt all

abbrev HasAll : Policy → Type 0
HasAll policy = AreAll policy.composites

short_has : (policy : Policy) → HasAll policy → IfSome (if_short_text policy) HasAll
short_has policy all =
    elim (nat_le (length (normal_text policy)) most_policy_bytes) as (λ b. IfSome (if b then Some policy else None) HasAll) [
      | true ↦ all
      | false ↦ tt
    ]

then_has : {A : Type 0} (Q : A → Type 0) (found : Option A) (next : A → Option Policy) → IfSome found Q → ((a : A) → Q a → IfSome (next a) HasAll)
    → IfSome (option_and_then next found) HasAll
then_has Q None next is each = tt
then_has Q (Some a) next is each = each a is

with_has : (given : Tree) (mode : Mode) (automatic : Bool) → IfSome (policy_with given mode automatic) HasAll
with_has given mode automatic =
    if_then (rules_of mode (member (codes "includedPaths") given) (member (codes "excludedPaths") given)) _ HasAll
    (λ rules. then_has AreAll (composites_of (member (codes "compositeIndexes") given)) _ (of_member (member (codes "compositeIndexes") given))
    (λ composites all. short_has (record { mode = mode; automatic = automatic; rules = rules; composites = composites }) all))

in_has : (given : Tree) → IfSome (policy_in given) HasAll
in_has given =
    if_then (mode_of (member (codes "indexingMode") given)) _ HasAll
    (λ mode. if_then (truth_of (member (codes "automatic") given)) (policy_with given mode) HasAll (λ automatic. with_has given mode automatic))

policy_has : (given : Tree) (policy : Policy) → policy_of given ≡ Some policy → HasAll policy
policy_has given policy is = by_found (policy_of given) is (whole (is_map given && has_no_others given))
  where
    whole : (test : Bool) → IfSome (if test then policy_in given else None) HasAll
    whole true = in_has given
    whole false = tt

    by_found : (found : Option Policy) → found ≡ Some policy → IfSome found HasAll → HasAll policy
    by_found None e all = absurd (some_or_none policy e)
    by_found (Some other) e all = subst HasAll (same_some other policy e) all

in_all : (composites : List (List Order)) (composite : List Order) → AreAll composites → Contains composites composite → Is composite
in_all [] composite all (k, there, is) = absurd (omega (arith, there))
in_all (first ∷ composites) composite all (zero, there, is) = subst Is is all.0
in_all (first ∷ composites) composite all (suc k, there, is) = in_all composites composite all.1 (k, omega (arith, there), is)

offered_is : (policy : Policy) (composite : List Order) → HasAll policy → Contains (offered policy) composite → Is composite
offered_is policy composite all there =
    elim (indexes policy) as (λ b. Contains (if b then policy.composites else []) composite → Is composite) [
      | true ↦ λ among. in_all policy.composites composite all among
      | false ↦ λ none. absurd (omega (arith, none.1))
    ] there

-- ---- the pairs of a document

id_short : (tree : Tree) (id : List ℕ) → document_id tree ≡ Some id → length id ≤ 255
id_short tree id is = by_member (text_member (codes "id") tree) is
  where
    by_test : (other : List ℕ) (test : Bool) → is_id other ≡ test → (if test then Some other else None) ≡ Some id → length id ≤ 255
    by_test other true may e =
        let parts = and_parts _ _ may in
        let small = and_parts _ _ parts.0 in
        subst (λ (text : List ℕ). length text ≤ 255) (same_some other id e) (leb-true (length other) 255 small.1)
    by_test other false may e = absurd (some_or_none id e)

    by_member : (found : Option (List ℕ)) → option_and_then (λ id. if is_id id then Some id else None) found ≡ Some id → length id ≤ 255
    by_member None e = absurd (some_or_none id e)
    by_member (Some other) e = by_test other (is_id other) refl e

-- a pair of a document that a store can hold has a short term, under a policy that some tree is
pub owned_short : (number : ℕ) (policy : Policy) (given tree : Tree) (pair : Pair) → policy_of given ≡ Some policy → IsStorable tree
    → Owns number policy (Some tree) pair → length pair.term ≤ 4096
owned_short number policy given tree pair is storable owned = by_term owned.1
  where
    by_term : HasIndexTerm policy tree pair.term → length pair.term ≤ 4096
    by_term (inl id) =
        let short = id_short tree id.id id.own in
        omega (arith, ap length id.is, short)
    by_term (inr (inl (leaf, there, covered, term))) =
        omega (arith, ap length term, leaf_short tree storable leaf there)
    by_term (inr (inr (composite, there, term))) =
        omega (arith, ap length term, composite_short tree composite (offered_is policy composite (policy_has given policy is) there))
