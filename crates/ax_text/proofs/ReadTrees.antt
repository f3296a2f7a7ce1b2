-- The tree that a JSON text stands for is well formed, and nests no deeper than a text may.
use Rattle.std.proofs.Common.{◌≡◌, ℕ, zero, suc, ◌≤◌, ◌^◌, pos, ℤ, List, ◌∷◌, drop, Bool, true, false, ◌&&◌, ◌==◌, nat_lt, nat_le, Option, Some, None, option_map, option_and_then, IsUtf8, refl, ap, ◌∙◌, subst, arith}
use Rattle.std.proofs.lemmas.Bool.{and_parts, leb-true, lt-ltb}
use Rattle.std.proofs.lemmas.Cmp.{nat_list_cmp_total}
use Rattle.std.proofs.lemmas.Str.{IsUtf8-from_is_utf8, is_utf8-from_IsUtf8}
use Rattle.std.specs.Cmp.Lexicographic.{slice_cmp}
use Rattle.std.specs.Float.{binary64, float_is_finite}
use Rattle.std.specs.List.{list_all, slice_index}
use Rattle.std.specs.Option.{IfSome}
use Rattle.std.specs.Ordering.{nat_cmp, is_lt, ordering_reverse, match_ordering}
use Rattle.std.specs.Prelude.{⊤, if◌then◌else◌}
use Rattle.std.specs.Str.{is_utf8}
use Rattle.std.specs.declared.cmp.Ordering.{Ordering}
use Rattle.std.specs.declared.cmp.Ordering.TheVariants.{Less, Equal, Greater}
use Rattle.fast_float.specs.Text.{Parts, digits_of, scan, with_sign, nearest, minus}
use Rattle.json.specs.Json as json
use Rattle.serde_json.specs.Data as serde
use Rattle.serde_json.specs.Find.{as_i64}
use Rattle.serde_json.specs.Read.{is_integer, float_of, number_from, number_of, of_json, of_items, of_members, max_depth, read}
use Rattle.serde_json.proofs.Nesting.{depth-read}
use Rattle.ax_tree.specs.Names.{names}
use Rattle.ax_tree.specs.Nesting.{nesting}
use Rattle.ax_tree.specs.Rising.{is_before, is_rising}
use Rattle.ax_tree.specs.WellFormed.{is_of_64_bits, is_well_formed, IsWellFormed}
use Rattle.ax_tree.specs.declared.members.Member.{Member}
use Rattle.ax_tree.specs.declared.tree.Tree as tree
use Rattle.ax_text.specs.Reading.{Reading, Stands, NotJson, NotWhole, of_tree, of_data, reading}
use Rattle.ax_text.specs.TreeOf.{named, tree_of, items_of, members_of}
use Rattle.ax_text.proofs.DataDepth.{of_both, of_map, nesting_bound}
use Rattle.ax_text.proofs.Formed.{is_good_member, formed-Null, formed-Truth, formed-Number, formed-Text, formed-List, object-formed}
use Rattle.ax_text.proofs.GoodData.{data_names}
use Rattle.ax_text.proofs.ReadTexts.{HasTexts, ItemsHaveTexts, MembersHaveTexts, json_texts}

-- ---- numbers

-- where the number is whole, it is of 64 bits
abbrev Fits : serde.Num → Type 0
Fits n = IfSome (as_i64 n) (λ z. is_of_64_bits z ≡ true)

unsigned_fits : (n : ℕ) (b : Bool) → nat_lt n (2 ^ 63) ≡ b
    → IfSome (if b then Some (pos n) else None) (λ z. is_of_64_bits z ≡ true)
unsigned_fits n true e = e
unsigned_fits n false e = tt

negative_fits : (n : ℕ) → n ≤ 2 ^ 63 → is_of_64_bits (with_sign true n) ≡ true
negative_fits zero h = refl
negative_fits (suc n) h = lt-ltb n (2 ^ 63) (omega arith)

either : {A : Type 0} (P : A → Type 0) (b : Bool) (x y : Option A) → IfSome x P → IfSome y P
    → IfSome (if b then x else y) P
either P true x y p q = p
either P false x y p q = q

float_fits : (sign : Bool) (p : Parts) → IfSome (float_of sign p) Fits
float_fits sign p =
    let x =
    nearest binary64 sign p in either Fits (float_is_finite x) (Some (serde.float x)) None tt tt

parts_fit : (sign : Bool) (p : Parts) → IfSome (number_from sign p) Fits
parts_fit false p =
    either Fits (is_integer p && nat_lt (digits_of p) (2 ^ 64))
    (Some (serde.unsigned (digits_of p))) (float_of false p)
    (unsigned_fits (digits_of p) (nat_lt (digits_of p) (2 ^ 63)) refl) (float_fits false p)
parts_fit true p =
    by_test (is_integer p && nat_lt 0 (digits_of p) && nat_le (digits_of p) (2 ^ 63)) refl
  where
    by_test : (b : Bool)
        → (is_integer p && nat_lt 0 (digits_of p) && nat_le (digits_of p) (2 ^ 63)) ≡ b
        → IfSome
        (if b then Some (serde.negative (with_sign true (digits_of p))) else float_of true p) Fits
    by_test true e =
        negative_fits (digits_of p) (leb-true (digits_of p) (2 ^ 63) (and_parts _ _ e).1)
    by_test false e = float_fits true p

number_fits : (s : List ℕ) → IfSome (number_of s) Fits
unfolding number_of
number_fits s =
    either Fits (slice_index s 0 == minus) (number_from true (scan (drop 1 s)))
    (number_from false (scan s))
    (parts_fit true (scan (drop 1 s))) (parts_fit false (scan s))

-- ---- names that rise

rising_after : (l k : List ℕ) (d : serde.Data) (ms : serde.Members) → is_before l k ≡ true
    → is_rising (l ∷ data_names ms) ≡ true → is_rising (l ∷ data_names (serde.put k d ms)) ≡ true
rising_after l k d serde.no_members before rising = ap (λ b. b && true) before
rising_after l k d (serde.member m e ms) before rising =
    by_order (slice_cmp nat_cmp k m) refl (rising_after m k d ms)
  where
    parts : (is_before l m ≡ true) × (is_rising (m ∷ data_names ms) ≡ true)
    parts = and_parts (is_before l m) (is_rising (m ∷ data_names ms)) rising

    by_order : (o : Ordering) → slice_cmp nat_cmp k m ≡ o
        → (is_before m k ≡ true → is_rising (m ∷ data_names ms) ≡ true
        → is_rising (m ∷ data_names (serde.put k d ms)) ≡ true)
        → is_rising
        (l ∷ data_names
        (match_ordering o (serde.member k d (serde.member m e ms)) (serde.member m d ms)
        (serde.member m e (serde.put k d ms)))) ≡ true
    by_order Less is more = λ i. before i && (is_lt (is i) && parts.1 i)
    by_order Equal is more = rising
    by_order Greater is more =
        let later : is_before m k ≡ true =
        ap is_lt (nat_list_cmp_total.antisymm m k ∙ ap ordering_reverse is) in
        λ i. parts.0 i && more later parts.1 i

pub rising_put : (k : List ℕ) (d : serde.Data) (ms : serde.Members) → is_rising (data_names ms) ≡ true
    → is_rising (data_names (serde.put k d ms)) ≡ true
rising_put k d serde.no_members rising = refl
rising_put k d (serde.member m e ms) rising = by_order (slice_cmp nat_cmp k m) refl
  where
    by_order : (o : Ordering) → slice_cmp nat_cmp k m ≡ o
        → is_rising
        (data_names
        (match_ordering o (serde.member k d (serde.member m e ms)) (serde.member m d ms)
        (serde.member m e (serde.put k d ms)))) ≡ true
    by_order Less is = λ i. is_lt (is i) && rising i
    by_order Equal is = rising
    by_order Greater is =
        rising_after m k d ms (ap is_lt (nat_list_cmp_total.antisymm m k ∙ ap ordering_reverse is))
        rising

-- ---- data that was read

abbrev mutual
  IsRead : serde.Data → Type 0
  IsRead serde.null = ⊤
  IsRead (serde.boolean b) = ⊤
  IsRead (serde.number n) = Fits n
  IsRead (serde.string s) = IsUtf8 s
  IsRead (serde.array ds) = AreRead ds
  IsRead (serde.object ms) = (is_rising (data_names ms) ≡ true) × HasReadMembers ms

  AreRead : serde.Items → Type 0
  AreRead serde.no_items = ⊤
  AreRead (serde.item d ds) = IsRead d × AreRead ds

  HasReadMembers : serde.Members → Type 0
  HasReadMembers serde.no_members = ⊤
  HasReadMembers (serde.member k d ms) = IsUtf8 k × IsRead d × HasReadMembers ms

read_put : (k : List ℕ) (d : serde.Data) (ms : serde.Members) → IsUtf8 k → IsRead d
    → HasReadMembers ms
    → HasReadMembers (serde.put k d ms)
read_put k d serde.no_members utf8 is h = (utf8, is, tt)
read_put k d (serde.member m e ms) utf8 is h =
    by_order (slice_cmp nat_cmp k m) (read_put k d ms utf8 is h.2)
  where
    by_order : (o : Ordering) → HasReadMembers (serde.put k d ms)
        → HasReadMembers
        (match_ordering o (serde.member k d (serde.member m e ms)) (serde.member m d ms)
        (serde.member m e (serde.put k d ms)))
    by_order Less more = (utf8, is, h)
    by_order Equal more = (h.0, is, h.2)
    by_order Greater more = (h.0, h.1, more)

of_some : {A B : Type 0} (P : A → Type 0) (Q : B → Type 0) (f : A → Option B) (o : Option A)
    → ((a : A) → P a → IfSome (f a) Q) → IfSome o P → IfSome (option_and_then f o) Q
of_some P Q f None h p = tt
of_some P Q f (Some a) h p = h a p

abbrev RisingRead : serde.Members → Type 0
RisingRead ms = (is_rising (data_names ms) ≡ true) × HasReadMembers ms

mutual
  read_json : (j : json.Json) → HasTexts j → IfSome (of_json j) IsRead
  read_json json.null h = tt
  read_json (json.boolean b) h = tt
  read_json (json.number s) h =
      of_map (number_of s) serde.number Fits IsRead (λ n fits. fits) (number_fits s)
  read_json (json.string s) h = h
  read_json (json.array js) h =
      of_map (of_items js) serde.array AreRead IsRead (λ ds is. is) (read_items js h)
  read_json (json.object ms) h =
      of_map (of_members ms serde.no_members) serde.object RisingRead IsRead (λ found is. is)
      (read_members ms serde.no_members h (refl, tt))

  read_items : (js : json.Items) → ItemsHaveTexts js → IfSome (of_items js) AreRead
  read_items json.no_items h = tt
  read_items (json.item j js) h =
      of_some IsRead AreRead (λ d. option_map (serde.item d) (of_items js)) (of_json j)
      (λ d is. of_map (of_items js) (serde.item d) AreRead AreRead (λ ds are. (is, are))
      (read_items js h.1)) (read_json j h.0)

  read_members : (ms : json.Members) (found : serde.Members) → MembersHaveTexts ms
      → RisingRead found
      → IfSome (of_members ms found) RisingRead
  read_members json.no_members found h is = is
  read_members (json.member k j ms) found h is =
      of_some IsRead RisingRead (λ d. of_members ms (serde.put k d found)) (of_json j)
      (λ d good. read_members ms (serde.put k d found) h.2
      (rising_put k d found is.0, read_put k d found h.0 good is.1)) (read_json j h.1)

-- ---- the trees of such data

-- the members are those of the data, and each is good
record AreGoodMembers (ms : serde.Members) (l : List (Member tree.Tree)) : Type 0 where
  good : list_all is_good_member l ≡ true
  same : names l ≡ data_names ms

-- a member of that name, which is good
record IsGoodMember (name : List ℕ) (m : Member tree.Tree) : Type 0 where
  good : is_good_member m ≡ true
  same : m.name ≡ name

number_formed : (o : Option ℤ) → IfSome o (λ z. is_of_64_bits z ≡ true)
    → IfSome (option_map tree.Number o) IsWellFormed
number_formed None h = tt
number_formed (Some z) h = formed-Number z ∙ h

mutual
  tree_formed : (d : serde.Data) → IsRead d → IfSome (tree_of d) IsWellFormed
  tree_formed serde.null h = formed-Null
  tree_formed (serde.boolean b) h = formed-Truth b
  tree_formed (serde.number n) h = number_formed (as_i64 n) h
  tree_formed (serde.string s) h = formed-Text s ∙ is_utf8-from_IsUtf8 s h
  tree_formed (serde.array ds) h =
      of_map (items_of ds) tree.List (λ ts. list_all is_well_formed ts ≡ true) IsWellFormed
      (λ ts good. formed-List ts ∙ good) (items_formed ds h)
  tree_formed (serde.object ms) h =
      of_map (members_of ms) tree.Object (AreGoodMembers ms) IsWellFormed
      (λ l are. object-formed l (ap is_rising are.same ∙ h.0) are.good) (members_formed ms h.1)

  items_formed : (ds : serde.Items) → AreRead ds
      → IfSome (items_of ds) (λ ts. list_all is_well_formed ts ≡ true)
  items_formed serde.no_items h = refl
  items_formed (serde.item d ds) h =
      of_both (tree_of d) (items_of ds) IsWellFormed (λ ts. list_all is_well_formed ts ≡ true)
      (λ ts. list_all is_well_formed ts ≡ true) (λ t ts p q. λ i. p i && q i) (tree_formed d h.0)
      (items_formed ds h.1)

  members_formed : (ms : serde.Members) → HasReadMembers ms
      → IfSome (members_of ms) (AreGoodMembers ms)
  members_formed serde.no_members h = record { good = refl; same = refl }
  members_formed (serde.member k d ms) h =
      of_both (named k (tree_of d)) (members_of ms) (IsGoodMember k) (AreGoodMembers ms)
      (AreGoodMembers (serde.member k d ms))
      (λ m l p q. record { good = λ i. p.good i && q.good i; same = λ i. p.same i ∷ q.same i })
      (of_map (tree_of d) (λ t. record { name = k; value = t }) IsWellFormed (IsGoodMember k)
      (λ t formed. record { good = λ i. is_utf8-from_IsUtf8 k h.0 i && formed i; same = refl })
      (tree_formed d h.1))
      (members_formed ms h.2)

-- ---- readings

-- the tree that a text stands for
pub record IsStanding (t : tree.Tree) : Type 0 where
  pub formed : IsWellFormed t
  pub shallow : nesting t ≤ 127

abbrev IfStands : Reading → Type 0
IfStands (Stands t) = IsStanding t
IfStands NotJson = ⊤
IfStands NotWhole = ⊤

of_tree_stands : (o : Option tree.Tree) → IfSome o IsStanding → IfStands (of_tree o)
of_tree_stands None h = tt
of_tree_stands (Some t) h = h

both_facts : (o : Option tree.Tree) → IfSome o IsWellFormed
    → ((t : tree.Tree) → o ≡ Some t → nesting t ≤ 127)
    → IfSome o IsStanding
both_facts None formed shallow = tt
both_facts (Some t) formed shallow = record { formed = formed; shallow = shallow t refl }

of_data_stands : (o : Option serde.Data) → IfSome o IsRead
    → ((d : serde.Data) → o ≡ Some d → serde.depth d ≤ max_depth)
    → IfStands (of_data o)
of_data_stands None h shallow = tt
of_data_stands (Some d) h shallow =
    of_tree_stands (tree_of d)
    (both_facts (tree_of d) (tree_formed d h) (λ t e. nesting_bound d t 127 e (shallow d refl)))

data_read : (bytes : List ℕ) → IsUtf8 bytes → IfSome (read bytes) IsRead
data_read bytes utf8 = of_some HasTexts IsRead of_json _ read_json (json_texts max_depth bytes utf8)

reading_stands : (bytes : List ℕ) (b : Bool) → is_utf8 bytes ≡ b
    → IfStands (if b then of_data (read bytes) else NotJson)
reading_stands bytes true e =
    of_data_stands (read bytes) (data_read bytes (IsUtf8-from_is_utf8 bytes e))
    (λ d. depth-read bytes d)
reading_stands bytes false e = tt

pub stands : (bytes : List ℕ) (t : tree.Tree) → reading bytes ≡ Stands t → IsStanding t
stands bytes t e = subst IfStands e (reading_stands bytes (is_utf8 bytes) refl)
