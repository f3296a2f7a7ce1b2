-- The grammar's loops, a turn at a time, where trees are made.
use Rattle.std.proofs.Common.{◌≡◌, ℕ, ◌-◌, ◌<◌, ◌≤◌, ℤ, List, [], ◌∷◌, ◌++◌, length, Option, Some, None, option_map, option_and_then, refl, sym, ap, ◌∙◌, append-nil, append_assoc}
use Rattle.std.specs.Option.{IfSome}
use Rattle.json.specs.Token.{Token}
use Rattle.json.specs.Json as json
use Rattle.json.specs.Json.{Parse, parse_map, after_end_array, read_key, items, members}
use Rattle.json.proofs.Grammar.{items_end, items_more, members_end, members_more}
use Rattle.serde_json.specs.Data as serde
use Rattle.serde_json.specs.Find.{as_i64}
use Rattle.serde_json.specs.Read.{of_json, of_items, of_members, converted}
use Rattle.ax_tree.specs.declared.members.Member.{Member}
use Rattle.ax_tree.specs.declared.tree.Tree as tree
use Rattle.ax_text.specs.OfJson.{tree_of_json, items_of_json, members_of_json}
use Rattle.ax_text.specs.TreeOf.{both, tree_of, items_of, members_of}

abbrev pick : {A : Type 0} → A → Option A → A
pick d None = d
pick d (Some a) = a

found : {A B : Type 0} (a : A) (r s : List Token) (x : Option B) (b : B)
    → option_map {U = B × List Token} (λ y. (y, r)) x ≡ Some (b, s) → (r ≡ s) × (x ≡ Some b)
found a r s None b e = absurd (cc)
found a r s (Some y) b e =
    let same = ap (pick (y, r)) e in (ap (λ p. p.1) same, ap (λ p. Some p.0) same)

-- what was read, and what it was converted to
pub converted_some : {A B : Type 0} (f : A → Option B) (o : Option (A × List Token)) (b : B)
    (r : List Token) → converted f o ≡ Some (b, r)
    → (a : A) × (o ≡ Some (a, r)) × (f a ≡ Some b)
converted_some f None b r e = absurd (cc)
converted_some f (Some p) b r e =
    let parts = found p.0 p.1 r (f p.0) b e in (p.0, ap (λ s. Some (p.0, s)) parts.0, parts.1)

-- what stands between two steps of which the second gave something
pub through : {A B : Type 0} (f : A → Option B) (o : Option A) (b : B)
    → option_and_then f o ≡ Some b → (a : A) × (o ≡ Some a) × (f a ≡ Some b)
through f None b e = absurd (cc)
through f (Some a) b e = (a, refl, e)

pub IfSome-weaker : {A : Type 0} (o : Option A) (P Q : A → Type 0) → ((a : A) → P a → Q a)
    → IfSome o P → IfSome o Q
IfSome-weaker None P Q f h = tt
IfSome-weaker (Some a) P Q f h = f a h

twice : {A B : Type 0} (g : A → B) (r : List Token) (x : Option A)
    → option_map (λ b. (b, r)) (option_map g x) ≡ parse_map g (option_map (λ a. (a, r)) x)
twice g r None = refl
twice g r (Some a) = refl

list_of : (r : List Token) (x : Option serde.Items)
    → option_map (λ b. (b, r)) (option_and_then tree_of (option_map serde.array x))
    ≡ parse_map tree.List (option_map (λ b. (b, r)) (option_and_then items_of x))
list_of r None = refl
list_of r (Some ds) = twice tree.List r (items_of ds)

pub converted-list : (o : Option (json.Items × List Token))
    → converted tree_of_json (parse_map json.array o)
    ≡ parse_map tree.List (converted items_of_json o)
converted-list None = refl
converted-list (Some p) = list_of p.1 (of_items p.0)

map_of : (r : List Token) (x : Option serde.Members)
    → option_map (λ b. (b, r)) (option_and_then tree_of (option_map serde.object x))
    ≡ parse_map tree.Object (option_map (λ b. (b, r)) (option_and_then members_of x))
map_of r None = refl
map_of r (Some ms) = twice tree.Object r (members_of ms)

pub converted-map : (o : Option (json.Members × List Token))
    → converted tree_of_json (parse_map json.object o)
    ≡ parse_map tree.Object (converted members_of_json o)
converted-map None = refl
converted-map (Some p) = map_of p.1 (of_members p.0 serde.no_members)

-- a number that is whole is a tree
pub number_tree : (o : Option serde.Num) (n : ℤ) → option_and_then as_i64 o ≡ Some n
    → option_and_then tree_of (option_map serde.number o) ≡ Some (tree.Number n)
number_tree None n e = absurd (cc)
number_tree (Some x) n e = ap (option_map tree.Number) e

-- ---- items

item_of : (d : serde.Data) (t : tree.Tree) (r : List Token) → tree_of d ≡ Some t
    → (x : Option serde.Items)
    → option_map (λ b. (b, r)) (option_and_then items_of (option_map (serde.item d) x))
    ≡ parse_map (λ l. t ∷ l) (option_map (λ b. (b, r)) (option_and_then items_of x))
item_of d t r e None = refl
item_of d t r e (Some ds) =
    ap (λ o. option_map (λ b. (b, r)) (both o (items_of ds))) e ∙ twice (λ l. t ∷ l) r (items_of ds)

with_item : (j : json.Json) (t : tree.Tree) → tree_of_json j ≡ Some t
    → (o : Option (json.Items × List Token))
    → converted items_of_json (parse_map (json.item j) o)
    ≡ parse_map (λ l. t ∷ l) (converted items_of_json o)
with_item j t e None = refl
with_item j t e (Some p) =
    let read = through tree_of (of_json j) t e in
    ap (λ o. option_map (λ b. (b, p.1)) (option_and_then items_of
    (option_and_then (λ d. option_map (serde.item d) (of_items p.0)) o))) read.1
    ∙ item_of read.0 t p.1 read.2 (of_items p.0)

-- ---- members

-- the members, behind those found before
abbrev pub members_from : serde.Members → json.Members → Option (List (Member tree.Tree))
members_from old ms = option_and_then members_of (of_members ms old)

with_member : (k : List ℕ) (j : json.Json) (d : serde.Data) (old : serde.Members)
    → of_json j ≡ Some d → (o : Option (json.Members × List Token))
    → converted (members_from old) (parse_map (json.member k j) o)
    ≡ converted (members_from (serde.put k d old)) o
with_member k j d old e None = refl
with_member k j d old e (Some p) =
    ap (λ o. option_map (λ b. (b, p.1)) (option_and_then members_of
    (option_and_then (λ d. of_members p.0 (serde.put k d old)) o))) e

-- ---- turns

module _ (p : Parse json.Json) where
  pub item_read : (n : ℕ) (ts r : List Token) (t : tree.Tree) → 0 < n → after_end_array ts ≡ None
      → converted tree_of_json (p ts) ≡ Some (t, r)
      → converted items_of_json (items p n ts)
      ≡ parse_map (λ l. t ∷ l) (converted items_of_json (items p (n - 1) r))
  item_read n ts r t some going e =
      let j = converted_some tree_of_json (p ts) t r e in
      ap (converted items_of_json) (items_more p n ts r j.0 some going j.1)
      ∙ with_item j.0 t j.2 (items p (n - 1) r)

  pub items_over : (n : ℕ) (ts r : List Token) → length ts ≤ n → after_end_array ts ≡ Some r
      → converted items_of_json (items p n ts) ≡ Some ([], r)
  items_over n ts r enough e = ap (converted items_of_json) (items_end p n ts r enough e)

  pub member_read : (old : serde.Members) (n : ℕ) (k : List ℕ) (ts s r : List Token)
      (t : tree.Tree) → 0 < n
      → read_key ts ≡ Some (Some k, s) → converted tree_of_json (p s) ≡ Some (t, r)
      → (d : serde.Data) × (tree_of d ≡ Some t)
      × (converted (members_from old) (members p n ts)
      ≡ converted (members_from (serde.put k d old)) (members p (n - 1) r))
  member_read old n k ts s r t some key e =
      let j = converted_some tree_of_json (p s) t r e in
      let d = through tree_of (of_json j.0) t j.2 in (
        d.0,
        d.2,
        ap (converted (members_from old)) (members_more p n k ts s r j.0 some key j.1)
            ∙ with_member k j.0 d.0 old d.1 (members p (n - 1) r),
      )

  pub members_over : (old : serde.Members) (l : List (Member tree.Tree)) (n : ℕ)
      (ts r : List Token) → members_of old ≡ Some l
      → length ts ≤ n → read_key ts ≡ Some (None, r)
      → converted (members_from old) (members p n ts) ≡ Some (l, r)
  members_over old l n ts r made enough e =
      ap (converted (members_from old)) (members_end p n ts r enough e)
      ∙ ap (option_map (λ b. (b, r))) made

-- ---- a list that grows at its end

pub one_more_item : (ts : List tree.Tree) (t : tree.Tree)
    (o : Option (List tree.Tree × List Token))
    → parse_map (λ l. ts ++ l) (parse_map (λ l. t ∷ l) o) ≡ parse_map (λ l. (ts ++ t ∷ []) ++ l) o
one_more_item ts t None = refl
one_more_item ts t (Some p) = ap (λ l. Some (l, p.1)) (sym (append_assoc ts (t ∷ []) p.0))

pub none_before : (o : Option (List tree.Tree × List Token)) → o ≡ parse_map (λ l. [] ++ l) o
none_before None = refl
none_before (Some p) = refl

pub none_behind : (ts : List tree.Tree) (r : List Token)
    → parse_map (λ l. ts ++ l) (Some ([], r)) ≡ Some (ts, r)
none_behind ts r = ap (λ l. Some (l, r)) (append-nil ts)

-- ---- the whole text

abbrev whole : Option (json.Json × List Token) → Option tree.Tree
whole o = option_and_then tree_of (option_and_then of_json (option_and_then (λ p. json.if_last p.0 p.1) o))

pub whole_read : (o : Option (json.Json × List Token)) (t : tree.Tree)
    → converted tree_of_json o ≡ Some (t, []) → whole o ≡ Some t
whole_read o t e = let j = converted_some tree_of_json o t [] e in ap whole j.1 ∙ j.2
