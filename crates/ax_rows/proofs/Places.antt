-- The places of a document's rows rise strictly, and so do number and place along the rows of
-- documents whose numbers rise: no two rows have one key.
use Rattle.std.proofs.Common.{◌≡◌, ℕ, ◌+◌, ◌<◌, ◌≤◌, List, [], ◌∷◌, ◌++◌, map, Bool, true, false, Option, Some, None, cond, refl, sym, ap, ◌∙◌, subst, arith, append_assoc}
use Rattle.std.specs.declared.cmp.Ordering.{Ordering}
use Rattle.std.specs.declared.cmp.Ordering.TheVariants.{Less, Equal, Greater}
use Rattle.std.specs.Ordering.{nat_cmp, is_lt, ordering_reverse, ordering_then}
use Rattle.std.specs.Bool.{◌==◌}
use Rattle.std.specs.Cmp.{IsTotalOrder}
use mathlib.Core.Bool.{true≢false}
use Rattle.std.specs.Cmp.Lexicographic.{slice_cmp}
use Rattle.std.specs.List.{flat_map, filter_map, cons_option, AllByRecursion}
use Rattle.std.specs.List.Sorted.{IsStrictlySortedBy}
use Rattle.std.proofs.lemmas.Bool.{lt-ltb}
use Rattle.std.proofs.lemmas.Cmp.{nat_cmp_total, ranked, tied_itself}
use Rattle.std.proofs.lemmas.List.{append-nil}
use Rattle.ax_tree.specs.declared.tree.Tree.{Tree}
use Rattle.ax_mean.specs.declared.query.FromItem.{FromItem}
use Rattle.ax_mean.specs.declared.query.KeyedRow.{KeyedRow}
use Rattle.ax_mean.specs.declared.query.Order.{Order}
use Rattle.ax_mean.specs.declared.query.Query.{Query}
use Rattle.ax_mean.specs.declared.value.Value.{Value}
use Rattle.ax_mean.specs.declared.value.Value.TheVariants.{Undefined, Defined}
use Rattle.ax_mean.specs.Answer.{all_rows, inserted, sorted}
use Rattle.ax_mean.specs.Meaning.{bound}
use Rattle.ax_mean.specs.RowOrder.{key_cmp, values_cmp}
use Rattle.ax_mean.specs.Rows.{Bound, Choice, choices, elements, elements_from, whole, keyed, keyed_where, keyed_rows, order_values, nothing_bound, passes, rows_from, rows_of_tree, shown, with_choice}
use Rattle.ax_mean.specs.Steps.{steps_from}
use Rattle.ax_mean.specs.Values.{list_of}
use Rattle.ax_rows.proofs.RowSort.{key_total}

-- ---- lists whose elements rise

abbrev Each : {X : Type 0} → (X → Type 0) → List X → Type 0
Each = AllByRecursion

abbrev Ascends : {X : Type 0} → (X → X → Type 0) → List X → Type 0
Ascends R [] = Unit {0}
Ascends R (x ∷ xs) = Each (R x) xs × Ascends R xs

each_map : {X : Type 0} (P Q : X → Type 0) → ((x : X) → P x → Q x) → (xs : List X) → Each P xs → Each Q xs
each_map P Q f [] e = tt
each_map P Q f (x ∷ xs) e = (f x e.0, each_map P Q f xs e.1)

each_append : {X : Type 0} (P : X → Type 0) (xs ys : List X) → Each P xs → Each P ys → Each P (xs ++ ys)
each_append P [] ys e f = f
each_append P (x ∷ xs) ys e f = (e.0, each_append P xs ys e.1 f)

-- where each of the first is before each of the others
ascends_append : {X : Type 0} (R : X → X → Type 0) (P Q : X → Type 0)
    → ((x y : X) → P x → Q y → R x y) → (xs ys : List X)
    → Each P xs → Each Q ys → Ascends R xs → Ascends R ys → Ascends R (xs ++ ys)
ascends_append R P Q f [] ys e d a b = b
ascends_append R P Q f (x ∷ xs) ys e d a b = (
  each_append (R x) xs ys a.0 (each_map Q (R x) (λ y q. f x y e.0 q) ys d),
  ascends_append R P Q f xs ys e.1 d a.1 b,
)

-- ---- places

abbrev Before : Bound → Bound → Type 0
Before a b = slice_cmp nat_cmp a.place b.place ≡ Less

-- the place goes on from p
abbrev IsUnder : List ℕ → Bound → Type 0
IsUnder p row = (s : List ℕ) × (row.place ≡ p ++ s)

-- it goes on from p with a position that is not below n
abbrev IsFrom : List ℕ → ℕ → Bound → Type 0
IsFrom p n row = (k : ℕ) × (n ≤ k) × IsUnder (p ++ k ∷ []) row

same_nat : (n : ℕ) → nat_cmp n n ≡ Equal
same_nat n = tied_itself nat_cmp_total n

less_nat : (m n : ℕ) → m < n → nat_cmp m n ≡ Less
less_nat m n h = ap (λ b. cond b Less (cond (m == n) Equal Greater)) (lt-ltb m n h)

behind : (p s t : List ℕ) → slice_cmp nat_cmp (p ++ s) (p ++ t) ≡ slice_cmp nat_cmp s t
behind [] s t = refl
behind (n ∷ p) s t =
    ap (λ o. ordering_then o (slice_cmp nat_cmp (p ++ s) (p ++ t))) (same_nat n) ∙ behind p s t

parts : (p s t : List ℕ) (m n : ℕ) → m < n
    → slice_cmp nat_cmp ((p ++ m ∷ []) ++ s) ((p ++ n ∷ []) ++ t) ≡ Less
parts p s t m n h =
    let left : (p ++ m ∷ []) ++ s ≡ p ++ (m ∷ s) = append_assoc p (m ∷ []) s in
    let right : (p ++ n ∷ []) ++ t ≡ p ++ (n ∷ t) = append_assoc p (n ∷ []) t in
    (λ i. slice_cmp nat_cmp (left i) (right i))
    ∙ behind p (m ∷ s) (n ∷ t)
    ∙ ap (λ o. ordering_then o (slice_cmp nat_cmp s t)) (less_nat m n h)

apart : (p : List ℕ) (n : ℕ) (a b : Bound) → IsUnder (p ++ n ∷ []) a → IsFrom p (n + 1) b → Before a b
apart p n a b u f =
    let h : n < f.0 = omega (arith, f.1) in
    (λ i. slice_cmp nat_cmp (u.1 i) (f.2.1 i)) ∙ parts p u.0 f.2.0 n f.0 h

under : (p q s : List ℕ) (row : Bound) → q ≡ p ++ s → IsUnder q row → IsUnder p row
under p q s row e u = (s ++ u.0, u.1 ∙ ap (λ r. r ++ u.0) e ∙ append_assoc p s u.0)

-- ---- rows of a document

-- the rows go on from the place and rise
abbrev Rise : List ℕ → List Bound → Type 0
Rise p rows = Each (IsUnder p) rows × Ascends Before rows

module _ (f : Choice → List Bound) (p : List ℕ) (h : (c : Choice) → Rise (p ++ c.positions) (f c)) where
  whole_rise : (value : Value) → Rise p (flat_map f (whole value))
  whole_rise Undefined = (tt, tt)
  whole_rise (Defined tree) =
      let c : Choice = record { positions = []; tree = tree } in
      let one : Rise p (f c) = subst (λ (q : List ℕ). Rise q (f c)) (append-nil p) (h c) in
      subst (Rise p) (sym (append-nil (f c))) one

  elements_rise : (at : ℕ) (trees : List Tree)
      → Each (IsFrom p at) (flat_map f (elements_from at trees))
      × Ascends Before (flat_map f (elements_from at trees))
  elements_rise at [] = (tt, tt)
  elements_rise at (tree ∷ trees) =
      let c : Choice = record { positions = at ∷ []; tree = tree } in
      let rest = elements_rise (at + 1) trees in (
        each_append (IsFrom p at) (f c) (flat_map f (elements_from (at + 1) trees))
            (each_map (IsUnder (p ++ at ∷ [])) (IsFrom p at) (λ row u. (at, omega arith, u)) (f c) (h c).0)
            (each_map (IsFrom p (at + 1)) (IsFrom p at) (λ row u. (u.0, omega (arith, u.1), u.2)) _ rest.0),
        ascends_append Before (IsUnder (p ++ at ∷ [])) (IsFrom p (at + 1)) (apart p at)
            (f c) (flat_map f (elements_from (at + 1) trees)) (h c).0 rest.0 (h c).1 rest.1,
      )

  listed_rise : (trees : Option (List Tree)) → Rise p (flat_map f (elements trees))
  listed_rise None = (tt, tt)
  listed_rise (Some trees) =
      let e = elements_rise 0 trees in
      (each_map (IsFrom p 0) (IsUnder p) (λ row u. under p (p ++ u.0 ∷ []) (u.0 ∷ []) row refl u.2) _ e.0, e.1)

  choices_rise : (each : Bool) (value : Value) → Rise p (flat_map f (choices each value))
  choices_rise true value = listed_rise (list_of value)
  choices_rise false value = whole_rise value

rows_rise : (items : List FromItem) (row : Bound) → Rise row.place (rows_from items row)
rows_rise [] row = ((([], sym (append-nil row.place)), tt), (tt, tt))
rows_rise (item ∷ items) row =
    choices_rise (λ c. rows_from items (with_choice item.alias row c)) row.place
    (λ c. rows_rise items (with_choice item.alias row c))
    item.each (steps_from (bound row.env item.base) item.steps)

tree_rows_rise : (items : List FromItem) (tree : Tree) → Ascends Before (rows_of_tree items tree)
tree_rows_rise [] tree = tt
tree_rows_rise (item ∷ items) tree =
    (choices_rise (λ c. rows_from items (with_choice item.alias nothing_bound c)) []
    (λ c. rows_rise items (with_choice item.alias nothing_bound c))
    item.each (steps_from (Defined tree) item.steps)).1

-- ---- keys

abbrev KeyBefore : KeyedRow → KeyedRow → Type 0
KeyBefore a b = key_cmp [] a b ≡ Less

-- the row has the place of a, and the number
abbrev IsOf : ℕ → Bound → KeyedRow → Type 0
IsOf number a row = (row.number ≡ number) × (row.place ≡ a.place)

abbrev IfKept : Option KeyedRow → (KeyedRow → Type 0) → Type 0
IfKept None P = Unit {0}
IfKept (Some row) P = P row

keyed_is : (values : List Value) (number : ℕ) (a : Bound) (value : Value)
    → IfKept (keyed values number a.place value) (IsOf number a)
keyed_is values number a Undefined = tt
keyed_is values number a (Defined tree) = (refl, refl)

kept_by : (b : Bool) (number : ℕ) (a : Bound) (o : Option KeyedRow) → IfKept o (IsOf number a)
    → IfKept (cond b o None) (IsOf number a)
kept_by true number a o h = h
kept_by false number a o h = tt

kept_is : (query : Query) (number : ℕ) (values : List Value) (a : Bound)
    → IfKept (keyed_where query number values a) (IsOf number a)
kept_is query number values a =
    kept_by (passes query.condition a.env) number a _
    (keyed_is values number a (shown query.pick a.env))

of_order : (number : ℕ) (a b : Bound) (x y : KeyedRow) → IsOf number a x → IsOf number b y → Before a b → KeyBefore x y
of_order number a b x y h k before =
    (λ i. ordering_then (nat_cmp (h.0 i) (k.0 i)) (slice_cmp nat_cmp (h.1 i) (k.1 i)))
    ∙ ap (λ o. ordering_then o (slice_cmp nat_cmp a.place b.place)) (same_nat number) ∙ before

if_map : (o : Option KeyedRow) (P Q : KeyedRow → Type 0) → ((x : KeyedRow) → P x → Q x) → IfKept o P → IfKept o Q
if_map None P Q f h = tt
if_map (Some x) P Q f h = f x h

cons_each : (P : KeyedRow → Type 0) (o : Option KeyedRow) (xs : List KeyedRow) → IfKept o P → Each P xs
    → Each P (cons_option o xs)
cons_each P None xs h e = e
cons_each P (Some x) xs h e = (h, e)

cons_ascends : (P : KeyedRow → Type 0) (o : Option KeyedRow) (xs : List KeyedRow) → IfKept o P
    → ((x : KeyedRow) → P x → Each (KeyBefore x) xs) → Ascends KeyBefore xs → Ascends KeyBefore (cons_option o xs)
cons_ascends P None xs h f a = a
cons_ascends P (Some x) xs h f a = (f x h, a)

module _ (keeps : Bound → Option KeyedRow) (number : ℕ) (h : (a : Bound) → IfKept (keeps a) (IsOf number a)) where
  kept_after : (a : Bound) (x : KeyedRow) → IsOf number a x → (rows : List Bound) → Each (Before a) rows
      → Each (KeyBefore x) (filter_map keeps rows)
  kept_after a x is [] e = tt
  kept_after a x is (b ∷ rows) e =
      cons_each (KeyBefore x) (keeps b) (filter_map keeps rows)
      (if_map (keeps b) (IsOf number b) (KeyBefore x) (λ y k. of_order number a b x y is k e.0) (h b))
      (kept_after a x is rows e.1)

  kept_rise : (rows : List Bound) → Ascends Before rows → Ascends KeyBefore (filter_map keeps rows)
  kept_rise [] a = tt
  kept_rise (b ∷ rows) a =
      cons_ascends (IsOf number b) (keeps b) (filter_map keeps rows) (h b)
      (λ x is. kept_after b x is rows a.0) (kept_rise rows a.1)

  kept_numbers : (rows : List Bound) → Each (λ x. x.number ≡ number) (filter_map keeps rows)
  kept_numbers [] = tt
  kept_numbers (b ∷ rows) =
      cons_each (λ x. x.number ≡ number) (keeps b) (filter_map keeps rows)
      (if_map (keeps b) (IsOf number b) (λ x. x.number ≡ number) (λ y k. k.0) (h b))
      (kept_numbers rows)

module _ (query : Query) where
  document_rise : (number : ℕ) (tree : Tree) → Ascends KeyBefore (keyed_rows query number tree)
  document_rise number tree =
      kept_rise (keyed_where query number (order_values query tree)) number
      (kept_is query number (order_values query tree)) (rows_of_tree query.froms tree)
      (tree_rows_rise query.froms tree)

  document_numbers : (number : ℕ) (tree : Tree) → Each (λ x. x.number ≡ number) (keyed_rows query number tree)
  document_numbers number tree =
      kept_numbers (keyed_where query number (order_values query tree)) number
      (kept_is query number (order_values query tree)) (rows_of_tree query.froms tree)

  abbrev NumberBefore : ℕ × Tree → ℕ × Tree → Type 0
  NumberBefore d e = d.0 < e.0

  later_numbers : (n : ℕ) (entries : List (ℕ × Tree)) → Each (λ (e : ℕ × Tree). n < e.0) entries
      → Each (λ (x : KeyedRow). n < x.number) (all_rows query entries)
  later_numbers n [] a = tt
  later_numbers n (e ∷ entries) a =
      each_append (λ (x : KeyedRow). n < x.number) (keyed_rows query e.0 e.1) (all_rows query entries)
      (each_map (λ (x : KeyedRow). x.number ≡ e.0) (λ (x : KeyedRow). n < x.number)
      (λ x is. omega (arith, is, a.0)) (keyed_rows query e.0 e.1) (document_numbers e.0 e.1))
      (later_numbers n entries a.1)

  numbers_apart : (n : ℕ) (x y : KeyedRow) → x.number ≡ n → n < y.number → KeyBefore x y
  numbers_apart n x y e h =
      ap (λ o. ordering_then o (slice_cmp nat_cmp x.place y.place))
      (less_nat x.number y.number (omega (arith, e, h)))

  all_rise : (entries : List (ℕ × Tree)) → Ascends NumberBefore entries → Ascends KeyBefore (all_rows query entries)
  all_rise [] a = tt
  all_rise (e ∷ entries) a =
      ascends_append KeyBefore (λ (x : KeyedRow). x.number ≡ e.0) (λ (y : KeyedRow). e.0 < y.number)
      (numbers_apart e.0) (keyed_rows query e.0 e.1) (all_rows query entries)
      (document_numbers e.0 e.1) (later_numbers e.0 entries a.0)
      (document_rise e.0 e.1) (all_rise entries a.1)

-- ---- sorted by keys that differ

module _ {X : Type 0} (cmp : X → X → Ordering) (o : IsTotalOrder cmp) where
  abbrev Less_than : X → X → Type 0
  Less_than x y = cmp x y ≡ Less

  abbrev Differ : X → X → Type 0
  Differ x y = cmp x y ≡ Equal → ⊥

  each_inserted : (P : X → Type 0) (x : X) (ys : List X) → P x → Each P ys → Each P (inserted cmp x ys)
  each_inserted P x [] p e = (p, tt)
  each_inserted P x (y ∷ ys) p e =
      elim (is_lt (cmp y x)) as (λ b. Each P (cond b (y ∷ inserted cmp x ys) (x ∷ y ∷ ys)))
      [ true ↦ (e.0, each_inserted P x ys p e.1) | false ↦ (p, e) ]

  each_sorted : (P : X → Type 0) (xs : List X) → Each P xs → Each P (sorted cmp xs)
  each_sorted P [] e = tt
  each_sorted P (x ∷ xs) e = each_inserted P x (sorted cmp xs) e.0 (each_sorted P xs e.1)

  by_order : (x y : X) (a b : Ordering) → cmp x y ≡ a → cmp y x ≡ b → a ≡ ordering_reverse b
      → (a ≡ Equal → ⊥) → is_lt b ≡ false → cmp x y ≡ Less
  by_order x y Less b e f r d l = e
  by_order x y Equal b e f r d l = absurd (d refl)
  by_order x y Greater Less e f r d l = absurd (true≢false l)
  by_order x y Greater Equal e f r d l = absurd (d (r ∙ refl))
  by_order x y Greater Greater e f r d l = e ∙ r

  is_less : (o' : Ordering) → is_lt o' ≡ true → o' ≡ Less
  is_less Less e = refl
  is_less Equal e = absurd (true≢false (sym e))
  is_less Greater e = absurd (true≢false (sym e))

  put_strictly : (x y : X) (ys : List X) (b : Bool) → is_lt (cmp y x) ≡ b → Differ x y
      → Ascends Less_than (y ∷ ys) → Ascends Less_than (inserted cmp x ys)
      → Ascends Less_than (cond b (y ∷ inserted cmp x ys) (x ∷ y ∷ ys))
  put_strictly x y ys true e d a rest =
      (each_inserted (Less_than y) x ys (is_less (cmp y x) e) a.0, rest)
  put_strictly x y ys false e d a rest =
      let h : cmp x y ≡ Less = by_order x y (cmp x y) (cmp y x) refl refl (o.antisymm x y) d e in
      ((h, each_map (Less_than y) (Less_than x) (λ z k. o.trans x y z h k) ys a.0), a)

  inserted_strictly : (x : X) (ys : List X) → Each (Differ x) ys → Ascends Less_than ys
      → Ascends Less_than (inserted cmp x ys)
  inserted_strictly x [] d a = (tt, tt)
  inserted_strictly x (y ∷ ys) d a =
      put_strictly x y ys (is_lt (cmp y x)) refl d.0 a (inserted_strictly x ys d.1 a.1)

  sorted_strictly : (xs : List X) → Ascends Differ xs → Ascends Less_than (sorted cmp xs)
  sorted_strictly [] a = tt
  sorted_strictly (x ∷ xs) a =
      inserted_strictly x (sorted cmp xs) (each_sorted (Differ x) xs a.0) (sorted_strictly xs a.1)

ascends_map : {X : Type 0} (R S : X → X → Type 0) → ((x y : X) → R x y → S x y) → (xs : List X)
    → Ascends R xs → Ascends S xs
ascends_map R S f [] a = tt
ascends_map R S f (x ∷ xs) a = (each_map (R x) (S x) (λ y r. f x y r) xs a.0, ascends_map R S f xs a.1)

last_equal : (a b : Ordering) → ordering_then a b ≡ Equal → b ≡ Equal
last_equal Less b e = absurd (cc)
last_equal Equal b e = e
last_equal Greater b e = absurd (cc)

keys_differ : (orders : List Order) (x y : KeyedRow) → KeyBefore x y → key_cmp orders x y ≡ Equal → ⊥
keys_differ orders x y h e =
    let tied : key_cmp [] x y ≡ Equal = last_equal (values_cmp orders x.values y.values) _ e in
    cc

-- ---- in the words of the library

numbers_so : (entries : List (ℕ × Tree)) → IsStrictlySortedBy nat_cmp (map (λ e. e.0) entries)
    → Ascends (λ d e. d.0 < e.0) entries
unfolding IsStrictlySortedBy
numbers_so [] a = tt
numbers_so (e ∷ entries) a = (each_so e.0 entries a.0, numbers_so entries a.1) where
  each_so : (n : ℕ) (entries : List (ℕ × Tree)) → AllByRecursion (λ m. nat_cmp n m ≡ Less) (map (λ e. e.0) entries)
      → Each (λ e. n < e.0) entries
  each_so n [] a = tt
  each_so n (e ∷ entries) a = (ranked n e.0 Less (sym a.0), each_so n entries a.1)

sorted_so : {X : Type 0} (cmp : X → X → Ordering) (xs : List X) → Ascends (λ x y. cmp x y ≡ Less) xs
    → IsStrictlySortedBy cmp xs
unfolding IsStrictlySortedBy
sorted_so cmp [] a = tt
sorted_so cmp (x ∷ xs) a = (a.0, sorted_so cmp xs a.1)

pub rows_rise_strictly : (query : Query) (entries : List (ℕ × Tree))
    → IsStrictlySortedBy nat_cmp (map (λ e. e.0) entries)
    → IsStrictlySortedBy (key_cmp []) (all_rows query entries)
rows_rise_strictly query entries a =
    sorted_so (key_cmp []) (all_rows query entries) (all_rise query entries (numbers_so entries a))

pub keys_rise_strictly : (query : Query) (entries : List (ℕ × Tree))
    → IsStrictlySortedBy nat_cmp (map (λ e. e.0) entries)
    → IsStrictlySortedBy (key_cmp query.orders) (sorted (key_cmp query.orders) (all_rows query entries))
keys_rise_strictly query entries a =
    sorted_so (key_cmp query.orders) (sorted (key_cmp query.orders) (all_rows query entries))
    (sorted_strictly (key_cmp query.orders) (key_total query.orders) (all_rows query entries)
    (ascends_map KeyBefore (λ x y. key_cmp query.orders x y ≡ Equal → ⊥) (keys_differ query.orders)
    (all_rows query entries) (all_rise query entries (numbers_so entries a))))
