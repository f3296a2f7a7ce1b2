-- A query has the same rows in what an excerpt leaves of a document that is enough for it.
use Rattle.std.proofs.Common.{◌≡◌, ℕ, List, [], ◌∷◌, ◌++◌, map, cond, Bool, true, false, Option, Some, None, refl, sym, ap, ap₂, ◌∙◌, subst}
use Rattle.std.specs.Prelude.{⊤}
use Rattle.std.specs.List.{list_all, flat_map, filter_map, cons_option}
use Rattle.std.proofs.lemmas.Bool.{and_parts, false≢true}
use Rattle.std.proofs.lemmas.Slice.Eq.{bytes_eq-Decides}
use Rattle.ax_tree.specs.declared.members.Member.{Member}
use Rattle.ax_tree.specs.declared.tree.Tree as tree
use Rattle.ax_tree.specs.declared.tree.Tree.{Tree}
use Rattle.ax_mean.specs.declared.expr.Expr.{Expr}
use Rattle.ax_mean.specs.declared.expr.QueryStep.{QueryStep}
use Rattle.ax_mean.specs.declared.query.FromItem.{FromItem}
use Rattle.ax_mean.specs.declared.query.Named.{Named}
use Rattle.ax_mean.specs.declared.query.Order.{Order}
use Rattle.ax_mean.specs.declared.query.Pick.{Pick}
use Rattle.ax_mean.specs.declared.query.Pick.TheVariants as pick
use Rattle.ax_mean.specs.declared.query.Query.{Query}
use Rattle.ax_mean.specs.declared.value.Value.{Value}
use Rattle.ax_mean.specs.declared.value.Value.TheVariants.{Defined}
use Rattle.ax_mean.specs.Building.{members_of}
use Rattle.ax_mean.specs.Meaning.{Env, is_yes}
use Rattle.ax_mean.specs.Rows.{Bound, Choice, choices, with_choice, rows_from, nothing_bound, rows_of_tree, passes, along_path, order_values, named_member, shown, keyed, keyed_where, keyed_rows}
use Rattle.ax_mean.specs.Steps.{steps_from}
use Rattle.ax_mean.specs.Values.{truth_of}
use Rattle.ax_excerpt.specs.declared.excerpt.Excerpt.{Excerpt}
use Rattle.ax_excerpt.specs.Excerpts.{excerpt_of, keeps, keeps_path}
use Rattle.ax_excerpt.specs.Uses.{Uses, is_within}
use Rattle.ax_excerpt.specs.Enough.{within, sources_within, condition_within, pick_within, rest_within, is_document, sources_enough, is_enough}
use Rattle.ax_excerpt.proofs.KeptSteps.{kept_steps, kept_path}
use Rattle.ax_excerpt.proofs.Meanings.{LeadAlike, AreAlike, alike_itself, one_more, bound_alike, same_meaning}

-- ---- rows that are alike

abbrev pub IsAlike : Uses → Bound → Bound → Type 0
IsAlike uses r s = AreAlike uses r.env s.env × (r.place ≡ s.place)

abbrev pub RowsAlike : Uses → List Bound → List Bound → Type 0
RowsAlike uses [] [] = ⊤
RowsAlike uses [] (s ∷ ss) = ⊥
RowsAlike uses (r ∷ rs) [] = ⊥
RowsAlike uses (r ∷ rs) (s ∷ ss) = IsAlike uses r s × RowsAlike uses rs ss

rows_append : (uses : Uses) (rs ss xs ys : List Bound) → RowsAlike uses rs ss → RowsAlike uses xs ys
    → RowsAlike uses (rs ++ xs) (ss ++ ys)
rows_append uses [] [] xs ys a b = b
rows_append uses [] (s ∷ ss) xs ys a b = absurd a
rows_append uses (r ∷ rs) [] xs ys a b = absurd a
rows_append uses (r ∷ rs) (s ∷ ss) xs ys a b = (a.0, rows_append uses rs ss xs ys a.1 b)

flat_alike : (uses : Uses) (f g : Choice → List Bound) (cs : List Choice)
    → ((c : Choice) → RowsAlike uses (f c) (g c)) → RowsAlike uses (flat_map f cs) (flat_map g cs)
flat_alike uses f g [] alike = tt
flat_alike uses f g (c ∷ cs) alike =
    rows_append uses (f c) (g c) (flat_map f cs) (flat_map g cs) (alike c) (flat_alike uses f g cs alike)

flat_same : (uses : Uses) (f g : Choice → List Bound) (cs ds : List Choice) → cs ≡ ds
    → ((c : Choice) → RowsAlike uses (f c) (g c)) → RowsAlike uses (flat_map f cs) (flat_map g ds)
flat_same uses f g cs ds is alike =
    subst (λ (es : List Choice). RowsAlike uses (flat_map f cs) (flat_map g es)) is
    (flat_alike uses f g cs alike)

chosen_alike : (uses : Uses) (alias : List ℕ) (r s : Bound) (c : Choice) → IsAlike uses r s
    → IsAlike uses (with_choice alias r c) (with_choice alias s c)
chosen_alike uses alias r s c alike = (
  one_more uses r.env s.env alias (Defined c.tree) alike.0,
  ap (λ place. place ++ c.positions) alike.1,
)

pub grown : (uses : Uses) (items : List FromItem) (r s : Bound) → sources_within uses items ≡ true
    → IsAlike uses r s → RowsAlike uses (rows_from items r) (rows_from items s)
grown uses [] r s h alike = (alike, tt)
grown uses (item ∷ items) r s h alike =
    let both = and_parts (uses item.base item.steps) _ h in
    flat_same uses (λ c. rows_from items (with_choice item.alias r c))
    (λ c. rows_from items (with_choice item.alias s c)) _ _
    (ap (choices item.each) (bound_alike uses r.env s.env item.base alike.0 item.steps both.0))
    (λ c. grown uses items _ _ both.1 (chosen_alike uses item.alias r s c alike))

rows_themselves : (uses : Uses) (rs : List Bound) → RowsAlike uses rs rs
rows_themselves uses [] = tt
rows_themselves uses (r ∷ rs) = ((alike_itself uses r.env, refl), rows_themselves uses rs)

-- ---- what rows come to

filtered : {B : Type 0} (uses : Uses) (f g : Bound → Option B) (rs ss : List Bound)
    → ((r s : Bound) → IsAlike uses r s → f r ≡ g s) → RowsAlike uses rs ss
    → filter_map f rs ≡ filter_map g ss
filtered uses f g [] [] same alike = refl
filtered uses f g [] (s ∷ ss) same alike = absurd alike
filtered uses f g (r ∷ rs) [] same alike = absurd alike
filtered uses f g (r ∷ rs) (s ∷ ss) same alike =
    ap₂ cons_option (same r s alike.0) (filtered uses f g rs ss same alike.1)

pub passes_alike : (uses : Uses) (condition : Option Expr) (old new : Env)
    → condition_within uses condition ≡ true → AreAlike uses old new
    → passes condition old ≡ passes condition new
passes_alike uses None old new h alike = refl
passes_alike uses (Some x) old new h alike =
    ap (λ v. is_yes (truth_of v)) (same_meaning uses old new alike x h)

items_alike : (uses : Uses) (items : List Named) (old new : Env)
    → list_all (λ (item : Named). is_within uses item.expr) items ≡ true → AreAlike uses old new
    → map (named_member old) items ≡ map (named_member new) items
items_alike uses [] old new h alike = refl
items_alike uses (i ∷ is) old new h alike =
    let both = and_parts (is_within uses i.expr) _ h in
    ap₂ (λ (m : Member Value) ms. m ∷ ms)
    (ap (λ (v : Value). record { name = i.name; value = v }) (same_meaning uses old new alike i.expr both.0))
    (items_alike uses is old new both.1 alike)

shown_alike : (uses : Uses) (picked : Pick) (old new : Env)
    → pick_within false uses picked ≡ true → AreAlike uses old new → shown picked old ≡ shown picked new
shown_alike uses pick.Star old new h alike = absurd (false≢true h)
shown_alike uses (pick.Value x) old new h alike = same_meaning uses old new alike x h
shown_alike uses (pick.Named items) old new h alike =
    ap (λ ms. Defined (tree.Object (members_of ms))) (items_alike uses items old new h alike)

-- ---- a document and its excerpt

orders_kept : (e : Excerpt) (orders : List Order) (t : Tree)
    → list_all (λ (order : Order). keeps_path e order.path) orders ≡ true
    → map (λ (order : Order). along_path (Defined (excerpt_of e t)) order.path) orders
    ≡ map (λ (order : Order). along_path (Defined t) order.path) orders
orders_kept e [] t h = refl
orders_kept e (o ∷ os) t h =
    let both = and_parts (keeps_path e o.path) _ h in
    ap₂ (λ (v : Value) vs. v ∷ vs) (kept_path e o.path t both.0) (orders_kept e os t both.1)

pub same_tree : (e : Excerpt) (t : Tree) → keeps e [] ≡ true → excerpt_of e t ≡ t
same_tree e t h = defined (excerpt_of e t) t (kept_steps e [] t h)
  where
    defined : (a b : Tree) → Defined a ≡ Defined b → a ≡ b
    defined a b is = cc

-- the alias of the document leads to the same where the excerpt keeps the steps
document_alike : (alias : List ℕ) (e : Excerpt) (t : Tree)
    → LeadAlike (within alias e) alias (Defined (excerpt_of e t)) (Defined t)
document_alike alias e t steps h =
    kept_steps e steps t
    (ap (λ b. cond b (keeps e steps) true) (sym ((bytes_eq-Decides alias alias).1 refl)) ∙ h)

-- the first source binds the document itself
pub document_rows : (e : Excerpt) (item : FromItem) (items : List FromItem) (t : Tree)
    → is_document item.each item.steps ≡ true → sources_within (within item.alias e) items ≡ true
    → RowsAlike (within item.alias e) (rows_of_tree (item ∷ items) (excerpt_of e t))
    (rows_of_tree (item ∷ items) t)
document_rows e item items t is h =
    by item.each item.steps is
  where
    first : IsAlike (within item.alias e)
        (with_choice item.alias nothing_bound (record { positions = []; tree = excerpt_of e t }))
        (with_choice item.alias nothing_bound (record { positions = []; tree = t }))
    first = ((refl, document_alike item.alias e t, tt), refl)

    by : (each : Bool) (steps : List QueryStep) → is_document each steps ≡ true
        → RowsAlike (within item.alias e)
        (flat_map (λ c. rows_from items (with_choice item.alias nothing_bound c))
        (choices each (steps_from (Defined (excerpt_of e t)) steps)))
        (flat_map (λ c. rows_from items (with_choice item.alias nothing_bound c))
        (choices each (steps_from (Defined t) steps)))
    by true steps is = absurd (false≢true is)
    by false (s ∷ steps) is = absurd (false≢true is)
    by false [] is =
        rows_append (within item.alias e) _ _ [] []
        (grown (within item.alias e) items _ _ h first) tt

-- the first source begins at a part of it
pub part_rows : (e : Excerpt) (item : FromItem) (items : List FromItem) (t : Tree)
    → keeps e item.steps ≡ true
    → rows_of_tree (item ∷ items) (excerpt_of e t) ≡ rows_of_tree (item ∷ items) t
part_rows e item items t h =
    ap (λ v. flat_map (λ c. rows_from items (with_choice item.alias nothing_bound c)) (choices item.each v))
    (kept_steps e item.steps t h)

keyed_same : (query : Query) (number : ℕ) (values more : List Value) (uses : Uses) → values ≡ more
    → condition_within uses query.condition ≡ true → pick_within false uses query.pick ≡ true
    → (r s : Bound) → IsAlike uses r s
    → keyed_where query number values r ≡ keyed_where query number more s
keyed_same query number values more uses is passing picking r s alike =
    ap (λ b. cond b (keyed values number r.place (shown query.pick r.env)) None)
    (passes_alike uses query.condition r.env s.env passing alike.0)
    ∙ ap (λ row. cond (passes query.condition s.env) row None)
    (ap₂ (λ (vs : List Value) v. keyed vs number r.place v) is
    (shown_alike uses query.pick r.env s.env picking alike.0)
    ∙ ap (λ place. keyed more number place (shown query.pick s.env)) alike.1)

-- ---- the law

module _ (e : Excerpt) (query : Query) (number : ℕ) (t : Tree) where
  abbrev Same : Type 0
  Same = keyed_rows query number (excerpt_of e t) ≡ keyed_rows query number t

  by_whole : (b : Bool) → keeps e [] ≡ b
      → (keeps e [] ≡ false → Same) → Same
  by_whole true is other = ap (keyed_rows query number) (same_tree e t is)
  by_whole false is other = other is

  rows_same : (froms : List FromItem) → keeps e [] ≡ false → sources_enough e froms query ≡ true
      → order_values query (excerpt_of e t) ≡ order_values query t
      → filter_map (keyed_where query number (order_values query (excerpt_of e t)))
      (rows_of_tree froms (excerpt_of e t))
      ≡ filter_map (keyed_where query number (order_values query t)) (rows_of_tree froms t)
  rows_same [] part h orders = refl
  rows_same (item ∷ items) part h orders = by (is_document item.each item.steps) refl
    where
      abbrev_uses : Uses
      abbrev_uses = within item.alias e

      by : (b : Bool) → is_document item.each item.steps ≡ b
          → filter_map (keyed_where query number (order_values query (excerpt_of e t)))
          (rows_of_tree (item ∷ items) (excerpt_of e t))
          ≡ filter_map (keyed_where query number (order_values query t)) (rows_of_tree (item ∷ items) t)
      by true is =
          let own : rest_within (keeps e []) (within item.alias e) items query ≡ true =
          ap (λ b. cond b (rest_within (keeps e []) (within item.alias e) items query) (keeps e item.steps))
          (sym is) ∙ h in
          let a = and_parts (sources_within (within item.alias e) items) _ own in
          let b = and_parts (condition_within (within item.alias e) query.condition) _ a.1 in
          let c = and_parts (list_all (is_within (within item.alias e)) query.groups) _ b.1 in
          filtered (within item.alias e) _ _ _ _
          (keyed_same query number _ _ (within item.alias e) orders b.0
          (ap (λ star. pick_within star (within item.alias e) query.pick) (sym part) ∙ c.1))
          (document_rows e item items t is a.0)
      by false is =
          let own : keeps e item.steps ≡ true =
          ap (λ b. cond b (rest_within (keeps e []) (within item.alias e) items query) (keeps e item.steps))
          (sym is) ∙ h in
          ap₂ (λ (vs : List Value) rows. filter_map (keyed_where query number vs) rows) orders
          (part_rows e item items t own)

  pub same_rows : is_enough e query ≡ true
      → keyed_rows query number (excerpt_of e t) ≡ keyed_rows query number t
  same_rows h =
      let both = and_parts (sources_enough e query.froms query) _ h in
      by_whole (keeps e []) refl (λ part. rows_same query.froms part both.0
      (orders_kept e query.orders t both.1))
