-- What the values of what it asks for make of an expression, and what a pick shows by them.
use Rattle.std.proofs.Common.{◌≡◌, ℕ, List, [], ◌∷◌, ◌++◌, map, Bool, true, false, refl, sym, ap, ap₂, ◌∙◌, subst, append_assoc, append-nil}
use Rattle.std.proofs.lemmas.List.{map-append}
use Rattle.ax_tree.specs.declared.members.Member.{Member}
use Rattle.ax_tree.specs.declared.tree.Tree as tree
use Rattle.ax_mean.specs.declared.expr.Chained.{Chained}
use Rattle.ax_mean.specs.declared.expr.Expr.{Expr}
use Rattle.ax_mean.specs.declared.expr.Expr.TheOpen.{Expr-F}
use Rattle.ax_mean.specs.declared.expr.Expr.TheVariants as expr
use Rattle.ax_mean.specs.declared.expr.Expr.TheViews.{roll-Expr}
use Rattle.ax_mean.specs.declared.expr.Expr.TheFolds.{map-Expr, ind-Expr}
use Rattle.ax_mean.specs.declared.operator.Aggregate.{Aggregate}
use Rattle.ax_mean.specs.declared.query.Named.{Named}
use Rattle.ax_mean.specs.declared.query.Pick.{Pick}
use Rattle.ax_mean.specs.declared.query.Pick.TheVariants as pick
use Rattle.ax_mean.specs.declared.value.Value.{Value}
use Rattle.ax_mean.specs.declared.value.Value.TheVariants.{Defined}
use Rattle.ax_mean.specs.Building.{members_of}
use Rattle.ax_mean.specs.Meaning.{Env, meaning}
use Rattle.ax_mean.specs.Rows.{named_member}
use Rattle.ax_result.specs.Groups.{first_env, item_over, shown_over}
use Rattle.ax_result.specs.Totals.{as_it_becomes, total_over, become, operands_become, members_become}
use Rattle.ax_group.specs.Walks.{Ask, Asks, Child, Fill, Fills, answer_over, answers_over, all_asked, operands_asked, members_asked, asked_level, asks_level, asks_where, asked_pair, asked_in, operand_pair, member_pair, items_asked, asked_by, all_filled, operands_filled, members_filled, fill_level, fills_level, filled_where, fill, fill_pair, operand_fill, member_fill, is_part, items_filled, shown_by}
use Rattle.ax_group.proofs.Standing.{stood_level, stood, standing, stands_where, stood_at, same}
use Rattle.ax_result.proofs.Wholes.{chained, member, whole, as_is, comes_to}

-- a thing made of values, with the values that are left
abbrev Made : Type 0 → Type 0
Made A = A × List Value

abbrev done : {A : Type 0} → A → List Value → Made A
done a rest = (a, rest)

-- what two things made one after another come to together
abbrev then_by : {A B C : Type 0} → (A → B → C) → Made A → (List Value → Made B) → Made C
then_by h p g = (h p.0 (g p.1).0, (g p.1).1)

both : {A B C : Type 0} (h : A → B → C) (f : List Value → Made A) (g : List Value → Made B)
    (vs ta tb rest : List Value) (a : A) (b : B) → vs ≡ ta ++ (tb ++ rest)
    → f (ta ++ (tb ++ rest)) ≡ done a (tb ++ rest) → g (tb ++ rest) ≡ done b rest
    → then_by h (f vs) g ≡ done (h a b) rest
both {A} {B} {C} h f g vs ta tb rest a b e p q =
    ap (λ (us : List Value). then_by h (f us) g) e
    ∙ ap (λ (m : Made A). then_by h m g) p
    ∙ ap (λ (m : Made B). done {A = C} (h a m.0) m.1) q

abbrev paired : Expr → Expr → Expr × Expr
paired x y = (x, y)

module _ (envs : List Env) where
  abbrev stood_by : Expr → Expr × Expr
  stood_by = stood envs

  abbrev operand_stood : Chained Expr → Chained (Expr × Expr)
  operand_stood c = record { op = c.op; operand = stood_by c.operand }

  abbrev member_stood : Member Expr → Member (Expr × Expr)
  member_stood m = record { name = m.name; value = stood_by m.value }

  abbrev IsFilled : Expr → Type 0
  IsFilled x = (rest : List Value)
      → fill x (answers_over envs (asked_in x) ++ rest) ≡ done (standing envs x) rest

  abbrev Kept : Type 0
  Kept = (x : Expr) × IsFilled x

  abbrev expr_of : Kept → Expr
  expr_of e = e.0

  abbrev chained_of : Chained Kept → Chained Expr
  chained_of c = record { op = c.op; operand = expr_of c.operand }

  abbrev member_of : Member Kept → Member Expr
  member_of m = record { name = m.name; value = expr_of m.value }

  -- the values of two lists of aggregates
  parted : (a b : List Ask) (rest : List Value)
      → answers_over envs (a ++ b) ++ rest ≡ answers_over envs a ++ (answers_over envs b ++ rest)
  parted a b rest =
      ap (λ vs. vs ++ rest) (map-append (answer_over envs) a b)
      ∙ append_assoc (answers_over envs a) (answers_over envs b) rest

  two_filled : {C : Type 0} (h : Expr → Expr → C) (e g : Kept) (rest : List Value)
      → then_by h (fill e.0 (answers_over envs (asked_in e.0 ++ asked_in g.0) ++ rest)) (fill g.0)
      ≡ done (h (standing envs e.0) (standing envs g.0)) rest
  two_filled h e g rest =
      both h (fill e.0) (fill g.0) _ (answers_over envs (asked_in e.0))
      (answers_over envs (asked_in g.0)) rest (standing envs e.0) (standing envs g.0)
      (parted (asked_in e.0) (asked_in g.0) rest)
      (e.1 (answers_over envs (asked_in g.0) ++ rest)) (g.1 rest)

  three_filled : (h : Expr → Expr → Expr → Expr) (e f g : Kept) (rest : List Value)
      → then_by (λ x (p : Expr × Expr). h x p.0 p.1)
      (fill e.0 (answers_over envs (asked_in e.0 ++ (asked_in f.0 ++ asked_in g.0)) ++ rest))
      (λ vs. then_by paired (fill f.0 vs) (fill g.0))
      ≡ done (h (standing envs e.0) (standing envs f.0) (standing envs g.0)) rest
  three_filled h e f g rest =
      both (λ x (p : Expr × Expr). h x p.0 p.1) (fill e.0)
      (λ vs. then_by paired (fill f.0 vs) (fill g.0)) _
      (answers_over envs (asked_in e.0)) (answers_over envs (asked_in f.0 ++ asked_in g.0)) rest
      (standing envs e.0) (paired (standing envs f.0) (standing envs g.0))
      (parted (asked_in e.0) (asked_in f.0 ++ asked_in g.0) rest)
      (e.1 (answers_over envs (asked_in f.0 ++ asked_in g.0) ++ rest))
      (two_filled paired f g rest)

  lists : (es : List Kept) (rest : List Value)
      → all_filled (map fill_pair (map expr_of es))
      (answers_over envs (all_asked (map asked_pair (map expr_of es))) ++ rest)
      ≡ done (become (map stood_by (map expr_of es))) rest
  lists [] rest = refl
  lists (e ∷ es) rest =
      let others = all_asked (map asked_pair (map expr_of es)) in
      both (λ (x : Expr) xs. x ∷ xs) (fill e.0) (all_filled (map fill_pair (map expr_of es))) _
      (answers_over envs (asked_in e.0)) (answers_over envs others) rest (standing envs e.0)
      (become (map stood_by (map expr_of es))) (parted (asked_in e.0) others rest)
      (e.1 (answers_over envs others ++ rest)) (lists es rest)

  chains : (cs : List (Chained Kept)) (rest : List Value)
      → operands_filled (map operand_fill (map chained_of cs))
      (answers_over envs (operands_asked (map operand_pair (map chained_of cs))) ++ rest)
      ≡ done (operands_become (map operand_stood (map chained_of cs))) rest
  chains [] rest = refl
  chains (c ∷ cs) rest =
      let others = operands_asked (map operand_pair (map chained_of cs)) in
      both (λ (x : Expr) xs. chained {X = Expr} c.op x ∷ xs) (fill c.operand.0)
      (operands_filled (map operand_fill (map chained_of cs))) _
      (answers_over envs (asked_in c.operand.0)) (answers_over envs others) rest
      (standing envs c.operand.0) (operands_become (map operand_stood (map chained_of cs)))
      (parted (asked_in c.operand.0) others rest)
      (c.operand.1 (answers_over envs others ++ rest)) (chains cs rest)

  members : (ms : List (Member Kept)) (rest : List Value)
      → members_filled (map member_fill (map member_of ms))
      (answers_over envs (members_asked (map member_pair (map member_of ms))) ++ rest)
      ≡ done (members_become (map member_stood (map member_of ms))) rest
  members [] rest = refl
  members (m ∷ ms) rest =
      let others = members_asked (map member_pair (map member_of ms)) in
      both (λ (x : Expr) xs. member {X = Expr} m.name x ∷ xs) (fill m.value.0)
      (members_filled (map member_fill (map member_of ms))) _
      (answers_over envs (asked_in m.value.0)) (answers_over envs others) rest
      (standing envs m.value.0) (members_become (map member_stood (map member_of ms)))
      (parted (asked_in m.value.0) others rest)
      (m.value.1 (answers_over envs others ++ rest)) (members ms rest)

  with_lists : (h : Expr → List Expr → Expr) (e : Kept) (es : List Kept) (rest : List Value)
      → then_by h (fill e.0 (answers_over envs
      (asked_in e.0 ++ all_asked (map asked_pair (map expr_of es))) ++ rest))
      (all_filled (map fill_pair (map expr_of es)))
      ≡ done (h (standing envs e.0) (become (map stood_by (map expr_of es)))) rest
  with_lists h e es rest =
      let others = all_asked (map asked_pair (map expr_of es)) in
      both h (fill e.0) (all_filled (map fill_pair (map expr_of es))) _
      (answers_over envs (asked_in e.0)) (answers_over envs others) rest (standing envs e.0)
      (become (map stood_by (map expr_of es))) (parted (asked_in e.0) others rest)
      (e.1 (answers_over envs others ++ rest)) (lists es rest)

  with_chains : (h : Expr → List (Chained Expr) → Expr) (e : Kept) (cs : List (Chained Kept))
      (rest : List Value) → then_by h (fill e.0 (answers_over envs
      (asked_in e.0 ++ operands_asked (map operand_pair (map chained_of cs))) ++ rest))
      (operands_filled (map operand_fill (map chained_of cs)))
      ≡ done (h (standing envs e.0)
      (operands_become (map operand_stood (map chained_of cs)))) rest
  with_chains h e cs rest =
      let others = operands_asked (map operand_pair (map chained_of cs)) in
      both h (fill e.0) (operands_filled (map operand_fill (map chained_of cs))) _
      (answers_over envs (asked_in e.0)) (answers_over envs others) rest (standing envs e.0)
      (operands_become (map operand_stood (map chained_of cs)))
      (parted (asked_in e.0) others rest)
      (e.1 (answers_over envs others ++ rest)) (chains cs rest)

  abbrev level_of : Expr-F Kept → Expr-F Expr
  level_of y = map-Expr Kept Expr expr_of y

  -- one thing made of another
  changed : {A B : Type 0} (h : A → B) (p : Made A) (a : A) (rest : List Value) → p ≡ done a rest
      → done {A = B} (h p.0) p.1 ≡ done (h a) rest
  changed {A} {B} h p a rest e = ap (λ (m : Made A). done {A = B} (h m.0) m.1) e

  same_total : (which : Aggregate) (x : Expr) (rest : List Value)
      → done (expr.Literal (total_over envs which (asked_pair x).0)) rest
      ≡ done (expr.Literal (total_over envs which (stood_by x).0)) rest
  same_total which x rest =
      ap (λ y. done (expr.Literal (total_over envs which y)) rest)
      (whole asks_level x ∙ sym (whole (stood_level envs) x))

  level : (y : Expr-F Kept) (rest : List Value)
      → fill_level (map-Expr Expr Child fill_pair (level_of y))
      (answers_over envs (asked_level (map-Expr Expr (Expr × Asks) asked_pair (level_of y))) ++ rest)
      ≡ done (as_it_becomes envs (map-Expr Expr (Expr × Expr) stood_by (level_of y))) rest
  level (Expr-F.Literal value) rest = refl
  level (Expr-F.Alias name) rest = refl
  level (Expr-F.Steps e steps) rest = changed (λ x. expr.Steps x steps) _ _ rest (e.1 rest)
  level (Expr-F.Choice e f g) rest = three_filled (λ x y z. expr.Choice x y z) e f g rest
  level (Expr-F.Coalesce es) rest = changed (λ xs. expr.Coalesce xs) _ _ rest (lists es rest)
  level (Expr-F.Or es) rest = changed (λ xs. expr.Or xs) _ _ rest (lists es rest)
  level (Expr-F.And es) rest = changed (λ xs. expr.And xs) _ _ rest (lists es rest)
  level (Expr-F.Not e) rest = changed (λ x. expr.Not x) _ _ rest (e.1 rest)
  level (Expr-F.Compare operator e f) rest =
      two_filled (λ x y. expr.Compare operator x y) e f rest
  level (Expr-F.Among negated e es) rest =
      with_lists (λ x xs. expr.Among negated x xs) e es rest
  level (Expr-F.Between negated e f g) rest =
      three_filled (λ x y z. expr.Between negated x y z) e f g rest
  level (Expr-F.Like negated e f) rest = two_filled (λ x y. expr.Like negated x y) e f rest
  level (Expr-F.Join es) rest = changed (λ xs. expr.Join xs) _ _ rest (lists es rest)
  level (Expr-F.Sum e cs) rest = with_chains (λ x xs. expr.Sum x xs) e cs rest
  level (Expr-F.Product e cs) rest = with_chains (λ x xs. expr.Product x xs) e cs rest
  level (Expr-F.Sign operator e) rest = changed (λ x. expr.Sign operator x) _ _ rest (e.1 rest)
  level (Expr-F.Call func es) rest = changed (λ xs. expr.Call func xs) _ _ rest (lists es rest)
  level (Expr-F.Total which e) rest = same_total which e.0 rest
  level (Expr-F.List es) rest = changed (λ xs. expr.List xs) _ _ rest (lists es rest)
  level (Expr-F.Object ms) rest = changed (λ xs. expr.Object xs) _ _ rest (members ms rest)

  fill_at : (x : Expr-F Expr) → fill (roll-Expr x)
      ≡ filled_where (is_part (roll-Expr x)) (fill_level (map-Expr Expr Child fill_pair x))
  fill_at x =
      ap (λ (f : Fills). f.whole) (comes_to fills_level x)
      ∙ ap (λ z. filled_where (is_part z) (fill_level (map-Expr Expr Child fill_pair x)))
      (as_is fills_level x)

  asked_at : (x : Expr-F Expr)
      → asked_in (roll-Expr x) ≡ asks_where (is_part (roll-Expr x)) (roll-Expr x)
      (asked_level (map-Expr Expr (Expr × Asks) asked_pair x))
  asked_at x =
      ap (λ (a : Asks). a.whole) (comes_to asks_level x)
      ∙ ap (λ z. asks_where (is_part z) z
      (asked_level (map-Expr Expr (Expr × Asks) asked_pair x))) (as_is asks_level x)

  filled_level : (y : Expr-F Kept) → IsFilled (roll-Expr (level_of y))
  filled_level y rest =
      let x = level_of y in
      ap (λ (g : Fill). g (answers_over envs (asked_in (roll-Expr x)) ++ rest)) (fill_at x)
      ∙ ap (λ asks. filled_where (is_part (roll-Expr x)) (fill_level (map-Expr Expr Child fill_pair x))
      (answers_over envs asks ++ rest)) (asked_at x)
      ∙ by (is_part (roll-Expr x))
      ∙ ap (λ z. done z rest) (sym (stood_at envs x))
    where
      by : (b : Bool)
          → filled_where b (fill_level (map-Expr Expr Child fill_pair (level_of y)))
          (answers_over envs (asks_where b (roll-Expr (level_of y))
          (asked_level (map-Expr Expr (Expr × Asks) asked_pair (level_of y)))) ++ rest)
          ≡ done (stands_where b (meaning (first_env envs) (roll-Expr (level_of y)))
          (as_it_becomes envs (map-Expr Expr (Expr × Expr) stood_by (level_of y)))) rest
      by true = refl
      by false = level y rest

  pub filled : (x : Expr) (rest : List Value)
      → fill x (answers_over envs (asked_in x) ++ rest) ≡ done (standing envs x) rest
  filled =
      ind-Expr IsFilled (λ x y is. subst (λ z. IsFilled (roll-Expr z)) is (filled_level y))

  abbrev named : List ℕ → Expr → Named
  named name x = record { name = name; expr = x }

  abbrev item_standing : Named → Named
  item_standing item = named item.name (standing envs item.expr)

  items : (ns : List Named) (rest : List Value)
      → items_filled ns (answers_over envs (items_asked ns) ++ rest) ≡ map item_standing ns
  items [] rest = refl
  items (n ∷ ns) rest =
      ap (λ vs. items_filled (n ∷ ns) vs) (parted (asked_in n.expr) (items_asked ns) rest)
      ∙ ap (λ (p : Made Expr). named n.name p.0 ∷ items_filled ns p.1)
      (filled n.expr (answers_over envs (items_asked ns) ++ rest))
      ∙ ap (λ others. named n.name (standing envs n.expr) ∷ others) (items ns rest)

  named_same : (ns : List Named)
      → map (named_member []) (map item_standing ns)
      ≡ map (named_member (first_env envs)) (map (item_over envs) ns)
  named_same [] = refl
  named_same (n ∷ ns) =
      ap₂ (λ m ms. m ∷ ms) (ap (member {X = Value} n.name) (same envs n.expr)) (named_same ns)

  pub picked : (p : Pick) → shown_by p (answers_over envs (asked_by p)) ≡ shown_over p envs
  picked pick.Star = refl
  picked (pick.Value x) =
      ap (λ vs. meaning [] (fill x vs).0) (sym (append-nil (answers_over envs (asked_in x))))
      ∙ ap (λ (m : Made Expr). meaning [] m.0) (filled x [])
      ∙ same envs x
  picked (pick.Named ns) =
      ap (λ vs. Defined (tree.Object (members_of (map (named_member []) (items_filled ns vs)))))
      (sym (append-nil (answers_over envs (items_asked ns))))
      ∙ ap (λ others. Defined (tree.Object (members_of (map (named_member []) others)))) (items ns [])
      ∙ ap (λ ms. Defined (tree.Object (members_of ms))) (named_same ns)
