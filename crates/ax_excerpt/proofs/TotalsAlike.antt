-- Over rows that are alike an expression with its totals has the same value, and a pick shows the
-- same.
use Rattle.std.proofs.Common.{◌≡◌, List, [], ◌∷◌, map, true, false, refl, sym, ap, ap₂, ◌∙◌, subst}
use Rattle.std.specs.List.{list_all}
use Rattle.std.proofs.lemmas.Bool.{and_parts, false≢true}
use Rattle.ax_tree.specs.declared.members.Member.{Member}
use Rattle.ax_tree.specs.declared.tree.Tree as tree
use Rattle.ax_mean.specs.declared.expr.Chained.{Chained}
use Rattle.ax_mean.specs.declared.expr.Expr.{Expr}
use Rattle.ax_mean.specs.declared.expr.Expr.TheOpen.{Expr-F}
use Rattle.ax_mean.specs.declared.expr.Expr.TheViews.{roll-Expr}
use Rattle.ax_mean.specs.declared.expr.Expr.TheFolds.{map-Expr, fold-roll-Expr, ind-Expr}
use Rattle.ax_mean.specs.declared.expr.QueryStep.{QueryStep}
use Rattle.ax_mean.specs.declared.operator.Aggregate.{Aggregate}
use Rattle.ax_mean.specs.declared.operator.BinaryOp.TheVariants as op
use Rattle.ax_mean.specs.declared.query.Named.{Named}
use Rattle.ax_mean.specs.declared.query.Pick.{Pick}
use Rattle.ax_mean.specs.declared.query.Pick.TheVariants as pick
use Rattle.ax_mean.specs.declared.value.Value.{Value}
use Rattle.ax_mean.specs.declared.value.Value.TheVariants.{Defined}
use Rattle.ax_mean.specs.Building.{defined_of, members_of}
use Rattle.ax_mean.specs.Functions.{call}
use Rattle.ax_mean.specs.Meaning.{Env, chosen, chain, operated, among, between, negated_where, meaning}
use Rattle.ax_mean.specs.Operators.{binary, unary, joined, first_defined, conjunction, disjunction, negation}
use Rattle.ax_mean.specs.Rows.{named_member, shown}
use Rattle.ax_mean.specs.Steps.{steps_from}
use Rattle.ax_excerpt.specs.Uses.{Uses, Test, all_alone, operands_alone, members_alone, uses_level, uses_in, is_within}
use Rattle.ax_excerpt.specs.Enough.{pick_within}
use Rattle.ax_excerpt.proofs.Meanings.{AreAlike, bound_alike, three}
use Rattle.ax_result.specs.Groups.{item_over, pick_over}
use Rattle.ax_result.specs.Totals.{aggregate_of, total_over, pair_by, become, operands_become, members_become, as_it_becomes, with_totals}
use Rattle.ax_result.proofs.Wholes.{whole, comes_to}
use Rattle.ax_excerpt.proofs.EnvsAlike.{EnvsAlike, meanings_alike}
use Rattle.ax_excerpt.proofs.FormMeanings.{operand_in, member_in, means_Steps, means_Choice, means_Coalesce, means_Or, means_And, means_Not, means_Compare, means_Among, means_Between, means_Like, means_Join, means_Sum, means_Product, means_Sign, means_Call, means_List, means_Object, means_Literal, means_Alias}

-- two sides that come to the same
sides : {a b c d : Value} (steps : List QueryStep) → a ≡ c → b ≡ d → c ≡ d
    → steps_from a steps ≡ steps_from b steps
sides {a} {b} {c} {d} steps p q e = ap (λ (v : Value). steps_from v steps) (p ∙ e ∙ sym q)

module _ (uses : Uses) (olds news : List Env) (alike : EnvsAlike uses olds news) (old new : Env)
    (one : AreAlike uses old new) where
  abbrev IsSame : Expr → Type 0
  IsSame x = (steps : List QueryStep) → uses_in uses x steps ≡ true
      → steps_from (meaning old (with_totals olds x)) steps
      ≡ steps_from (meaning new (with_totals news x)) steps

  abbrev Kept : Type 0
  Kept = (x : Expr) × IsSame x

  abbrev expr_of : Kept → Expr
  expr_of e = e.0

  abbrev chained_of : Chained Kept → Chained Expr
  chained_of c = record { op = c.op; operand = expr_of c.operand }

  abbrev member_of : Member Kept → Member Expr
  member_of m = record { name = m.name; value = expr_of m.value }

  abbrev becomes : List Env → Expr → Expr × Expr
  becomes envs = pair_by (as_it_becomes envs)

  abbrev operand_becomes : List Env → Chained Expr → Chained (Expr × Expr)
  operand_becomes envs c = record { op = c.op; operand = becomes envs c.operand }

  abbrev member_becomes : List Env → Member Expr → Member (Expr × Expr)
  member_becomes envs m = record { name = m.name; value = becomes envs m.value }

  abbrev operand_test : Chained Expr → Chained Test
  operand_test c = record { op = c.op; operand = uses_in uses c.operand }

  abbrev member_test : Member Expr → Member Test
  member_test m = record { name = m.name; value = uses_in uses m.value }

  abbrev totals : List Env → Expr → Expr
  totals envs x = (becomes envs x).1

  lists : (es : List Kept) → all_alone (map (uses_in uses) (map expr_of es)) ≡ true
      → map (meaning old) (become (map (becomes olds) (map expr_of es)))
      ≡ map (meaning new) (become (map (becomes news) (map expr_of es)))
  lists [] h = refl
  lists (e ∷ es) h =
      let both = and_parts (uses_in uses e.0 []) _ h in
      ap₂ (λ (v : Value) vs. v ∷ vs) (e.1 [] both.0) (lists es both.1)

  chains : (cs : List (Chained Kept))
      → operands_alone (map operand_test (map chained_of cs)) ≡ true
      → map (operand_in old) (operands_become (map (operand_becomes olds) (map chained_of cs)))
      ≡ map (operand_in new) (operands_become (map (operand_becomes news) (map chained_of cs)))
  chains [] h = refl
  chains (c ∷ cs) h =
      let both = and_parts (uses_in uses c.operand.0 []) _ h in
      ap₂ (λ (v : Chained Value) vs. v ∷ vs)
      (ap (λ (v : Value). record { op = c.op; operand = v }) (c.operand.1 [] both.0)) (chains cs both.1)

  members : (ms : List (Member Kept))
      → members_alone (map member_test (map member_of ms)) ≡ true
      → map (member_in old) (members_become (map (member_becomes olds) (map member_of ms)))
      ≡ map (member_in new) (members_become (map (member_becomes news) (map member_of ms)))
  members [] h = refl
  members (m ∷ ms) h =
      let both = and_parts (uses_in uses m.value.0 []) _ h in
      ap₂ (λ (v : Member Value) vs. v ∷ vs)
      (ap (λ (v : Value). record { name = m.name; value = v }) (m.value.1 [] both.0)) (members ms both.1)

  abbrev level_of : Expr-F Kept → Expr-F Expr
  level_of y = map-Expr Kept Expr expr_of y

  abbrev left : Expr-F Kept → Value
  left y = meaning old (as_it_becomes olds (map-Expr Expr (Expr × Expr) (becomes olds) (level_of y)))

  abbrev right : Expr-F Kept → Value
  right y = meaning new (as_it_becomes news (map-Expr Expr (Expr × Expr) (becomes news) (level_of y)))

  total_same : (which : Aggregate) (x : Expr) → uses_in uses x [] ≡ true
      → total_over olds which (becomes olds x).0 ≡ total_over news which (becomes news x).0
  total_same which x h =
      ap (total_over olds which) (whole (as_it_becomes olds) x)
      ∙ ap (aggregate_of which) (meanings_alike uses olds news x h alike)
      ∙ ap (total_over news which) (sym (whole (as_it_becomes news) x))

  level : (y : Expr-F Kept) (steps : List QueryStep)
      → uses_level uses (map-Expr Expr Test (uses_in uses) (level_of y)) steps ≡ true
      → steps_from (left y) steps ≡ steps_from (right y) steps
  level (Expr-F.Literal value) steps h =
      sides steps (means_Literal old value) (means_Literal new value) refl
  level (Expr-F.Alias name) steps h =
      ap (λ v. steps_from v steps) (means_Alias old name)
      ∙ bound_alike uses old new name one steps h
      ∙ ap (λ v. steps_from v steps) (sym (means_Alias new name))
  level (Expr-F.Steps e more) steps h =
      sides steps (means_Steps old (totals olds e.0) more) (means_Steps new (totals news e.0) more)
      (e.1 more h)
  level (Expr-F.Choice e f g) steps h =
      let a = and_parts (uses_in uses e.0 []) _ h in
      let b = and_parts (uses_in uses f.0 []) (uses_in uses g.0 []) a.1 in
      sides steps (means_Choice old _ _ _) (means_Choice new _ _ _)
      (three chosen (e.1 [] a.0) (f.1 [] b.0) (g.1 [] b.1))
  level (Expr-F.Coalesce es) steps h =
      sides steps (means_Coalesce old _) (means_Coalesce new _) (ap (chain first_defined) (lists es h))
  level (Expr-F.Or es) steps h =
      sides steps (means_Or old _) (means_Or new _) (ap (chain disjunction) (lists es h))
  level (Expr-F.And es) steps h =
      sides steps (means_And old _) (means_And new _) (ap (chain conjunction) (lists es h))
  level (Expr-F.Not e) steps h =
      sides steps (means_Not old _) (means_Not new _) (ap negation (e.1 [] h))
  level (Expr-F.Compare operator e f) steps h =
      let a = and_parts (uses_in uses e.0 []) (uses_in uses f.0 []) h in
      sides steps (means_Compare old operator _ _) (means_Compare new operator _ _)
      (ap₂ (binary operator) (e.1 [] a.0) (f.1 [] a.1))
  level (Expr-F.Among negated e es) steps h =
      let a = and_parts (uses_in uses e.0 []) _ h in
      sides steps (means_Among old negated _ _) (means_Among new negated _ _)
      (ap (negated_where negated) (ap₂ among (e.1 [] a.0) (lists es a.1)))
  level (Expr-F.Between negated e f g) steps h =
      let a = and_parts (uses_in uses e.0 []) _ h in
      let b = and_parts (uses_in uses f.0 []) (uses_in uses g.0 []) a.1 in
      sides steps (means_Between old negated _ _ _) (means_Between new negated _ _ _)
      (ap (negated_where negated) (three between (e.1 [] a.0) (f.1 [] b.0) (g.1 [] b.1)))
  level (Expr-F.Like negated e f) steps h =
      let a = and_parts (uses_in uses e.0 []) (uses_in uses f.0 []) h in
      sides steps (means_Like old negated _ _) (means_Like new negated _ _)
      (ap (negated_where negated) (ap₂ (binary op.Like) (e.1 [] a.0) (f.1 [] a.1)))
  level (Expr-F.Join es) steps h =
      sides steps (means_Join old _) (means_Join new _) (ap (chain joined) (lists es h))
  level (Expr-F.Sum e cs) steps h =
      let a = and_parts (uses_in uses e.0 []) _ h in
      sides steps (means_Sum old _ _) (means_Sum new _ _) (ap₂ operated (e.1 [] a.0) (chains cs a.1))
  level (Expr-F.Product e cs) steps h =
      let a = and_parts (uses_in uses e.0 []) _ h in
      sides steps (means_Product old _ _) (means_Product new _ _)
      (ap₂ operated (e.1 [] a.0) (chains cs a.1))
  level (Expr-F.Sign operator e) steps h =
      sides steps (means_Sign old operator _) (means_Sign new operator _) (ap (unary operator) (e.1 [] h))
  level (Expr-F.Call func es) steps h =
      sides steps (means_Call old func _) (means_Call new func _) (ap (call func) (lists es h))
  level (Expr-F.Total which e) steps h =
      sides steps (means_Literal old _) (means_Literal new _) (total_same which e.0 h)
  level (Expr-F.List es) steps h =
      sides steps (means_List old _) (means_List new _)
      (ap (λ vs. Defined (tree.List (defined_of vs))) (lists es h))
  level (Expr-F.Object ms) steps h =
      sides steps (means_Object old _) (means_Object new _)
      (ap (λ vs. Defined (tree.Object (members_of vs))) (members ms h))

  uses_roll : (x : Expr-F Expr)
      → uses_in uses (roll-Expr x) ≡ uses_level uses (map-Expr Expr Test (uses_in uses) x)
  uses_roll = fold-roll-Expr Test (uses_level uses)

  same_level : (y : Expr-F Kept) → IsSame (roll-Expr (level_of y))
  same_level y steps h =
      ap (λ x. steps_from (meaning old x) steps) (comes_to (as_it_becomes olds) (level_of y))
      ∙ level y steps (ap (λ (t : Test). t steps) (sym (uses_roll (level_of y))) ∙ h)
      ∙ ap (λ x. steps_from (meaning new x) steps) (sym (comes_to (as_it_becomes news) (level_of y)))

  same_behind : (x : Expr) (steps : List QueryStep) → uses_in uses x steps ≡ true
      → steps_from (meaning old (with_totals olds x)) steps
      ≡ steps_from (meaning new (with_totals news x)) steps
  same_behind = ind-Expr IsSame (λ x y is. subst (λ z. IsSame (roll-Expr z)) is (same_level y))

  pub same_filled : (x : Expr) → is_within uses x ≡ true
      → meaning old (with_totals olds x) ≡ meaning new (with_totals news x)
  same_filled x h = same_behind x [] h

  items_shown : (items : List Named)
      → list_all (λ (item : Named). is_within uses item.expr) items ≡ true
      → map (named_member old) (map (item_over olds) items)
      ≡ map (named_member new) (map (item_over news) items)
  items_shown [] h = refl
  items_shown (i ∷ is) h =
      let both = and_parts (is_within uses i.expr) _ h in
      ap₂ (λ (m : Member Value) ms. m ∷ ms)
      (ap (λ (v : Value). record { name = i.name; value = v }) (same_filled i.expr both.0))
      (items_shown is both.1)

  pub same_shown : (picked : Pick) → pick_within false uses picked ≡ true
      → shown (pick_over olds picked) old ≡ shown (pick_over news picked) new
  same_shown pick.Star h = absurd (false≢true h)
  same_shown (pick.Value x) h = same_filled x h
  same_shown (pick.Named items) h =
      ap (λ ms. Defined (tree.Object (members_of ms))) (items_shown items h)
