-- An expression that has no aggregate is what its totals make of it.
use Rattle.std.proofs.Common.{◌≡◌, List, [], ◌∷◌, map, Bool, false, true, ◌||◌, refl, sym, ap, ap₂, ◌∙◌, subst}
use Rattle.std.proofs.lemmas.Bool.{or_parts, false≢true}
use Rattle.ax_tree.specs.declared.members.Member.{Member}
use Rattle.ax_mean.specs.declared.expr.Chained.{Chained}
use Rattle.ax_mean.specs.declared.expr.Expr.{Expr}
use Rattle.ax_mean.specs.declared.expr.Expr.TheOpen.{Expr-F}
use Rattle.ax_mean.specs.declared.expr.Expr.TheVariants as expr
use Rattle.ax_mean.specs.declared.expr.Expr.TheViews.{roll-Expr}
use Rattle.ax_mean.specs.declared.expr.Expr.TheFolds.{map-Expr, fold-roll-Expr, ind-Expr}
use Rattle.ax_mean.specs.Aggregates.{any_of, any_operand, any_value, aggregate_level, has_aggregate, operand_flag, member_flag}
use Rattle.ax_mean.specs.Meaning.{Env}
use Rattle.ax_result.specs.Totals.{pair_by, as_it_becomes, with_totals, become, operands_become, members_become}
use Rattle.ax_result.proofs.Wholes.{chained, member, comes_to}

pub has_roll : (x : Expr-F Expr)
    → has_aggregate (roll-Expr x) ≡ aggregate_level (map-Expr Expr Bool has_aggregate x)
has_roll = fold-roll-Expr Bool aggregate_level

three : (f : Expr → Expr → Expr → Expr) {a b c x y z : Expr} → a ≡ x → b ≡ y → c ≡ z
    → f a b c ≡ f x y z
three f p q r = ap₂ (λ (k : Expr → Expr) c. k c) (ap₂ f p q) r

three_parts : (a b c : Bool) → (a || b || c) ≡ false → (a ≡ false) × (b ≡ false) × (c ≡ false)
three_parts false false false h = (refl, refl, refl)
three_parts false false true h = absurd (false≢true (sym h))
three_parts false true c h = absurd (false≢true (sym h))
three_parts true b c h = absurd (false≢true (sym h))

module _ (envs : List Env) where
  abbrev becomes : Expr → Expr × Expr
  becomes = pair_by (as_it_becomes envs)

  abbrev operand_becomes : Chained Expr → Chained (Expr × Expr)
  operand_becomes c = record { op = c.op; operand = becomes c.operand }

  abbrev member_becomes : Member Expr → Member (Expr × Expr)
  member_becomes m = record { name = m.name; value = becomes m.value }

  abbrev Stays : Expr → Type 0
  Stays x = has_aggregate x ≡ false → with_totals envs x ≡ x

  abbrev Kept : Type 0
  Kept = (x : Expr) × Stays x

  abbrev expr_of : Kept → Expr
  expr_of e = e.0

  abbrev chained_of : Chained Kept → Chained Expr
  chained_of c = record { op = c.op; operand = expr_of c.operand }

  abbrev member_of : Member Kept → Member Expr
  member_of m = record { name = m.name; value = expr_of m.value }

  lists : (es : List Kept) → any_of (map has_aggregate (map expr_of es)) ≡ false
      → become (map becomes (map expr_of es)) ≡ map expr_of es
  lists [] h = refl
  lists (e ∷ es) h =
      let p = or_parts (has_aggregate e.0) (any_of (map has_aggregate (map expr_of es))) h in
      ap₂ (λ x xs. x ∷ xs) (e.1 p.0) (lists es p.1)

  chains : (cs : List (Chained Kept)) → any_operand (map operand_flag (map chained_of cs)) ≡ false
      → operands_become (map operand_becomes (map chained_of cs)) ≡ map chained_of cs
  chains [] h = refl
  chains (c ∷ cs) h =
      let p = or_parts (has_aggregate c.operand.0)
      (any_operand (map operand_flag (map chained_of cs))) h in
      ap₂ (λ x xs. x ∷ xs) (ap (chained {X = Expr} c.op) (c.operand.1 p.0)) (chains cs p.1)

  members : (ms : List (Member Kept)) → any_value (map member_flag (map member_of ms)) ≡ false
      → members_become (map member_becomes (map member_of ms)) ≡ map member_of ms
  members [] h = refl
  members (m ∷ ms) h =
      let p = or_parts (has_aggregate m.value.0)
      (any_value (map member_flag (map member_of ms))) h in
      ap₂ (λ x xs. x ∷ xs) (ap (member {X = Expr} m.name) (m.value.1 p.0)) (members ms p.1)

  abbrev level_of : Expr-F Kept → Expr-F Expr
  level_of y = map-Expr Kept Expr expr_of y

  two_stay : (f : Expr → Expr → Expr) (e g : Kept)
      → (has_aggregate e.0 || has_aggregate g.0) ≡ false
      → f (with_totals envs e.0) (with_totals envs g.0) ≡ f e.0 g.0
  two_stay f e g h =
      let p = or_parts (has_aggregate e.0) (has_aggregate g.0) h in ap₂ f (e.1 p.0) (g.1 p.1)

  three_stay : (f : Expr → Expr → Expr → Expr) (e g k : Kept)
      → (has_aggregate e.0 || has_aggregate g.0 || has_aggregate k.0) ≡ false
      → f (with_totals envs e.0) (with_totals envs g.0) (with_totals envs k.0) ≡ f e.0 g.0 k.0
  three_stay f e g k h =
      let p = three_parts (has_aggregate e.0) (has_aggregate g.0) (has_aggregate k.0) h in
      three f (e.1 p.0) (g.1 p.1) (k.1 p.2)

  list_stays : (f : Expr → List Expr → Expr) (e : Kept) (es : List Kept)
      → (has_aggregate e.0 || any_of (map has_aggregate (map expr_of es))) ≡ false
      → f (with_totals envs e.0) (become (map becomes (map expr_of es))) ≡ f e.0 (map expr_of es)
  list_stays f e es h =
      let p = or_parts (has_aggregate e.0) (any_of (map has_aggregate (map expr_of es))) h in
      ap₂ f (e.1 p.0) (lists es p.1)

  chain_stays : (f : Expr → List (Chained Expr) → Expr) (e : Kept) (cs : List (Chained Kept))
      → (has_aggregate e.0 || any_operand (map operand_flag (map chained_of cs))) ≡ false
      → f (with_totals envs e.0) (operands_become (map operand_becomes (map chained_of cs)))
      ≡ f e.0 (map chained_of cs)
  chain_stays f e cs h =
      let p = or_parts (has_aggregate e.0)
      (any_operand (map operand_flag (map chained_of cs))) h in
      ap₂ f (e.1 p.0) (chains cs p.1)

  level : (y : Expr-F Kept)
      → aggregate_level (map-Expr Expr Bool has_aggregate (level_of y)) ≡ false
      → as_it_becomes envs (map-Expr Expr (Expr × Expr) becomes (level_of y))
      ≡ roll-Expr (level_of y)
  level (Expr-F.Literal value) h = sym (expr.rolls-Literal value)
  level (Expr-F.Alias name) h = sym (expr.rolls-Alias name)
  level (Expr-F.Steps e steps) h =
      ap (λ x. expr.Steps x steps) (e.1 h) ∙ sym (expr.rolls-Steps e.0 steps)
  level (Expr-F.Choice e f g) h =
      three_stay (λ x y z. expr.Choice x y z) e f g h ∙ sym (expr.rolls-Choice e.0 f.0 g.0)
  level (Expr-F.Coalesce es) h =
      ap (λ xs. expr.Coalesce xs) (lists es h) ∙ sym (expr.rolls-Coalesce (map expr_of es))
  level (Expr-F.Or es) h =
      ap (λ xs. expr.Or xs) (lists es h) ∙ sym (expr.rolls-Or (map expr_of es))
  level (Expr-F.And es) h =
      ap (λ xs. expr.And xs) (lists es h) ∙ sym (expr.rolls-And (map expr_of es))
  level (Expr-F.Not e) h = ap (λ x. expr.Not x) (e.1 h) ∙ sym (expr.rolls-Not e.0)
  level (Expr-F.Compare operator e f) h =
      two_stay (λ x y. expr.Compare operator x y) e f h
      ∙ sym (expr.rolls-Compare operator e.0 f.0)
  level (Expr-F.Among negated e es) h =
      list_stays (λ x xs. expr.Among negated x xs) e es h
      ∙ sym (expr.rolls-Among negated e.0 (map expr_of es))
  level (Expr-F.Between negated e f g) h =
      three_stay (λ x y z. expr.Between negated x y z) e f g h
      ∙ sym (expr.rolls-Between negated e.0 f.0 g.0)
  level (Expr-F.Like negated e f) h =
      two_stay (λ x y. expr.Like negated x y) e f h ∙ sym (expr.rolls-Like negated e.0 f.0)
  level (Expr-F.Join es) h =
      ap (λ xs. expr.Join xs) (lists es h) ∙ sym (expr.rolls-Join (map expr_of es))
  level (Expr-F.Sum e cs) h =
      chain_stays (λ x xs. expr.Sum x xs) e cs h ∙ sym (expr.rolls-Sum e.0 (map chained_of cs))
  level (Expr-F.Product e cs) h =
      chain_stays (λ x xs. expr.Product x xs) e cs h
      ∙ sym (expr.rolls-Product e.0 (map chained_of cs))
  level (Expr-F.Sign operator e) h =
      ap (λ x. expr.Sign operator x) (e.1 h) ∙ sym (expr.rolls-Sign operator e.0)
  level (Expr-F.Call func es) h =
      ap (λ xs. expr.Call func xs) (lists es h) ∙ sym (expr.rolls-Call func (map expr_of es))
  level (Expr-F.Total which e) h = absurd (false≢true (sym h))
  level (Expr-F.List es) h =
      ap (λ xs. expr.List xs) (lists es h) ∙ sym (expr.rolls-List (map expr_of es))
  level (Expr-F.Object ms) h =
      ap (λ xs. expr.Object xs) (members ms h) ∙ sym (expr.rolls-Object (map member_of ms))

  stays_level : (y : Expr-F Kept) → Stays (roll-Expr (level_of y))
  stays_level y h =
      comes_to (as_it_becomes envs) (level_of y) ∙ level y (sym (has_roll (level_of y)) ∙ h)

  pub stays : (x : Expr) → Stays x
  stays = ind-Expr Stays (λ x y is. subst (λ z. Stays (roll-Expr z)) is (stays_level y))
