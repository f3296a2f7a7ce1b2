-- An expression that is seen beside what it comes to is the expression itself; and what the values of
-- its aggregates make of it is the expression with its totals.
use Rattle.std.proofs.Common.{◌≡◌, ℕ, List, [], ◌∷◌, map, refl, sym, ap, ap₂, ◌∙◌, subst}
use Rattle.ax_tree.specs.declared.members.Member.{Member}
use Rattle.ax_mean.specs.declared.expr.Chained.{Chained}
use Rattle.ax_mean.specs.declared.expr.Expr.{Expr}
use Rattle.ax_mean.specs.declared.expr.Expr.TheOpen.{Expr-F}
use Rattle.ax_mean.specs.declared.expr.Expr.TheViews.{roll-Expr}
use Rattle.ax_mean.specs.declared.expr.Expr.TheFolds.{map-Expr, fold-roll-Expr, ind-Expr}
use Rattle.ax_mean.specs.declared.operator.BinaryOp.{BinaryOp}
use Rattle.ax_result.specs.Totals.{as_it_is, beside, pair_by}

abbrev pub chained : {X : Type 0} → BinaryOp → X → Chained X
chained op operand = record { op = op; operand = operand }

abbrev pub member : {X : Type 0} → List ℕ → X → Member X
member name value = record { name = name; value = value }

three_same : (h : Expr → Expr → Expr → Expr-F Expr) {a b c x y z : Expr}
    → a ≡ x → b ≡ y → c ≡ z → h a b c ≡ h x y z
three_same h p q r = ap₂ (λ (k : Expr → Expr-F Expr) c. k c) (ap₂ h p q) r

-- ---- an expression beside what it comes to

module _ {X : Type 0} (f : Expr-F (Expr × X) → X) where
  abbrev IsWhole : Expr → Type 0
  IsWhole x = (pair_by f x).0 ≡ x

  abbrev Kept : Type 0
  Kept = (x : Expr) × IsWhole x

  abbrev expr_of : Kept → Expr
  expr_of e = e.0

  abbrev chained_of : Chained Kept → Chained Expr
  chained_of c = record { op = c.op; operand = expr_of c.operand }

  abbrev member_of : Member Kept → Member Expr
  member_of m = record { name = m.name; value = expr_of m.value }

  abbrev chained_pair : Chained Expr → Chained (Expr × X)
  chained_pair c = record { op = c.op; operand = pair_by f c.operand }

  abbrev pair_member : Member Expr → Member (Expr × X)
  pair_member m = record { name = m.name; value = pair_by f m.value }

  exprs : (es : List Kept)
      → map (λ (p : Expr × X). p.0) (map (pair_by f) (map expr_of es)) ≡ map expr_of es
  exprs [] = refl
  exprs (e ∷ es) = ap₂ (λ x xs. x ∷ xs) e.1 (exprs es)

  chains : (cs : List (Chained Kept))
      → map (λ (c : Chained (Expr × X)). chained {X = Expr} c.op c.operand.0)
      (map chained_pair (map chained_of cs)) ≡ map chained_of cs
  chains [] = refl
  chains (c ∷ cs) = ap₂ (λ x xs. x ∷ xs) (ap (chained {X = Expr} c.op) c.operand.1) (chains cs)

  members : (ms : List (Member Kept))
      → map (λ (m : Member (Expr × X)). member {X = Expr} m.name m.value.0)
      (map pair_member (map member_of ms)) ≡ map member_of ms
  members [] = refl
  members (m ∷ ms) = ap₂ (λ x xs. x ∷ xs) (ap (member {X = Expr} m.name) m.value.1) (members ms)

  abbrev level_of : Expr-F Kept → Expr-F Expr
  level_of y = map-Expr Kept Expr expr_of y

  abbrev back : Expr-F Expr → Expr-F Expr
  back x =
      map-Expr (Expr × X) Expr (λ part. part.0) (map-Expr Expr (Expr × X) (pair_by f) x)

  level : (y : Expr-F Kept) → back (level_of y) ≡ level_of y
  level (Expr-F.Literal value) = refl
  level (Expr-F.Alias name) = refl
  level (Expr-F.Steps e steps) = ap (λ x. Expr-F.Steps x steps) e.1
  level (Expr-F.Choice e g h) = three_same (λ x y z. Expr-F.Choice x y z) e.1 g.1 h.1
  level (Expr-F.Coalesce es) = ap Expr-F.Coalesce (exprs es)
  level (Expr-F.Or es) = ap Expr-F.Or (exprs es)
  level (Expr-F.And es) = ap Expr-F.And (exprs es)
  level (Expr-F.Not e) = ap Expr-F.Not e.1
  level (Expr-F.Compare operator e g) = ap₂ (λ x y. Expr-F.Compare operator x y) e.1 g.1
  level (Expr-F.Among negated e es) = ap₂ (λ x xs. Expr-F.Among negated x xs) e.1 (exprs es)
  level (Expr-F.Between negated e g h) =
      three_same (λ x y z. Expr-F.Between negated x y z) e.1 g.1 h.1
  level (Expr-F.Like negated e g) = ap₂ (λ x y. Expr-F.Like negated x y) e.1 g.1
  level (Expr-F.Join es) = ap Expr-F.Join (exprs es)
  level (Expr-F.Sum e cs) = ap₂ (λ x xs. Expr-F.Sum x xs) e.1 (chains cs)
  level (Expr-F.Product e cs) = ap₂ (λ x xs. Expr-F.Product x xs) e.1 (chains cs)
  level (Expr-F.Sign operator e) = ap (λ x. Expr-F.Sign operator x) e.1
  level (Expr-F.Call func es) = ap (λ xs. Expr-F.Call func xs) (exprs es)
  level (Expr-F.Total which e) = ap (λ x. Expr-F.Total which x) e.1
  level (Expr-F.List es) = ap Expr-F.List (exprs es)
  level (Expr-F.Object ms) = ap Expr-F.Object (members ms)

  pub pair_roll : (x : Expr-F Expr)
      → pair_by f (roll-Expr x) ≡ beside f (map-Expr Expr (Expr × X) (pair_by f) x)
  pair_roll = fold-roll-Expr (Expr × X) (beside f)

  whole_level : (y : Expr-F Kept) → IsWhole (roll-Expr (level_of y))
  whole_level y = ap (λ p. p.0) (pair_roll (level_of y)) ∙ ap roll-Expr (level y)

  pub whole : (x : Expr) → (pair_by f x).0 ≡ x
  whole = ind-Expr IsWhole (λ x y is. subst (λ z. IsWhole (roll-Expr z)) is (whole_level y))

  -- what an expression comes to, by its level
  pub comes_to : (x : Expr-F Expr)
      → (pair_by f (roll-Expr x)).1 ≡ f (map-Expr Expr (Expr × X) (pair_by f) x)
  comes_to x = ap (λ p. p.1) (pair_roll x)

  pub as_is : (x : Expr-F Expr)
      → as_it_is (map-Expr Expr (Expr × X) (pair_by f) x) ≡ roll-Expr x
  as_is x = sym (ap (λ p. p.0) (pair_roll x)) ∙ whole (roll-Expr x)
