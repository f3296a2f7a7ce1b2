-- The expression that is seen beside whether it is built is the expression itself.
use Rattle.std.proofs.Common.{◌≡◌, ℕ, List, [], ◌∷◌, map, Bool, true, false, ◌||◌, ◌&&◌, not, refl, sym, ap, ap₂, ◌∙◌, subst}
use Rattle.std.specs.List.{list_all, list_any}
use Rattle.ax_tree.specs.declared.members.Member.{Member}
use Rattle.ax_mean.specs.declared.expr.Chained.{Chained}
use Rattle.ax_mean.specs.declared.expr.Expr.{Expr, fold-Expr, out-Expr}
use Rattle.ax_mean.specs.declared.expr.Expr.TheOpen.{Expr-F}
use Rattle.ax_mean.specs.declared.expr.Expr.TheViews.{roll-Expr, roll-out-Expr}
use Rattle.ax_mean.specs.declared.expr.Expr.TheFolds.{map-Expr, fold-roll-Expr, ind-Expr}
use Rattle.ax_mean.specs.declared.operator.BinaryOp.{BinaryOp}
use Rattle.ax_mean.specs.Aggregates.{is_total, is_total_level}
use Rattle.ax_mean.specs.Parts.{level_parts, parts_of}
use Rattle.ax_grammar.specs.Parts.{built_level, parts_built, is_built}
use Rattle.ax_grammar.specs.SameExprs.{is_same_expr}
use Rattle.ax_grammar.proofs.PartsMapped.{parts_mapped}
use Rattle.ax_scope.specs.Forms.{alias_level, is_alias}

abbrev pub chained : BinaryOp → Expr → Chained Expr
chained op operand = record { op = op; operand = operand }

abbrev pub member : List ℕ → Expr → Member Expr
member name value = record { name = name; value = value }

three : (h : Expr → Expr → Expr → Expr-F Expr) {a b c x y z : Expr}
    → a ≡ x → b ≡ y → c ≡ z → h a b c ≡ h x y z
three h p q r = ap₂ (λ (k : Expr → Expr-F Expr) c. k c) (ap₂ h p q) r

first_or : (a b c : Bool) → (a || (b || c)) ≡ (b || (a || c))
first_or true true c = refl
first_or true false c = refl
first_or false b c = refl

module _ (groups : List Expr) where
  -- an expression that is seen beside whether it is built
  abbrev built_pair : Expr → Expr × Bool
  built_pair = fold-Expr (Expr × Bool) (built_level groups)

  abbrev IsWhole : Expr → Type 0
  IsWhole x = (built_pair x).0 ≡ x

  abbrev Kept : Type 0
  Kept = (x : Expr) × IsWhole x

  abbrev expr_of : Kept → Expr
  expr_of e = e.0

  abbrev chained_of : Chained Kept → Chained Expr
  chained_of c = record { op = c.op; operand = expr_of c.operand }

  abbrev member_of : Member Kept → Member Expr
  member_of m = record { name = m.name; value = expr_of m.value }

  abbrev chained_pair : Chained Expr → Chained (Expr × Bool)
  chained_pair c = record { op = c.op; operand = built_pair c.operand }

  abbrev member_pair : Member Expr → Member (Expr × Bool)
  member_pair m = record { name = m.name; value = built_pair m.value }

  exprs : (es : List Kept)
      → map (λ (p : Expr × Bool). p.0) (map built_pair (map expr_of es)) ≡ map expr_of es
  exprs [] = refl
  exprs (e ∷ es) = ap₂ (λ x xs. x ∷ xs) e.1 (exprs es)

  chains : (cs : List (Chained Kept))
      → map (λ (c : Chained (Expr × Bool)). chained c.op c.operand.0)
      (map chained_pair (map chained_of cs)) ≡ map chained_of cs
  chains [] = refl
  chains (c ∷ cs) = ap₂ (λ x xs. x ∷ xs) (ap (chained c.op) c.operand.1) (chains cs)

  members : (ms : List (Member Kept))
      → map (λ (m : Member (Expr × Bool)). member m.name m.value.0)
      (map member_pair (map member_of ms)) ≡ map member_of ms
  members [] = refl
  members (m ∷ ms) = ap₂ (λ x xs. x ∷ xs) (ap (member m.name) m.value.1) (members ms)

  abbrev level_of : Expr-F Kept → Expr-F Expr
  level_of y = map-Expr Kept Expr expr_of y

  abbrev back : Expr-F Expr → Expr-F Expr
  back x =
      map-Expr (Expr × Bool) Expr (λ part. part.0)
      (map-Expr Expr (Expr × Bool) built_pair x)

  level : (y : Expr-F Kept) → back (level_of y) ≡ level_of y
  level (Expr-F.Literal value) = refl
  level (Expr-F.Alias name) = refl
  level (Expr-F.Steps e steps) = ap (λ x. Expr-F.Steps x steps) e.1
  level (Expr-F.Choice e f g) =
      three (λ x y z. Expr-F.Choice x y z) e.1 f.1 g.1
  level (Expr-F.Coalesce es) = ap Expr-F.Coalesce (exprs es)
  level (Expr-F.Or es) = ap Expr-F.Or (exprs es)
  level (Expr-F.And es) = ap Expr-F.And (exprs es)
  level (Expr-F.Not e) = ap Expr-F.Not e.1
  level (Expr-F.Compare operator e f) = ap₂ (λ x y. Expr-F.Compare operator x y) e.1 f.1
  level (Expr-F.Among negated e es) = ap₂ (λ x xs. Expr-F.Among negated x xs) e.1 (exprs es)
  level (Expr-F.Between negated e f g) =
      three (λ x y z. Expr-F.Between negated x y z) e.1 f.1 g.1
  level (Expr-F.Like negated e f) = ap₂ (λ x y. Expr-F.Like negated x y) e.1 f.1
  level (Expr-F.Join es) = ap Expr-F.Join (exprs es)
  level (Expr-F.Sum e cs) = ap₂ (λ x xs. Expr-F.Sum x xs) e.1 (chains cs)
  level (Expr-F.Product e cs) = ap₂ (λ x xs. Expr-F.Product x xs) e.1 (chains cs)
  level (Expr-F.Sign operator e) = ap (λ x. Expr-F.Sign operator x) e.1
  level (Expr-F.Call func es) = ap (λ xs. Expr-F.Call func xs) (exprs es)
  level (Expr-F.Total aggregate e) = ap (λ x. Expr-F.Total aggregate x) e.1
  level (Expr-F.List es) = ap Expr-F.List (exprs es)
  level (Expr-F.Object ms) = ap Expr-F.Object (members ms)

  pair_roll : (x : Expr-F Expr)
      → built_pair (roll-Expr x)
      ≡ built_level groups (map-Expr Expr (Expr × Bool) built_pair x)
  pair_roll = fold-roll-Expr (Expr × Bool) (built_level groups)

  whole_level : (y : Expr-F Kept) → IsWhole (roll-Expr (level_of y))
  whole_level y = ap (λ p. p.0) (pair_roll (level_of y)) ∙ ap roll-Expr (level y)

  whole : (x : Expr) → IsWhole x
  whole = ind-Expr IsWhole (λ x y is. subst (λ z. IsWhole (roll-Expr z)) is (whole_level y))

  pair_out : (x : Expr)
      → built_pair x
      ≡ built_level groups (map-Expr Expr (Expr × Bool) built_pair (out-Expr x))
  pair_out x = ap built_pair (sym (roll-out-Expr x)) ∙ pair_roll (out-Expr x)

  by_form : (z : Expr-F (Expr × Bool))
      → parts_built z
      ≡ (is_total_level z
      || (not (alias_level z) && list_all (λ (p : Expr × Bool). p.1) (level_parts z)))
  by_form (Expr-F.Alias name) = refl
  by_form (Expr-F.Total aggregate x) = refl
  by_form _ = refl

  total_mapped : (y : Expr-F Expr)
      → is_total_level (map-Expr Expr (Expr × Bool) built_pair y) ≡ is_total_level y
  total_mapped (Expr-F.Total aggregate x) = refl
  total_mapped _ = refl

  alias_mapped : (y : Expr-F Expr)
      → alias_level (map-Expr Expr (Expr × Bool) built_pair y) ≡ alias_level y
  alias_mapped (Expr-F.Alias name) = refl
  alias_mapped _ = refl

  all_mapped : (xs : List Expr)
      → list_all (λ (p : Expr × Bool). p.1) (map built_pair xs) ≡ list_all (is_built groups) xs
  all_mapped [] = refl
  all_mapped (x ∷ xs) = ap (λ rest. is_built groups x && rest) (all_mapped xs)

  parts_by_form : (x : Expr)
      → parts_built (map-Expr Expr (Expr × Bool) built_pair (out-Expr x))
      ≡ (is_total x || (not (is_alias x) && list_all (is_built groups) (parts_of x)))
  parts_by_form x =
      by_form (map-Expr Expr (Expr × Bool) built_pair (out-Expr x))
      ∙ ap₂ (λ a b. a || b) (total_mapped (out-Expr x))
      (ap₂ (λ a b. not a && b) (alias_mapped (out-Expr x))
      (ap (list_all (λ (p : Expr × Bool). p.1)) (parts_mapped built_pair (out-Expr x))
      ∙ all_mapped (parts_of x)))

  -- An expression is built where it is an aggregate, or the same as one of these, or where it is no
  -- alias and its parts are built.
  pub built_by_parts : (x : Expr)
      → is_built groups x
      ≡ (is_total x || (list_any (is_same_expr x) groups
      || (not (is_alias x) && list_all (is_built groups) (parts_of x))))
  built_by_parts x =
      ap (λ p. p.1) (pair_out x)
      ∙ ap₂ (λ w b. list_any (is_same_expr w) groups || b)
      (ap (λ p. p.0) (sym (pair_out x)) ∙ whole x) (parts_by_form x)
      ∙ first_or (list_any (is_same_expr x) groups) (is_total x)
      (not (is_alias x) && list_all (is_built groups) (parts_of x))
