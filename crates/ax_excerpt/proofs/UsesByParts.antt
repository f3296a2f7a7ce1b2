-- The uses in an expression that is no alias and has no steps are those in its parts.
use Rattle.std.proofs.Common.{◌≡◌, List, [], ◌∷◌, Bool, true, false, ◌&&◌, map, refl, ap, ◌∙◌}
use Rattle.std.specs.List.{list_all}
use Rattle.ax_tree.specs.declared.members.Member.{Member}
use Rattle.ax_mean.specs.declared.expr.Chained.{Chained}
use Rattle.ax_mean.specs.declared.expr.Expr.{Expr, out-Expr}
use Rattle.ax_mean.specs.declared.expr.Expr.TheOpen.{Expr-F}
use Rattle.ax_mean.specs.declared.expr.Expr.TheFolds.{map-Expr}
use Rattle.ax_mean.specs.declared.expr.QueryStep.{QueryStep}
use Rattle.ax_mean.specs.Parts.{level_parts, parts_of}
use Rattle.ax_mean.proofs.ByParts.{where_by_parts}
use Rattle.ax_excerpt.specs.Uses.{Uses, Test, all_alone, operands_alone, members_alone, uses_level, uses_in, is_within, parts_alone}

and_true : (a : Bool) → a ≡ a && true
and_true true = refl
and_true false = refl

two : (a b : Bool) → a && b ≡ a && (b && true)
two a b = ap (λ c. a && c) (and_true b)

three : (a b c : Bool) → a && (b && c) ≡ a && (b && (c && true))
three a b c = ap (λ d. a && d) (two b c)

operands : (chain : List (Chained Test))
    → operands_alone chain ≡ all_alone (map (λ c. c.operand) chain)
operands [] = refl
operands (c ∷ chain) = ap (λ rest. c.operand [] && rest) (operands chain)

values : (ms : List (Member Test)) → members_alone ms ≡ all_alone (map (λ m. m.value) ms)
values [] = refl
values (m ∷ ms) = ap (λ rest. m.value [] && rest) (values ms)

-- an alias, or steps from an expression
abbrev pub is_path_level : {X : Type 0} → Expr-F X → Bool
is_path_level (Expr-F.Alias name) = true
is_path_level (Expr-F.Steps base more) = true
is_path_level level = false

abbrev pub is_path : Expr → Bool
is_path expr = is_path_level (out-Expr expr)

module _ (uses : Uses) where
  by_level : (steps : List QueryStep) (y : Expr-F Test) → is_path_level y ≡ false
      → uses_level uses y steps ≡ all_alone (level_parts y)
  by_level steps (Expr-F.Alias name) h = absurd (let e : ⊥ = cc in e)
  by_level steps (Expr-F.Steps base more) h = absurd (let e : ⊥ = cc in e)
  by_level steps (Expr-F.Choice test a b) h = three (test []) (a []) (b [])
  by_level steps (Expr-F.Not a) h = and_true (a [])
  by_level steps (Expr-F.Compare operator a b) h = two (a []) (b [])
  by_level steps (Expr-F.Between negated left low high) h = three (left []) (low []) (high [])
  by_level steps (Expr-F.Like negated left pattern) h = two (left []) (pattern [])
  by_level steps (Expr-F.Sum first rest) h = ap (λ flag. first [] && flag) (operands rest)
  by_level steps (Expr-F.Product first rest) h = ap (λ flag. first [] && flag) (operands rest)
  by_level steps (Expr-F.Sign operator a) h = and_true (a [])
  by_level steps (Expr-F.Total which a) h = and_true (a [])
  by_level steps (Expr-F.Object members) h = values members
  by_level steps _ h = refl

  path_mapped : (y : Expr-F Expr)
      → is_path_level (map-Expr Expr Test (uses_in uses) y) ≡ is_path_level y
  path_mapped (Expr-F.Alias name) = refl
  path_mapped (Expr-F.Steps base more) = refl
  path_mapped _ = refl

  alone_mapped : (es : List Expr) → all_alone (map (uses_in uses) es) ≡ list_all (is_within uses) es
  alone_mapped [] = refl
  alone_mapped (e ∷ es) = ap (λ rest. is_within uses e && rest) (alone_mapped es)

  pub uses_by_parts : (e : Expr) (steps : List QueryStep) → is_path e ≡ false
      → uses_in uses e steps ≡ parts_alone uses e
  uses_by_parts e steps h =
      where_by_parts (uses_level uses) is_path_level (λ test. test steps) all_alone
      (by_level steps) e (path_mapped (out-Expr e) ∙ h)
      ∙ alone_mapped (parts_of e)
