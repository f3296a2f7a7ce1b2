-- Aliases are declared in an expression where it is a declared one, or none, and they are in its
-- parts.
use Rattle.std.proofs.Common.{◌≡◌, ℕ, List, Bool, true, false, ◌&&◌, refl, sym, ap, ◌∙◌}
use Rattle.std.specs.List.{list_all}
use Rattle.ax_mean.specs.declared.expr.Expr.{Expr, out-Expr}
use Rattle.ax_mean.specs.declared.expr.Expr.TheOpen.{Expr-F}
use Rattle.ax_mean.specs.declared.expr.Expr.TheFolds.{map-Expr}
use Rattle.ax_mean.specs.Parts.{level_parts, parts_of}
use Rattle.ax_mean.proofs.ByParts.{all_by_parts}
use Rattle.ax_grammar.specs.Parts.{declared_level, are_declared, has}
use Rattle.ax_scope.specs.Forms.{declared_form, is_declared}

and_true : (a : Bool) → a ≡ (a && true)
and_true true = refl
and_true false = refl

module _ (aliases : List (List ℕ)) where
  by_level : (y : Expr-F Bool)
      → declared_level aliases y
      ≡ (declared_form aliases y && list_all (λ part. part) (level_parts y))
  by_level (Expr-F.Alias name) = and_true (has aliases name)
  by_level _ = refl

  form_mapped : (y : Expr-F Expr)
      → declared_form aliases (map-Expr Expr Bool (are_declared aliases) y)
      ≡ declared_form aliases y
  form_mapped (Expr-F.Alias name) = refl
  form_mapped _ = refl

  pub declared_by_parts : (x : Expr)
      → are_declared aliases x
      ≡ (is_declared aliases x && list_all (are_declared aliases) (parts_of x))
  declared_by_parts x =
      all_by_parts (declared_level aliases) (declared_form aliases) by_level x
      ∙ ap (λ here. here && list_all (are_declared aliases) (parts_of x))
      (form_mapped (out-Expr x))

  -- of an expression that is declared itself the parts decide
  pub parts_decide : (x : Expr) → true ≡ is_declared aliases x
      → list_all (are_declared aliases) (parts_of x) ≡ are_declared aliases x
  parts_decide x here =
      ap (λ b. b && list_all (are_declared aliases) (parts_of x)) here
      ∙ sym (declared_by_parts x)

  pub undeclared : (x : Expr) → false ≡ is_declared aliases x → false ≡ are_declared aliases x
  undeclared x here =
      ap (λ b. b && list_all (are_declared aliases) (parts_of x)) here
      ∙ sym (declared_by_parts x)
