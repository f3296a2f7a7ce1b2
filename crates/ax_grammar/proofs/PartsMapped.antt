-- The parts of a level whose parts are changed are the changed parts.
use Rattle.std.proofs.Common.{◌≡◌, List, [], ◌∷◌, map, refl, ap}
use Rattle.ax_tree.specs.declared.members.Member.{Member}
use Rattle.ax_mean.specs.declared.expr.Chained.{Chained}
use Rattle.ax_mean.specs.declared.expr.Expr.TheOpen.{Expr-F}
use Rattle.ax_mean.specs.declared.expr.Expr.TheFolds.{map-Expr}
use Rattle.ax_mean.specs.Parts.{level_parts}

module _ {X A : Type 0} (h : X → A) where
  operands_mapped : (chain : List (Chained X))
      → map (λ (c : Chained A). c.operand)
      (map (λ c. record { op = c.op; operand = h c.operand }) chain)
      ≡ map h (map (λ c. c.operand) chain)
  operands_mapped [] = refl
  operands_mapped (c ∷ chain) = ap (λ rest. h c.operand ∷ rest) (operands_mapped chain)

  values_mapped : (ms : List (Member X))
      → map (λ (m : Member A). m.value)
      (map (λ m. record { name = m.name; value = h m.value }) ms)
      ≡ map h (map (λ m. m.value) ms)
  values_mapped [] = refl
  values_mapped (m ∷ ms) = ap (λ rest. h m.value ∷ rest) (values_mapped ms)

  pub parts_mapped : (y : Expr-F X) → level_parts (map-Expr X A h y) ≡ map h (level_parts y)
  parts_mapped (Expr-F.Sum first rest) = ap (λ parts. h first ∷ parts) (operands_mapped rest)
  parts_mapped (Expr-F.Product first rest) = ap (λ parts. h first ∷ parts) (operands_mapped rest)
  parts_mapped (Expr-F.Object members) = values_mapped members
  parts_mapped _ = refl
