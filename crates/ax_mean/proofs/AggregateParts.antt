-- An expression has an aggregate where it is one, or where one of its parts has one.
use Rattle.std.proofs.Common.{◌≡◌, List, [], ◌∷◌, Bool, true, false, ◌||◌, map, refl, sym, ap, ◌∙◌}
use Rattle.std.specs.List.{list_any}
use Rattle.ax_tree.specs.declared.members.Member.{Member}
use Rattle.ax_mean.specs.declared.expr.Chained.{Chained}
use Rattle.ax_mean.specs.declared.expr.Expr.{Expr, out-Expr}
use Rattle.ax_mean.specs.declared.expr.Expr.TheOpen.{Expr-F}
use Rattle.ax_mean.specs.declared.expr.Expr.TheFolds.{map-Expr}
use Rattle.ax_mean.specs.Aggregates.{any_of, any_operand, any_value, aggregate_level, has_aggregate, is_total, is_total_level}
use Rattle.ax_mean.specs.Parts.{level_parts, parts_of}
use Rattle.ax_mean.proofs.ByParts.{any_by_parts}

or_false : (a : Bool) → a || false ≡ a
or_false true = refl
or_false false = refl

two : (a b : Bool) → a || b ≡ a || (b || false)
two a b = ap (λ c. a || c) (sym (or_false b))

three : (a b c : Bool) → a || b || c ≡ a || (b || (c || false))
three true b c = refl
three false b c = two b c

operands_any : (chain : List (Chained Bool)) → any_operand chain ≡ any_of (map (λ c. c.operand) chain)
operands_any [] = refl
operands_any (c ∷ chain) = ap (λ rest. c.operand || rest) (operands_any chain)

values_any : (ms : List (Member Bool)) → any_value ms ≡ any_of (map (λ m. m.value) ms)
values_any [] = refl
values_any (m ∷ ms) = ap (λ rest. m.value || rest) (values_any ms)

by_level : (y : Expr-F Bool) → aggregate_level y ≡ is_total_level y || any_of (level_parts y)
by_level (Expr-F.Literal value) = refl
by_level (Expr-F.Alias name) = refl
by_level (Expr-F.Steps base steps) = sym (or_false base)
by_level (Expr-F.Choice test a b) = three test a b
by_level (Expr-F.Not a) = sym (or_false a)
by_level (Expr-F.Compare operator a b) = two a b
by_level (Expr-F.Between negated left low high) = three left low high
by_level (Expr-F.Like negated left pattern) = two left pattern
by_level (Expr-F.Sum first rest) = ap (λ flag. first || flag) (operands_any rest)
by_level (Expr-F.Product first rest) = ap (λ flag. first || flag) (operands_any rest)
by_level (Expr-F.Sign operator a) = sym (or_false a)
by_level (Expr-F.Object members) = values_any members
by_level _ = refl

total_mapped : (y : Expr-F Expr)
    → is_total_level (map-Expr Expr Bool has_aggregate y) ≡ is_total_level y
total_mapped (Expr-F.Total aggregate a) = refl
total_mapped _ = refl

pub aggregate_by_parts : (e : Expr)
    → has_aggregate e ≡ is_total e || list_any has_aggregate (parts_of e)
aggregate_by_parts e =
    any_by_parts aggregate_level is_total_level by_level e
    ∙ ap (λ here. here || list_any has_aggregate (parts_of e)) (total_mapped (out-Expr e))
