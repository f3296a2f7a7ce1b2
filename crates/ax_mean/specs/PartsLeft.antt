-- The parts of an expression that are not yet taken, as the list that contracts see.
use Rattle.std.specs.Prelude.{List, ◌++◌, map, option_map, option_to_list}
use Rattle.ax_mean.specs.declared.expr.Expr.{Expr}
use Rattle.ax_mean.specs.declared.parts.Listed.{Listed}
use Rattle.ax_mean.specs.declared.parts.Listed.TheVariants.{Items, Operands, Members}
use Rattle.ax_mean.specs.declared.parts.Parts.TheInside.{Inside}

abbrev pub listed_left : Listed → List Expr
listed_left (Items items) = items.now
listed_left (Operands chain) = map (λ c. c.operand) chain.now
listed_left (Members members) = map (λ m. m.value) members.now

abbrev pub parts_left : Inside → List Expr
parts_left parts =
    option_to_list (option_map (λ part. part.now) parts.first)
    ++ option_to_list (option_map (λ part. part.now) parts.second)
    ++ option_to_list (option_map (λ part. part.now) parts.third) ++ listed_left parts.listed
