-- How an expression uses its aliases: each stands before steps, or before none where it stands bare.
use Rattle.std.specs.Prelude.{ℕ, List, [], Bool, true, ◌&&◌}
use Rattle.std.specs.List.{list_all}
use Rattle.ax_tree.specs.declared.members.Member.{Member}
use Rattle.ax_mean.specs.declared.expr.Chained.{Chained}
use Rattle.ax_mean.specs.declared.expr.Expr.{Expr, fold-Expr}
use Rattle.ax_mean.specs.declared.expr.Expr.TheOpen.{Expr-F}
use Rattle.ax_mean.specs.declared.expr.QueryStep.{QueryStep}
use Rattle.ax_mean.specs.Parts.{parts_of}

-- which uses of an alias are allowed, by the steps behind it
abbrev pub Uses : Type 0
Uses = List ℕ → List QueryStep → Bool

-- whether an expression, with steps behind it, has only allowed uses
abbrev pub Test : Type 0
Test = List QueryStep → Bool

abbrev pub all_alone : List Test → Bool
all_alone = list_all (λ test. test [])

abbrev pub operands_alone : List (Chained Test) → Bool
operands_alone = list_all (λ c. c.operand [])

abbrev pub members_alone : List (Member Test) → Bool
members_alone = list_all (λ m. m.value [])

-- Where steps stand behind steps, all that the first ones lead to is used.
abbrev pub uses_level : Uses → Expr-F Test → Test
uses_level uses (Expr-F.Literal value) steps = true
uses_level uses (Expr-F.Alias name) steps = uses name steps
uses_level uses (Expr-F.Steps base more) steps = base more
uses_level uses (Expr-F.Choice test a b) steps = test [] && (a [] && b [])
uses_level uses (Expr-F.Coalesce items) steps = all_alone items
uses_level uses (Expr-F.Or items) steps = all_alone items
uses_level uses (Expr-F.And items) steps = all_alone items
uses_level uses (Expr-F.Not a) steps = a []
uses_level uses (Expr-F.Compare operator a b) steps = a [] && b []
uses_level uses (Expr-F.Among negated left items) steps = left [] && all_alone items
uses_level uses (Expr-F.Between negated left low high) steps = left [] && (low [] && high [])
uses_level uses (Expr-F.Like negated left pattern) steps = left [] && pattern []
uses_level uses (Expr-F.Join items) steps = all_alone items
uses_level uses (Expr-F.Sum first rest) steps = first [] && operands_alone rest
uses_level uses (Expr-F.Product first rest) steps = first [] && operands_alone rest
uses_level uses (Expr-F.Sign operator a) steps = a []
uses_level uses (Expr-F.Call func args) steps = all_alone args
uses_level uses (Expr-F.Total which a) steps = a []
uses_level uses (Expr-F.List items) steps = all_alone items
uses_level uses (Expr-F.Object members) steps = members_alone members

abbrev pub uses_in : Uses → Expr → Test
uses_in uses = fold-Expr Test (uses_level uses)

-- all uses in the expression are allowed
abbrev pub is_within : Uses → Expr → Bool
is_within uses expr = uses_in uses expr []

-- so are those in each part of an expression
abbrev pub parts_alone : Uses → Expr → Bool
parts_alone uses expr = list_all (is_within uses) (parts_of expr)
