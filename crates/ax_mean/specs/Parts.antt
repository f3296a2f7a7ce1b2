-- The parts of an expression: the expressions that stand directly in it, in the order of the text. How
-- many expressions an expression is made of, itself among them. The forms are those of the query
-- language of Azure Cosmos DB for NoSQL.
use Rattle.std.specs.Prelude.{ℕ, ◌+◌, List, [], ◌∷◌, map, sum}
use Rattle.ax_mean.specs.declared.expr.Expr.{Expr, fold-Expr, out-Expr}
use Rattle.ax_mean.specs.declared.expr.Expr.TheOpen.{Expr-F}

-- the parts of one level, of whatever stands for each of them
abbrev pub level_parts : {X : Type 0} → Expr-F X → List X
level_parts (Expr-F.Literal value) = []
level_parts (Expr-F.Alias name) = []
level_parts (Expr-F.Steps base steps) = base ∷ []
level_parts (Expr-F.Choice test a b) = test ∷ a ∷ b ∷ []
level_parts (Expr-F.Coalesce items) = items
level_parts (Expr-F.Or items) = items
level_parts (Expr-F.And items) = items
level_parts (Expr-F.Not a) = a ∷ []
level_parts (Expr-F.Compare operator a b) = a ∷ b ∷ []
level_parts (Expr-F.Among negated left items) = left ∷ items
level_parts (Expr-F.Between negated left low high) = left ∷ low ∷ high ∷ []
level_parts (Expr-F.Like negated left pattern) = left ∷ pattern ∷ []
level_parts (Expr-F.Join items) = items
level_parts (Expr-F.Sum first rest) = first ∷ map (λ c. c.operand) rest
level_parts (Expr-F.Product first rest) = first ∷ map (λ c. c.operand) rest
level_parts (Expr-F.Sign operator a) = a ∷ []
level_parts (Expr-F.Call func args) = args
level_parts (Expr-F.Total aggregate a) = a ∷ []
level_parts (Expr-F.List items) = items
level_parts (Expr-F.Object members) = map (λ m. m.value) members

abbrev pub parts_of : Expr → List Expr
parts_of expr = level_parts (out-Expr expr)

abbrev pub size : Expr → ℕ
size = fold-Expr ℕ (λ level. sum (level_parts level) + 1)
