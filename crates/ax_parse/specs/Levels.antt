-- The levels and chains in memory as those of the grammar, and what is read at each level.
use Rattle.std.specs.Prelude.{ℕ, List, Bool, true, false}
use Rattle.ax_lex.specs.declared.keyword.Keyword.TheVariants as keyword
use Rattle.ax_lex.specs.declared.symbol.Symbol.TheVariants as symbol
use Rattle.ax_tree.specs.declared.members.Member.{Member}
use Rattle.ax_tree.specs.declared.tree.Tree.{Tree}
use Rattle.ax_mean.specs.declared.expr.Chained.{Chained}
use Rattle.ax_mean.specs.declared.expr.Expr.{Expr}
use Rattle.ax_mean.specs.declared.expr.Expr.TheVariants as expr
use Rattle.ax_mean.specs.declared.operator.UnaryOp.{UnaryOp}
use Rattle.ax_grammar.specs.ExprReader.{inner_at, read_level, read_atom, read_chain, read_comparison, read_negation, read_operated, read_postfix, read_sign}
use Rattle.ax_grammar.specs.Levels as grammar
use Rattle.ax_grammar.specs.Reading.{Reader, nothing_read, at_once}
use Rattle.ax_grammar.specs.Takes.{Mark}
use Rattle.ax_grammar.specs.Takes.Mark.{the_symbol, the_keyword}
use Rattle.ax_parse.specs.declared.level.Chain.{Chain}
use Rattle.ax_parse.specs.declared.level.Chain.TheVariants as chain
use Rattle.ax_parse.specs.declared.level.Level.{Level}
use Rattle.ax_parse.specs.declared.level.Level.TheVariants as level
use Rattle.ax_parse.specs.declared.level.Operated.{Operated}
use Rattle.ax_parse.specs.declared.level.Operated.TheVariants as operated

abbrev pub level_of : Level → grammar.Level
level_of level.Choice = grammar.Level.choice
level_of level.Coalesce = grammar.Level.coalesce
level_of level.Disjunction = grammar.Level.disjunction
level_of level.Conjunction = grammar.Level.conjunction
level_of level.Negation = grammar.Level.negation
level_of level.Comparison = grammar.Level.comparison
level_of level.Concatenation = grammar.Level.concatenation
level_of level.Sum = grammar.Level.sum
level_of level.Product = grammar.Level.product
level_of level.Sign = grammar.Level.sign
level_of level.Postfix = grammar.Level.postfix
level_of level.Atom = grammar.Level.atom

abbrev pub chain_mark : Chain → Mark
chain_mark chain.Coalesce = the_symbol symbol.Coalesce
chain_mark chain.Or = the_keyword keyword.Or
chain_mark chain.And = the_keyword keyword.And
chain_mark chain.Join = the_symbol symbol.Join

abbrev pub chain_operand : Chain → Level
chain_operand chain.Coalesce = level.Disjunction
chain_operand chain.Or = level.Conjunction
chain_operand chain.And = level.Negation
chain_operand chain.Join = level.Sum

abbrev pub chain_variant : Chain → List Expr → Expr
chain_variant chain.Coalesce = expr.Coalesce
chain_variant chain.Or = expr.Or
chain_variant chain.And = expr.And
chain_variant chain.Join = expr.Join

abbrev pub operated_operand : Operated → Level
operated_operand operated.Sum = level.Product
operated_operand operated.Product = level.Sign

abbrev pub operated_variant : Operated → Expr → List (Chained Expr) → Expr
operated_variant operated.Sum = expr.Sum
operated_variant operated.Product = expr.Product

-- what is read at a level, where so many may stand inside
unfoldable pub read_at : List (Member Tree) → ℕ → grammar.Level → Reader Expr
read_at params n level = read_level params n level

-- what is read behind NOT
unfoldable pub denied_at : List (Member Tree) → ℕ → Reader Expr
denied_at params n = (inner_at params n).denied

-- what is read behind a sign
unfoldable pub signed_at : List (Member Tree) → ℕ → UnaryOp → Reader Expr
signed_at params n = (inner_at params n).signed

-- what is read at a level, from what is read within
abbrev pub read_by : List (Member Tree) → ℕ → Level → Reader Expr
read_by params n level.Choice = read_at params n grammar.Level.choice
read_by params n level.Coalesce =
    read_chain expr.Coalesce (the_symbol symbol.Coalesce) (read_at params n grammar.Level.disjunction)
read_by params n level.Disjunction =
    read_chain expr.Or (the_keyword keyword.Or) (read_at params n grammar.Level.conjunction)
read_by params n level.Conjunction =
    read_chain expr.And (the_keyword keyword.And) (read_at params n grammar.Level.negation)
read_by params n level.Negation =
    read_negation (denied_at params n) (read_at params n grammar.Level.comparison)
read_by params n level.Comparison =
    read_comparison (read_at params n grammar.Level.choice)
    (read_at params n grammar.Level.concatenation)
read_by params n level.Concatenation =
    read_chain expr.Join (the_symbol symbol.Join) (read_at params n grammar.Level.sum)
read_by params n level.Sum =
    read_operated expr.Sum grammar.Level.product (read_at params n grammar.Level.product)
read_by params n level.Product =
    read_operated expr.Product grammar.Level.sign (read_at params n grammar.Level.sign)
read_by params n level.Sign =
    read_sign (signed_at params n) (read_at params n grammar.Level.postfix)
read_by params n level.Postfix = read_postfix (read_at params n grammar.Level.atom)
read_by params n level.Atom = read_atom params (read_at params n grammar.Level.choice)

-- what is read where no predicate follows: nothing behind NOT, and else the operand
abbrev pub alone : Bool → Expr → Reader Expr
alone true x = nothing_read
alone false x = at_once x
