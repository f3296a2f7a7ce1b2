-- Which operator, function or aggregate a symbol or a name is, the value of a parameter, and the
-- limits of numbers and lists. Names of functions and aggregates are read in any case.
use Rattle.std.specs.Prelude.{ℕ, ℤ, pos, negsuc, ◌∷◌, [], List, nat_le, codes, Option, Some, None, if◌then◌else◌}
use Rattle.std.specs.Str.{str_eq_ignore_ascii_case}
use Rattle.ax_lex.specs.declared.symbol.Symbol.{Symbol}
use Rattle.ax_lex.specs.declared.symbol.Symbol.TheVariants as symbol
use Rattle.ax_tree.specs.Document.{value_of}
use Rattle.ax_tree.specs.declared.members.Member.{Member}
use Rattle.ax_tree.specs.declared.tree.Tree.{Tree, out-Tree}
use Rattle.ax_tree.specs.declared.tree.Tree.TheOpen.{Tree-F}
use Rattle.ax_mean.specs.declared.operator.Aggregate.{Aggregate}
use Rattle.ax_mean.specs.declared.operator.Aggregate.TheVariants as aggregate
use Rattle.ax_mean.specs.declared.operator.BinaryOp.{BinaryOp}
use Rattle.ax_mean.specs.declared.operator.BinaryOp.TheVariants as op
use Rattle.ax_mean.specs.declared.operator.Func.{Func}
use Rattle.ax_mean.specs.declared.operator.Func.TheVariants as func
use Rattle.ax_mean.specs.declared.operator.UnaryOp.{UnaryOp}
use Rattle.ax_mean.specs.declared.operator.UnaryOp.TheVariants as unary_op
use Rattle.ax_grammar.specs.Levels.{Level}

abbrev pub most_items : ℕ
most_items = 256

abbrev pub most_nesting : ℕ
most_nesting = 64

-- the greatest number of 32 bits, which a position and a count may be, and that of a literal
abbrev pub greatest_u32 : ℕ
greatest_u32 = 4294967295

abbrev pub greatest_literal : ℕ
greatest_literal = 9223372036854775807

-- the number that is a literal only behind a minus, and the literal that the two are
abbrev pub least_magnitude : ℕ
least_magnitude = 9223372036854775808

abbrev pub least_literal : ℤ
least_literal = negsuc 9223372036854775807

-- relop = "=" | "!=" | "<>" | "<" | "<=" | ">" | ">="
abbrev pub comparison_of : Symbol → Option BinaryOp
comparison_of symbol.Equal = Some op.Equal
comparison_of symbol.NotEqual = Some op.NotEqual
comparison_of symbol.Less = Some op.Less
comparison_of symbol.LessEqual = Some op.LessEqual
comparison_of symbol.Greater = Some op.Greater
comparison_of symbol.GreaterEqual = Some op.GreaterEqual
comparison_of _ = None

abbrev pub additive_of : Symbol → Option BinaryOp
additive_of symbol.Plus = Some op.Add
additive_of symbol.Minus = Some op.Subtract
additive_of _ = None

abbrev pub multiplicative_of : Symbol → Option BinaryOp
multiplicative_of symbol.Star = Some op.Multiply
multiplicative_of symbol.Slash = Some op.Divide
multiplicative_of symbol.Percent = Some op.Remainder
multiplicative_of _ = None

-- the operator before an operand of this level: "+" | "-" before a product, "*" | "/" | "%" before
-- a sign
abbrev pub operator_before : Level → Symbol → Option BinaryOp
operator_before Level.product = additive_of
operator_before Level.sign = multiplicative_of
operator_before _ = λ which. None

-- "-" | "+"
abbrev pub sign_of : Symbol → Option UnaryOp
sign_of symbol.Minus = Some unary_op.Minus
sign_of symbol.Plus = Some unary_op.Plus
sign_of _ = None

-- the first of a table whose spelling is the word, in letters of any case
abbrev pub spelled : {X : Type 0} → List ℕ → List (List ℕ × X) → Option X
spelled word [] = None
spelled word ((spelling, x) ∷ table) =
    if str_eq_ignore_ascii_case word spelling then Some x else spelled word table

abbrev pub functions : List (List ℕ × Func)
functions =
    (codes "IS_DEFINED", func.IsDefined) ∷ (codes "IS_NULL", func.IsNull) ∷
    (codes "IS_BOOL", func.IsBool) ∷ (codes "IS_NUMBER", func.IsNumber) ∷
    (codes "IS_STRING", func.IsString) ∷ (codes "IS_ARRAY", func.IsArray) ∷
    (codes "IS_OBJECT", func.IsObject) ∷ (codes "IS_PRIMITIVE", func.IsPrimitive) ∷
    (codes "ABS", func.Abs) ∷ (codes "SIGN", func.Sign) ∷ (codes "LENGTH", func.Length) ∷
    (codes "CONCAT", func.Concat) ∷ (codes "STARTSWITH", func.StartsWith) ∷
    (codes "ENDSWITH", func.EndsWith) ∷ (codes "CONTAINS", func.Contains) ∷
    (codes "INDEX_OF", func.IndexOf) ∷ (codes "LEFT", func.Left) ∷
    (codes "RIGHT", func.Right) ∷ (codes "SUBSTRING", func.Substring) ∷
    (codes "REVERSE", func.Reverse) ∷ (codes "TOSTRING", func.ToString) ∷
    (codes "ARRAY_LENGTH", func.ArrayLength) ∷ (codes "ARRAY_CONTAINS", func.ArrayContains) ∷
    (codes "ARRAY_CONCAT", func.ArrayConcat) ∷ (codes "ARRAY_SLICE", func.ArraySlice) ∷ []

abbrev pub aggregates : List (List ℕ × Aggregate)
aggregates =
    (codes "COUNT", aggregate.Count) ∷ (codes "SUM", aggregate.Sum) ∷
    (codes "MIN", aggregate.Min) ∷ (codes "MAX", aggregate.Max) ∷ []

abbrev pub func_of : List ℕ → Option Func
func_of word = spelled word functions

abbrev pub aggregate_of : List ℕ → Option Aggregate
aggregate_of word = spelled word aggregates

-- what a name before "(" calls
pub data Callee : Type 0 where
  a_function : Func → Callee
  an_aggregate : Aggregate → Callee

abbrev pub either_callee : Option Func → Option Aggregate → Option Callee
either_callee (Some which) other = Some (a_function which)
either_callee None (Some which) = Some (an_aggregate which)
either_callee None None = None

abbrev pub callee_of : List ℕ → Option Callee
callee_of word = either_callee (func_of word) (aggregate_of word)

-- the value of the parameter of that word; the names of `params` have their `@`
abbrev pub parameter_of : List (Member Tree) → List ℕ → Option Tree
parameter_of params word = value_of (64 ∷ word) params

-- the number, where it may count
abbrev pub may_count : ℕ → Option ℕ
may_count n = if nat_le n greatest_u32 then Some n else None

abbrev pub count_of_number : ℤ → Option ℕ
count_of_number (pos n) = may_count n
count_of_number (negsuc n) = None

abbrev pub count_of_level : Tree-F Tree → Option ℕ
count_of_level (Tree-F.Number z) = count_of_number z
count_of_level Tree-F.Null = None
count_of_level (Tree-F.Truth value) = None
count_of_level (Tree-F.Text value) = None
count_of_level (Tree-F.List items) = None
count_of_level (Tree-F.Object members) = None

-- the count that a parameter's value is
abbrev pub count_of : Tree → Option ℕ
count_of tree = count_of_level (out-Tree tree)
