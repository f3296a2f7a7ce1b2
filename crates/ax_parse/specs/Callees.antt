-- Functions and aggregates by their names, and how many arguments may be written.
use Rattle.std.specs.Prelude.{◌≡◌, ℕ, ◌==◌, List, length, map, Option, Some, None, Result, Ok, Err, codes, if◌then◌else◌}
use Rattle.std.specs.List.{filter}
use Rattle.ax_mean.specs.declared.expr.Expr.{Expr}
use Rattle.ax_mean.specs.declared.operator.Func.{Func}
use Rattle.ax_mean.specs.declared.operator.Func.TheVariants as func
use Rattle.ax_mean.specs.Functions.{takes}
use Rattle.ax_grammar.specs.Tables as grammar
use Rattle.ax_parse.specs.declared.callee.Callee.{Callee}
use Rattle.ax_parse.specs.declared.callee.Callee.TheVariants as callee
use Rattle.ax_parse.specs.declared.fault.ParseFault.{ParseFault}

abbrev pub func_spelling : Func → List ℕ
func_spelling func.IsDefined = codes "IS_DEFINED"
func_spelling func.IsNull = codes "IS_NULL"
func_spelling func.IsBool = codes "IS_BOOL"
func_spelling func.IsNumber = codes "IS_NUMBER"
func_spelling func.IsString = codes "IS_STRING"
func_spelling func.IsArray = codes "IS_ARRAY"
func_spelling func.IsObject = codes "IS_OBJECT"
func_spelling func.IsPrimitive = codes "IS_PRIMITIVE"
func_spelling func.Abs = codes "ABS"
func_spelling func.Sign = codes "SIGN"
func_spelling func.Length = codes "LENGTH"
func_spelling func.Concat = codes "CONCAT"
func_spelling func.StartsWith = codes "STARTSWITH"
func_spelling func.EndsWith = codes "ENDSWITH"
func_spelling func.Contains = codes "CONTAINS"
func_spelling func.IndexOf = codes "INDEX_OF"
func_spelling func.Left = codes "LEFT"
func_spelling func.Right = codes "RIGHT"
func_spelling func.Substring = codes "SUBSTRING"
func_spelling func.Reverse = codes "REVERSE"
func_spelling func.ToString = codes "TOSTRING"
func_spelling func.ArrayLength = codes "ARRAY_LENGTH"
func_spelling func.ArrayContains = codes "ARRAY_CONTAINS"
func_spelling func.ArrayConcat = codes "ARRAY_CONCAT"
func_spelling func.ArraySlice = codes "ARRAY_SLICE"

-- a function with its name
abbrev pub with_spelling : (Func → List ℕ) → Func → List ℕ × Func
with_spelling spelling which = (spelling which, which)

-- the functions whose names have so many letters
abbrev pub funcs_of : ℕ → List Func
funcs_of letters =
    filter (λ which. length (func_spelling which) == letters) (map (λ row. row.1) grammar.functions)

abbrev pub callee_said : Callee → Option grammar.Callee
callee_said (callee.Function which) = Some (grammar.Callee.a_function which)
callee_said (callee.Aggregate which) = Some (grammar.Callee.an_aggregate which)

-- what a name calls, or that it calls nothing
abbrev pub Calls : Result Callee ParseFault → Option grammar.Callee → Type 0
Calls (Ok which) found = found ≡ callee_said which
Calls (Err fault) found = found ≡ None

-- arguments, where the function takes so many
abbrev pub limited_args : Func → List Expr → Option (List Expr)
limited_args which args = if takes which (length args) then Some args else None
