-- Reading expressions: each level from the readers of the levels within, and the knot of them by
-- recursion on how much may still stand inside.
use Rattle.std.specs.Prelude.{ℕ, zero, suc, ◌==◌, nat_le, pos, List, [], ◌∷◌, length, Bool, true, false, ◌&&◌, not, Option, Some, None, option_map}
use Rattle.ax_lex.specs.declared.keyword.Keyword.{Keyword}
use Rattle.ax_lex.specs.declared.keyword.Keyword.TheVariants as keyword
use Rattle.ax_lex.specs.declared.symbol.Symbol.{Symbol}
use Rattle.ax_lex.specs.declared.symbol.Symbol.TheVariants as symbol
use Rattle.ax_lex.specs.Lexeme.{Lexeme}
use Rattle.ax_tree.specs.declared.members.Member.{Member}
use Rattle.ax_tree.specs.declared.tree.Tree.{Tree}
use Rattle.ax_tree.specs.declared.tree.Tree.TheVariants as tree
use Rattle.ax_mean.specs.declared.expr.Chained.{Chained}
use Rattle.ax_mean.specs.declared.expr.Expr.{Expr}
use Rattle.ax_mean.specs.declared.expr.Expr.TheVariants as expr
use Rattle.ax_mean.specs.declared.expr.QueryStep.{QueryStep}
use Rattle.ax_mean.specs.declared.operator.BinaryOp.{BinaryOp}
use Rattle.ax_mean.specs.declared.operator.UnaryOp.{UnaryOp}
use Rattle.ax_mean.specs.declared.operator.UnaryOp.TheVariants as unary_op
use Rattle.ax_mean.specs.declared.value.Value.TheVariants.{Undefined, Defined}
use Rattle.ax_mean.specs.Functions.{takes}
use Rattle.ax_grammar.specs.Fronts.{begins_step}
use Rattle.ax_grammar.specs.Levels.{Level}
use Rattle.ax_grammar.specs.Reading.{Reader, Turn, and_then, provided, changed, nothing_read, at_once, where_marked, behind_mark, closed_by, take_label, take_operator, must, all_turns, parted}
use Rattle.ax_grammar.specs.Reading.Turn.{ended}
use Rattle.ax_grammar.specs.StepReader.{read_steps}
use Rattle.ax_grammar.specs.Tables.{Callee, most_items, most_nesting, greatest_literal, least_magnitude, least_literal, comparison_of, operator_before, sign_of, callee_of, parameter_of}
use Rattle.ax_grammar.specs.Tables.Callee.{a_function, an_aggregate}
use Rattle.ax_grammar.specs.Takes.{Mark}
use Rattle.ax_grammar.specs.Takes.Mark.{the_symbol, the_keyword}

-- A chain is its one operand, or the variant of at least two.
abbrev pub chain_of : (List Expr → Expr) → List Expr → Expr
chain_of variant (x ∷ []) = x
chain_of variant xs = variant xs

abbrev pub operated_of : (Expr → List (Chained Expr) → Expr) → Expr → List (Chained Expr) → Expr
operated_of variant x [] = x
operated_of variant x (c ∷ cs) = variant x (c ∷ cs)

abbrev pub stepped_of : Expr → List QueryStep → Expr
stepped_of x [] = x
stepped_of x (step ∷ steps) = expr.Steps x (step ∷ steps)

-- operand {mark operand}
abbrev pub read_chain : (List Expr → Expr) → Mark → Reader Expr → Reader Expr
read_chain variant mark operand lexemes = changed (chain_of variant) (parted mark operand lexemes)

-- an operand behind the operator that stands first
abbrev pub turn_operated : Reader Expr → Option (BinaryOp × List Lexeme) → Turn (Chained Expr)
turn_operated operand None = ended
turn_operated operand (Some found) =
    must (changed (λ x. record { op = found.0; operand = x }) (operand found.1))

abbrev pub turn_chained : Level → Reader Expr → List Lexeme → Turn (Chained Expr)
turn_chained level operand lexemes =
    turn_operated operand (take_operator (operator_before level) lexemes)

-- operand {operator operand}
abbrev pub read_operated : (Expr → List (Chained Expr) → Expr) → Level → Reader Expr → Reader Expr
read_operated variant level operand lexemes =
    and_then (operand lexemes) (λ first. changed (operated_of variant first.0)
    (all_turns (turn_chained level operand) first.1))

-- [expr {"," expr}], and then the mark that closes the list
abbrev pub read_list : Mark → Reader Expr → Reader (List Expr)
read_list close choice =
    where_marked close (at_once [])
    (λ lexemes. closed_by close (parted (the_symbol symbol.Comma) choice lexemes))

-- mem = (word | text) ":" expr
abbrev pub read_member : Reader Expr → Reader (Member Expr)
read_member choice lexemes =
    and_then (take_label lexemes) (λ label. changed
    (λ x. record { name = label.0; value = x })
    (behind_mark (the_symbol symbol.Colon) choice label.1))

-- [mem {"," mem}] "}"
abbrev pub read_members : Reader Expr → Reader (List (Member Expr))
read_members choice =
    where_marked (the_symbol symbol.CloseBrace) (at_once [])
    (λ lexemes. closed_by (the_symbol symbol.CloseBrace)
    (parted (the_symbol symbol.Comma) (read_member choice) lexemes))

-- a list of at most so many elements as may be written
abbrev pub within_limit : {X : Type 0} → Option (List X × List Lexeme)
    → Option (List X × List Lexeme)
within_limit None = None
within_limit (Some found) = provided (nat_le (length found.0) most_items) (Some found)

abbrev pub literal : Tree → Expr
literal value = expr.Literal (Defined value)

abbrev pub constant_of : Keyword → Option Expr
constant_of keyword.Null = Some (literal tree.Null)
constant_of keyword.True = Some (literal (tree.Truth true))
constant_of keyword.False = Some (literal (tree.Truth false))
constant_of keyword.Undefined = Some (expr.Literal Undefined)
constant_of _ = None

-- what stands behind "(" of a function or an aggregate
abbrev pub read_call : Reader Expr → Option Callee → Reader Expr
read_call choice None lexemes = None
read_call choice (Some (a_function func)) lexemes =
    and_then (read_list (the_symbol symbol.CloseParenthesis) choice lexemes) (λ args.
    provided (takes func (length args.0)) (Some (expr.Call func args.0, args.1)))
read_call choice (Some (an_aggregate aggregate)) lexemes =
    changed (expr.Total aggregate)
    (closed_by (the_symbol symbol.CloseParenthesis) (choice lexemes))

-- what stands behind an opening bracket
abbrev pub read_bracketed : Reader Expr → Symbol → Reader Expr
read_bracketed choice symbol.OpenParenthesis lexemes =
    closed_by (the_symbol symbol.CloseParenthesis) (choice lexemes)
read_bracketed choice symbol.OpenBracket lexemes =
    changed expr.List (within_limit
    (read_list (the_symbol symbol.CloseBracket) choice lexemes))
read_bracketed choice symbol.OpenBrace lexemes =
    changed expr.Object (within_limit (read_members choice lexemes))
read_bracketed choice _ lexemes = None

-- the atom that a lexeme begins
abbrev pub atom_from : List (Member Tree) → Reader Expr → Lexeme → Reader Expr
atom_from params choice (Lexeme.name word) =
    where_marked (the_symbol symbol.OpenParenthesis) (read_call choice (callee_of word))
    (at_once (expr.Alias word))
atom_from params choice (Lexeme.keyword which word) =
    λ rest. option_map (λ x. (x, rest)) (constant_of which)
atom_from params choice (Lexeme.parameter word) =
    λ rest. option_map (λ value. (literal value, rest)) (parameter_of params word)
atom_from params choice (Lexeme.text value) = at_once (literal (tree.Text value))
atom_from params choice (Lexeme.number value) =
    λ rest. provided (nat_le value greatest_literal)
    (Some (literal (tree.Number (pos value)), rest))
atom_from params choice (Lexeme.symbol which) = read_bracketed choice which
atom_from params choice (Lexeme.nothing kind) = nothing_read

abbrev pub read_atom : List (Member Tree) → Reader Expr → Reader Expr
read_atom params choice [] = None
read_atom params choice (first ∷ rest) = atom_from params choice first rest

-- atom {step}
abbrev pub read_postfix : Reader Expr → Reader Expr
read_postfix atom lexemes =
    and_then (atom lexemes) (λ first. changed (stepped_of first.0) (read_steps first.1))

-- does the number stand first that is a literal only behind a minus, with no step behind it
abbrev pub begins_least : List Lexeme → Bool
begins_least (Lexeme.number value ∷ rest) = value == least_magnitude && not (begins_step rest)
begins_least _ = false

abbrev pub is_minus : UnaryOp → Bool
is_minus unary_op.Minus = true
is_minus unary_op.Plus = false
is_minus unary_op.Not = false

-- what stands behind a sign, read by the level of signs
abbrev pub after_sign : Bool → UnaryOp → Reader Expr → Reader Expr
after_sign true operator sign [] = None
after_sign true operator sign (first ∷ rest) = Some (literal (tree.Number least_literal), rest)
after_sign false operator sign lexemes = changed (expr.Sign operator) (sign lexemes)

abbrev pub read_signed : Reader Expr → UnaryOp → Reader Expr
read_signed sign operator lexemes =
    after_sign (is_minus operator && begins_least lexemes) operator sign lexemes

-- ("-" | "+") sign | post
abbrev pub sign_or_postfix : (UnaryOp → Reader Expr) → Reader Expr
    → Option (UnaryOp × List Lexeme) → Reader Expr
sign_or_postfix signed postfix (Some found) lexemes = signed found.0 found.1
sign_or_postfix signed postfix None lexemes = postfix lexemes

abbrev pub read_sign : (UnaryOp → Reader Expr) → Reader Expr → Reader Expr
read_sign signed postfix lexemes =
    sign_or_postfix signed postfix (take_operator sign_of lexemes) lexemes

-- what stands behind `x IN`, `x BETWEEN` and `x LIKE`
abbrev pub read_among : Reader Expr → Bool → Expr → Reader Expr
read_among choice negated x =
    behind_mark (the_symbol symbol.OpenParenthesis) (λ lexemes. changed (expr.Among negated x)
    (closed_by (the_symbol symbol.CloseParenthesis)
    (within_limit (parted (the_symbol symbol.Comma) choice lexemes))))

abbrev pub read_between : Reader Expr → Bool → Expr → Reader Expr
read_between concatenation negated x lexemes =
    and_then (concatenation lexemes) (λ low. changed (expr.Between negated x low.0)
    (behind_mark (the_keyword keyword.And) concatenation low.1))

abbrev pub read_like : Reader Expr → Bool → Expr → Reader Expr
read_like concatenation negated x lexemes =
    changed (expr.Like negated x) (concatenation lexemes)

-- IN, BETWEEN or LIKE behind `x` or `x NOT`, or something else
abbrev pub read_predicate : Reader Expr → Reader Expr → Bool → Expr → Reader Expr → Reader Expr
read_predicate choice concatenation negated x else_way =
    where_marked (the_keyword keyword.In) (read_among choice negated x)
    (where_marked (the_keyword keyword.Between) (read_between concatenation negated x)
    (where_marked (the_keyword keyword.Like) (read_like concatenation negated x) else_way))

abbrev pub compare_or_predicate : Reader Expr → Reader Expr → Expr
    → Option (BinaryOp × List Lexeme) → Reader Expr
compare_or_predicate choice concatenation x (Some found) lexemes =
    changed (expr.Compare found.0 x) (concatenation found.1)
compare_or_predicate choice concatenation x None lexemes =
    where_marked (the_keyword keyword.Not)
    (read_predicate choice concatenation true x nothing_read)
    (read_predicate choice concatenation false x (at_once x)) lexemes

-- cat [relop cat | [NOT] IN .. | [NOT] BETWEEN .. | [NOT] LIKE ..]
abbrev pub read_comparison : Reader Expr → Reader Expr → Reader Expr
read_comparison choice concatenation lexemes =
    and_then (concatenation lexemes) (λ left.
    compare_or_predicate choice concatenation left.0
    (take_operator comparison_of left.1) left.1)

-- NOT not | compare
abbrev pub read_negation : Reader Expr → Reader Expr → Reader Expr
read_negation denied comparison = where_marked (the_keyword keyword.Not) denied comparison

-- what stands behind `test ?`
abbrev pub read_branches : Reader Expr → Expr → Reader Expr
read_branches choice test lexemes =
    and_then (choice lexemes) (λ first. changed (expr.Choice test first.0)
    (behind_mark (the_symbol symbol.Colon) choice first.1))

-- coal ["?" choice ":" choice], the branches read by another reader
abbrev pub read_choice : Reader Expr → Reader Expr → Reader Expr
read_choice coalesce choice lexemes =
    and_then (coalesce lexemes) (λ test.
    where_marked (the_symbol symbol.Question) (read_branches choice test.0) (at_once test.0) test.1)

-- The productions that step the nesting, as they may stand inside: an expression, what is behind
-- NOT, and what is behind a sign.
pub record Inner : Type 0 where
  pub choice : Reader Expr
  pub denied : Reader Expr
  pub signed : UnaryOp → Reader Expr

-- the levels over these
abbrev pub postfix_over : List (Member Tree) → Inner → Reader Expr
postfix_over params inner = read_postfix (read_atom params inner.choice)

abbrev pub sign_over : List (Member Tree) → Inner → Reader Expr
sign_over params inner = read_sign inner.signed (postfix_over params inner)

abbrev pub product_over : List (Member Tree) → Inner → Reader Expr
product_over params inner = read_operated expr.Product Level.sign (sign_over params inner)

abbrev pub sum_over : List (Member Tree) → Inner → Reader Expr
sum_over params inner = read_operated expr.Sum Level.product (product_over params inner)

abbrev pub concatenation_over : List (Member Tree) → Inner → Reader Expr
concatenation_over params inner =
    read_chain expr.Join (the_symbol symbol.Join) (sum_over params inner)

abbrev pub comparison_over : List (Member Tree) → Inner → Reader Expr
comparison_over params inner = read_comparison inner.choice (concatenation_over params inner)

abbrev pub negation_over : List (Member Tree) → Inner → Reader Expr
negation_over params inner = read_negation inner.denied (comparison_over params inner)

abbrev pub conjunction_over : List (Member Tree) → Inner → Reader Expr
conjunction_over params inner =
    read_chain expr.And (the_keyword keyword.And) (negation_over params inner)

abbrev pub disjunction_over : List (Member Tree) → Inner → Reader Expr
disjunction_over params inner =
    read_chain expr.Or (the_keyword keyword.Or) (conjunction_over params inner)

abbrev pub coalesce_over : List (Member Tree) → Inner → Reader Expr
coalesce_over params inner =
    read_chain expr.Coalesce (the_symbol symbol.Coalesce) (disjunction_over params inner)

abbrev pub level_over : List (Member Tree) → Level → Inner → Reader Expr
level_over params Level.choice inner = inner.choice
level_over params Level.coalesce inner = coalesce_over params inner
level_over params Level.disjunction inner = disjunction_over params inner
level_over params Level.conjunction inner = conjunction_over params inner
level_over params Level.negation inner = negation_over params inner
level_over params Level.comparison inner = comparison_over params inner
level_over params Level.concatenation inner = concatenation_over params inner
level_over params Level.sum inner = sum_over params inner
level_over params Level.product inner = product_over params inner
level_over params Level.sign inner = sign_over params inner
level_over params Level.postfix inner = postfix_over params inner
level_over params Level.atom inner = read_atom params inner.choice

-- nothing may stand inside any more
abbrev pub innermost : Inner
innermost =
    record { choice = nothing_read; denied = nothing_read; signed = λ operator. nothing_read }

-- one more may
abbrev pub inner_over : List (Member Tree) → Inner → Inner
inner_over params inner =
    record {
      choice = read_choice (coalesce_over params inner) inner.choice;
      denied = λ lexemes. changed expr.Not (negation_over params inner lexemes);
      signed = read_signed (sign_over params inner);
    }

-- so many may
unfoldable pub inner_at : List (Member Tree) → ℕ → Inner
inner_at params zero = innermost
inner_at params (suc n) = inner_over params (inner_at params n)

-- the reader of a level, where so many may stand inside
abbrev pub read_level : List (Member Tree) → ℕ → Level → Reader Expr
read_level params n level = level_over params level (inner_at params n)

-- expr, where so much nesting is left as a query has
abbrev pub read_expr : List (Member Tree) → Reader Expr
read_expr params = read_level params most_nesting Level.choice
