-- The grammar of expressions: at each level, which expression stands between what is before and
-- what is after it. `n` is how many choices, NOTs and signs may still stand inside one another. A
-- parameter is the literal of its value.
-- A list of lexemes is named by what stands first in it: mark, word and name are the lists from
-- there on.
use Rattle.std.specs.Prelude.{◌≡◌, ℕ, suc, ◌≤◌, pos, List, [], ◌∷◌, length, Bool, true, false, Some}
use Rattle.ax_lex.specs.declared.keyword.Keyword.TheVariants as keyword
use Rattle.ax_lex.specs.declared.symbol.Symbol.{Symbol}
use Rattle.ax_lex.specs.declared.symbol.Symbol.TheVariants as symbol
use Rattle.ax_lex.specs.Lexeme.{Lexeme}
use Rattle.ax_tree.specs.declared.members.Member.{Member}
use Rattle.ax_tree.specs.declared.tree.Tree.{Tree}
use Rattle.ax_tree.specs.declared.tree.Tree.TheVariants as tree
use Rattle.ax_mean.specs.declared.expr.Chained.{Chained}
use Rattle.ax_mean.specs.declared.expr.Expr.{Expr}
use Rattle.ax_mean.specs.declared.expr.Expr.TheVariants as expr
use Rattle.ax_mean.specs.declared.expr.QueryStep.{QueryStep}
use Rattle.ax_mean.specs.declared.operator.Aggregate.{Aggregate}
use Rattle.ax_mean.specs.declared.operator.BinaryOp.{BinaryOp}
use Rattle.ax_mean.specs.declared.operator.Func.{Func}
use Rattle.ax_mean.specs.declared.operator.UnaryOp.{UnaryOp}
use Rattle.ax_mean.specs.declared.value.Value.TheVariants.{Undefined, Defined}
use Rattle.ax_mean.specs.Functions.{takes}
use Rattle.ax_grammar.specs.Levels.{Level}
use Rattle.ax_grammar.specs.Levels.Level.{choice, coalesce, disjunction, conjunction, negation, comparison, concatenation, sum, product, sign, postfix, atom}
use Rattle.ax_grammar.specs.Steps.{AreSteps}
use Rattle.ax_grammar.specs.Tables.Callee.{a_function, an_aggregate}
use Rattle.ax_grammar.specs.Tables.{most_items, most_nesting, greatest_literal, least_magnitude, least_literal, comparison_of, operator_before, sign_of, callee_of, parameter_of}
use Rattle.ax_grammar.specs.Fronts.{begins_step, begins_with}
use Rattle.ax_grammar.specs.Takes.{Mark, Takes, TakesSymbol, TakesKeyword, TakesName, TakesText, TakesNumber, TakesParameter, TakesLabel}
use Rattle.ax_grammar.specs.Takes.Mark.{the_symbol, the_keyword}

-- [NOT]
pub data MayBeNegated : (negated : Bool) (before after : List Lexeme) → Type 0 where
  plain : {after : List Lexeme} → MayBeNegated false after after
  negated : {before after : List Lexeme} → TakesKeyword keyword.Not before after
      → MayBeNegated true before after

mutual
  pub data IsExpr (params : List (Member Tree)) : (n : ℕ) (level : Level) (before : List Lexeme)
      (x : Expr) (after : List Lexeme) → Type 0 where
    -- choice = coal
    plain_choice : {n : ℕ} {x : Expr} {before after : List Lexeme}
        → IsExpr params n coalesce before x after
        → IsExpr params (suc n) choice before x after
    -- choice = coal "?" choice ":" choice
    chosen : {n : ℕ} {test yes_branch no_branch : Expr}
        {before mark then_part colon else_part after : List Lexeme}
        → IsExpr params n coalesce before test mark → TakesSymbol symbol.Question mark then_part
        → IsExpr params n choice then_part yes_branch colon
        → TakesSymbol symbol.Colon colon else_part
        → IsExpr params n choice else_part no_branch after
        → IsExpr params (suc n) choice before (expr.Choice test yes_branch no_branch) after
    -- coal = or
    plain_coalesce : {n : ℕ} {x : Expr} {before after : List Lexeme}
        → IsExpr params n disjunction before x after
        → IsExpr params n coalesce before x after
    -- coal = or "??" or {"??" or}
    coalesced : {n : ℕ} {x y : Expr} {ys : List Expr} {before between after : List Lexeme}
        → IsExpr params n disjunction before x between
        → Follow params n disjunction (the_symbol symbol.Coalesce) between (y ∷ ys) after
        → IsExpr params n coalesce before (expr.Coalesce (x ∷ y ∷ ys)) after
    -- or = and
    plain_disjunction : {n : ℕ} {x : Expr} {before after : List Lexeme}
        → IsExpr params n conjunction before x after
        → IsExpr params n disjunction before x after
    -- or = and OR and {OR and}
    disjoined : {n : ℕ} {x y : Expr} {ys : List Expr} {before between after : List Lexeme}
        → IsExpr params n conjunction before x between
        → Follow params n conjunction (the_keyword keyword.Or) between (y ∷ ys) after
        → IsExpr params n disjunction before (expr.Or (x ∷ y ∷ ys)) after
    -- and = not
    plain_conjunction : {n : ℕ} {x : Expr} {before after : List Lexeme}
        → IsExpr params n negation before x after
        → IsExpr params n conjunction before x after
    -- and = not AND not {AND not}
    conjoined : {n : ℕ} {x y : Expr} {ys : List Expr} {before between after : List Lexeme}
        → IsExpr params n negation before x between
        → Follow params n negation (the_keyword keyword.And) between (y ∷ ys) after
        → IsExpr params n conjunction before (expr.And (x ∷ y ∷ ys)) after
    -- not = compare
    plain_negation : {n : ℕ} {x : Expr} {before after : List Lexeme}
        → IsExpr params n comparison before x after
        → IsExpr params n negation before x after
    -- not = NOT not
    denied : {n : ℕ} {x : Expr} {before between after : List Lexeme}
        → TakesKeyword keyword.Not before between → IsExpr params n negation between x after
        → IsExpr params (suc n) negation before (expr.Not x) after
    -- compare = cat
    plain_comparison : {n : ℕ} {x : Expr} {before after : List Lexeme}
        → IsExpr params n concatenation before x after
        → IsExpr params n comparison before x after
    -- compare = cat relop cat
    compared : {n : ℕ} {which : Symbol} {operator : BinaryOp} {x y : Expr}
        {before mark between after : List Lexeme}
        → IsExpr params n concatenation before x mark → TakesSymbol which mark between
        → comparison_of which ≡ Some operator → IsExpr params n concatenation between y after
        → IsExpr params n comparison before (expr.Compare operator x y) after
    -- compare = cat [NOT] IN "(" expr {"," expr} ")"
    among : {n : ℕ} {negated : Bool} {x item : Expr} {items : List Expr}
        {before mark word bracket first more end after : List Lexeme}
        → IsExpr params n concatenation before x mark → MayBeNegated negated mark word
        → TakesKeyword keyword.In word bracket → TakesSymbol symbol.OpenParenthesis bracket first
        → IsExpr params n choice first item more
        → Follow params n choice (the_symbol symbol.Comma) more items end
        → length (item ∷ items) ≤ most_items → TakesSymbol symbol.CloseParenthesis end after
        → IsExpr params n comparison before (expr.Among negated x (item ∷ items)) after
    -- compare = cat [NOT] BETWEEN cat AND cat
    ranged : {n : ℕ} {negated : Bool} {x low high : Expr}
        {before mark word first mid second after : List Lexeme}
        → IsExpr params n concatenation before x mark → MayBeNegated negated mark word
        → TakesKeyword keyword.Between word first → IsExpr params n concatenation first low mid
        → TakesKeyword keyword.And mid second → IsExpr params n concatenation second high after
        → IsExpr params n comparison before (expr.Between negated x low high) after
    -- compare = cat [NOT] LIKE cat
    like : {n : ℕ} {negated : Bool} {x pattern_part : Expr}
        {before mark word second after : List Lexeme}
        → IsExpr params n concatenation before x mark → MayBeNegated negated mark word
        → TakesKeyword keyword.Like word second
        → IsExpr params n concatenation second pattern_part after
        → IsExpr params n comparison before (expr.Like negated x pattern_part) after
    -- cat = sum
    plain_concatenation : {n : ℕ} {x : Expr} {before after : List Lexeme}
        → IsExpr params n sum before x after
        → IsExpr params n concatenation before x after
    -- cat = sum "||" sum {"||" sum}
    concatenated : {n : ℕ} {x y : Expr} {ys : List Expr} {before between after : List Lexeme}
        → IsExpr params n sum before x between
        → Follow params n sum (the_symbol symbol.Join) between (y ∷ ys) after
        → IsExpr params n concatenation before (expr.Join (x ∷ y ∷ ys)) after
    -- sum = prod
    plain_sum : {n : ℕ} {x : Expr} {before after : List Lexeme}
        → IsExpr params n product before x after
        → IsExpr params n sum before x after
    -- sum = prod ("+" | "-") prod {("+" | "-") prod}
    summed : {n : ℕ} {x : Expr} {c : Chained Expr} {cs : List (Chained Expr)}
        {before between after : List Lexeme}
        → IsExpr params n product before x between
        → AreChained params n product between (c ∷ cs) after
        → IsExpr params n sum before (expr.Sum x (c ∷ cs)) after
    -- prod = sign
    plain_product : {n : ℕ} {x : Expr} {before after : List Lexeme}
        → IsExpr params n sign before x after
        → IsExpr params n product before x after
    -- prod = sign ("*" | "/" | "%") sign {("*" | "/" | "%") sign}
    multiplied : {n : ℕ} {x : Expr} {c : Chained Expr} {cs : List (Chained Expr)}
        {before between after : List Lexeme}
        → IsExpr params n sign before x between
        → AreChained params n sign between (c ∷ cs) after
        → IsExpr params n product before (expr.Product x (c ∷ cs)) after
    -- sign = post
    plain_sign : {n : ℕ} {x : Expr} {before after : List Lexeme}
        → IsExpr params n postfix before x after
        → IsExpr params n sign before x after
    -- sign = ("-" | "+") sign
    signed : {n : ℕ} {which : Symbol} {operator : UnaryOp} {x : Expr}
        {before between after : List Lexeme}
        → TakesSymbol which before between → sign_of which ≡ Some operator
        → IsExpr params n sign between x after
        → IsExpr params (suc n) sign before (expr.Sign operator x) after
    -- sign = "-" number, the two together the least literal, where no step follows
    least : {n value : ℕ} {before between after : List Lexeme}
        → TakesSymbol symbol.Minus before between → TakesNumber value between after
        → value ≡ least_magnitude → begins_step after ≡ false
        → IsExpr params (suc n) sign before
        (expr.Literal (Defined (tree.Number least_literal))) after
    -- post = atom
    plain_postfix : {n : ℕ} {x : Expr} {before after : List Lexeme}
        → IsExpr params n atom before x after
        → IsExpr params n postfix before x after
    -- post = atom step {step}
    stepped : {n : ℕ} {x : Expr} {step : QueryStep} {steps : List QueryStep}
        {before between after : List Lexeme}
        → IsExpr params n atom before x between → AreSteps (step ∷ steps) between after
        → IsExpr params n postfix before (expr.Steps x (step ∷ steps)) after
    -- atom = NULL
    null : {n : ℕ} {before after : List Lexeme} → TakesKeyword keyword.Null before after
        → IsExpr params n atom before (expr.Literal (Defined tree.Null)) after
    -- atom = TRUE
    true_value : {n : ℕ} {before after : List Lexeme} → TakesKeyword keyword.True before after
        → IsExpr params n atom before (expr.Literal (Defined (tree.Truth true))) after
    -- atom = FALSE
    false_value : {n : ℕ} {before after : List Lexeme} → TakesKeyword keyword.False before after
        → IsExpr params n atom before (expr.Literal (Defined (tree.Truth false))) after
    -- atom = UNDEFINED
    undefined : {n : ℕ} {before after : List Lexeme} → TakesKeyword keyword.Undefined before after
        → IsExpr params n atom before (expr.Literal Undefined) after
    -- atom = number
    number_value : {n value : ℕ} {before after : List Lexeme} → TakesNumber value before after
        → value ≤ greatest_literal
        → IsExpr params n atom before (expr.Literal (Defined (tree.Number (pos value)))) after
    -- atom = text
    text_value : {n : ℕ} {value : List ℕ} {before after : List Lexeme}
        → TakesText value before after
        → IsExpr params n atom before (expr.Literal (Defined (tree.Text value))) after
    -- atom = parameter
    parameter_value : {n : ℕ} {word : List ℕ} {value : Tree} {before after : List Lexeme}
        → TakesParameter word before after → parameter_of params word ≡ Some value
        → IsExpr params n atom before (expr.Literal (Defined value)) after
    -- atom = name "(" [expr {"," expr}] ")", the name of a function of so many arguments
    called : {n : ℕ} {word : List ℕ} {func : Func} {args : List Expr}
        {before bracket inside after : List Lexeme}
        → TakesName word before bracket → callee_of word ≡ Some (a_function func)
        → TakesSymbol symbol.OpenParenthesis bracket inside
        → AreListed params n (the_symbol symbol.CloseParenthesis) inside args after
        → takes func (length args) ≡ true
        → IsExpr params n atom before (expr.Call func args) after
    -- atom = name "(" expr ")", the name of an aggregate
    totalled : {n : ℕ} {word : List ℕ} {aggregate : Aggregate} {x : Expr}
        {before bracket inside end after : List Lexeme}
        → TakesName word before bracket → callee_of word ≡ Some (an_aggregate aggregate)
        → TakesSymbol symbol.OpenParenthesis bracket inside
        → IsExpr params n choice inside x end → TakesSymbol symbol.CloseParenthesis end after
        → IsExpr params n atom before (expr.Total aggregate x) after
    -- atom = name, where no "(" follows
    alias : {n : ℕ} {word : List ℕ} {before after : List Lexeme} → TakesName word before after
        → begins_with symbol.OpenParenthesis after ≡ false
        → IsExpr params n atom before (expr.Alias word) after
    -- atom = "(" expr ")"
    bracketed : {n : ℕ} {x : Expr} {before inside end after : List Lexeme}
        → TakesSymbol symbol.OpenParenthesis before inside → IsExpr params n choice inside x end
        → TakesSymbol symbol.CloseParenthesis end after
        → IsExpr params n atom before x after
    -- atom = "[" [expr {"," expr}] "]"
    listed : {n : ℕ} {items : List Expr} {before inside after : List Lexeme}
        → TakesSymbol symbol.OpenBracket before inside
        → AreListed params n (the_symbol symbol.CloseBracket) inside items after
        → length items ≤ most_items
        → IsExpr params n atom before (expr.List items) after
    -- atom = "{" [mem {"," mem}] "}"
    mapped : {n : ℕ} {members : List (Member Expr)} {before inside after : List Lexeme}
        → TakesSymbol symbol.OpenBrace before inside
        → AreMembers params n inside members after
        → length members ≤ most_items
        → IsExpr params n atom before (expr.Object members) after

  -- {mark operand}: operands of a level, each behind the mark
  pub data Follow (params : List (Member Tree)) : (n : ℕ) (operand : Level) (mark : Mark)
      (before : List Lexeme) (xs : List Expr) (after : List Lexeme) → Type 0 where
    followed_by_none : {n : ℕ} {operand : Level} {mark : Mark} {after : List Lexeme}
        → Follow params n operand mark after [] after
    followed_by : {n : ℕ} {operand : Level} {mark : Mark} {x : Expr} {xs : List Expr}
        {before between next after : List Lexeme}
        → Takes mark before between → IsExpr params n operand between x next
        → Follow params n operand mark next xs after
        → Follow params n operand mark before (x ∷ xs) after

  -- {operator operand}: operands of a level, each with the operator before it
  pub data AreChained (params : List (Member Tree)) : (n : ℕ) (operand : Level)
      (before : List Lexeme) (cs : List (Chained Expr)) (after : List Lexeme) → Type 0 where
    chain_ended : {n : ℕ} {operand : Level} {after : List Lexeme}
        → AreChained params n operand after [] after
    chain_goes_on : {n : ℕ} {operand : Level} {which : Symbol} {operator : BinaryOp} {x : Expr}
        {cs : List (Chained Expr)} {before between next after : List Lexeme}
        → TakesSymbol which before between → operator_before operand which ≡ Some operator
        → IsExpr params n operand between x next → AreChained params n operand next cs after
        → AreChained params n operand before (record { op = operator; operand = x } ∷ cs) after

  -- [expr {"," expr}], and then the mark that closes the list
  pub data AreListed (params : List (Member Tree)) : (n : ℕ) (close : Mark)
      (before : List Lexeme) (xs : List Expr) (after : List Lexeme) → Type 0 where
    empty_list : {n : ℕ} {close : Mark} {before after : List Lexeme} → Takes close before after
        → AreListed params n close before [] after
    full_list : {n : ℕ} {close : Mark} {x : Expr} {xs : List Expr}
        {before between end after : List Lexeme}
        → IsExpr params n choice before x between
        → Follow params n choice (the_symbol symbol.Comma) between xs end
        → Takes close end after → AreListed params n close before (x ∷ xs) after

  -- mem = (word | text) ":" expr
  pub data IsMember (params : List (Member Tree)) : (n : ℕ)
      (before : List Lexeme) (m : Member Expr) (after : List Lexeme) → Type 0 where
    labelled : {n : ℕ} {label : List ℕ} {x : Expr} {before colon between after : List Lexeme}
        → TakesLabel label before colon → TakesSymbol symbol.Colon colon between
        → IsExpr params n choice between x after
        → IsMember params n before (record { name = label; value = x }) after

  -- {"," mem}
  pub data MembersFollow (params : List (Member Tree)) : (n : ℕ)
      (before : List Lexeme) (ms : List (Member Expr)) (after : List Lexeme) → Type 0 where
    no_member_follows : {n : ℕ} {after : List Lexeme} → MembersFollow params n after [] after
    member_follows : {n : ℕ} {m : Member Expr} {ms : List (Member Expr)}
        {before between next after : List Lexeme}
        → TakesSymbol symbol.Comma before between → IsMember params n between m next
        → MembersFollow params n next ms after → MembersFollow params n before (m ∷ ms) after

  -- [mem {"," mem}] "}"
  pub data AreMembers (params : List (Member Tree)) : (n : ℕ)
      (before : List Lexeme) (ms : List (Member Expr)) (after : List Lexeme) → Type 0 where
    empty_map : {n : ℕ} {before after : List Lexeme} → TakesSymbol symbol.CloseBrace before after
        → AreMembers params n before [] after
    full_map : {n : ℕ} {m : Member Expr} {ms : List (Member Expr)}
        {before between end after : List Lexeme}
        → IsMember params n before m between → MembersFollow params n between ms end
        → TakesSymbol symbol.CloseBrace end after → AreMembers params n before (m ∷ ms) after

-- expr, where so much nesting is left as a query has
abbrev pub IsWholeExpr : List (Member Tree) → List Lexeme → Expr → List Lexeme → Type 0
IsWholeExpr params = IsExpr params most_nesting choice
