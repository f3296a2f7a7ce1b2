-- Each level of expressions above the atoms: where the levels within read what is written, so does
-- the level.
use Rattle.std.proofs.Common.{◌≡◌, ℕ, suc, ◌≤◌, Bool, false, nat_le, List, [], ◌∷◌, length, Some, None, refl, ap, ◌∙◌, le-leb, eq-eqb}
use Rattle.ax_lex.specs.declared.keyword.Keyword.{Keyword}
use Rattle.ax_lex.specs.declared.keyword.Keyword.TheVariants as keyword
use Rattle.ax_lex.specs.declared.symbol.Symbol.{Symbol}
use Rattle.ax_lex.specs.declared.symbol.Symbol.TheVariants as symbol
use Rattle.ax_lex.specs.Lexeme.{Lexeme}
use Rattle.ax_mean.specs.declared.expr.Chained.{Chained}
use Rattle.ax_mean.specs.declared.expr.Expr.{Expr}
use Rattle.ax_mean.specs.declared.expr.Expr.TheVariants as expr
use Rattle.ax_mean.specs.declared.expr.QueryStep.{QueryStep}
use Rattle.ax_mean.specs.declared.operator.BinaryOp.{BinaryOp}
use Rattle.ax_mean.specs.declared.operator.UnaryOp.{UnaryOp}
use Rattle.ax_mean.specs.declared.operator.UnaryOp.TheVariants as unary_op
use Rattle.ax_tree.specs.declared.members.Member.{Member}
use Rattle.ax_tree.specs.declared.tree.Tree.{Tree}
use Rattle.ax_tree.specs.declared.tree.Tree.TheVariants as tree
use Rattle.ax_grammar.specs.Expressions.{MayBeNegated}
use Rattle.ax_grammar.specs.Expressions.MayBeNegated.{plain, negated as with_not}
use Rattle.ax_grammar.specs.ExprReader.{chain_of, read_chain, read_operated, turn_chained, read_choice, read_comparison, compare_or_predicate, read_among, read_between, read_like, read_negation, read_sign, read_signed, read_postfix, begins_least, literal, inner_at, read_level}
use Rattle.ax_grammar.specs.Fronts.{begins_step, symbol_reach, keyword_reach, extends}
use Rattle.ax_grammar.specs.Levels.{Level, distance}
use Rattle.ax_grammar.specs.Reading.{Reader, changed, marked, take, take_operator, all_turns, parted}
use Rattle.ax_grammar.specs.Reading.Turn.{ended, went_on}
use Rattle.ax_grammar.specs.StepReader.{read_steps}
use Rattle.ax_grammar.specs.Tables.{most_items, least_magnitude, least_literal, comparison_of, additive_of, multiplicative_of, operator_before, sign_of}
use Rattle.ax_grammar.specs.Takes.{Mark, TakesSymbol, TakesKeyword, TakesNumber}
use Rattle.ax_grammar.specs.Takes.Mark.{the_symbol, the_keyword}
use Rattle.ax_grammar.specs.Takes.Takes.{keyword_first}
use Rattle.ax_grammar.specs.Takes.TakesNumber.{number_first}
use Rattle.ax_grammar.proofs.CompleteTurns.{found, Reads, Turns, all_read, no_marked_turn, parted_read}
use Rattle.ax_grammar.proofs.CompleteTurns.Turns.{no_turn}
use Rattle.ax_grammar.proofs.FrontsExpr.{not_least}
use Rattle.ax_grammar.proofs.FrontsMarks.{operator_taken, no_operator, outside_extends, not_taken_behind}
use Rattle.ax_grammar.proofs.Marks.{take_complete}

-- ---- chains behind one mark

pub chain_alone : {operand : Reader Expr} (variant : List Expr → Expr) (mark : Mark)
    {before : List Lexeme} {x : Expr} {after : List Lexeme} → Reads operand before x after
    → take mark after ≡ None → Reads (read_chain variant mark operand) before x after
chain_alone {operand} variant mark {before} {x} {after} r e =
    record {
      so = ap (changed (chain_of variant))
          (parted_read mark r (no_turn (no_marked_turn operand mark after e))).so;
    }

pub chain_longer : {operand : Reader Expr} (variant : List Expr → Expr) (mark : Mark)
    {before between : List Lexeme} {x y : Expr} {ys : List Expr} {after : List Lexeme}
    → Reads operand before x between → Turns (marked mark operand) between (y ∷ ys) after
    → Reads (read_chain variant mark operand) before (variant (x ∷ y ∷ ys)) after
chain_longer variant mark r t =
    record { so = ap (changed (chain_of variant)) (parted_read mark r t).so }

-- ---- sums and products

additive_outside : (which : Symbol) (operator : BinaryOp) → additive_of which ≡ Some operator
    → nat_le (symbol_reach which) 3 ≡ false
additive_outside symbol.Plus operator e = refl
additive_outside symbol.Minus operator e = refl
additive_outside _ operator e = absurd (cc)

multiplicative_outside : (which : Symbol) (operator : BinaryOp)
    → multiplicative_of which ≡ Some operator → nat_le (symbol_reach which) 2 ≡ false
multiplicative_outside symbol.Star operator e = refl
multiplicative_outside symbol.Slash operator e = refl
multiplicative_outside symbol.Percent operator e = refl
multiplicative_outside _ operator e = absurd (cc)

-- an operator goes on no operand of its level
pub operator_outside : (level : Level) (which : Symbol) (operator : BinaryOp)
    → operator_before level which ≡ Some operator
    → nat_le (symbol_reach which) (distance level) ≡ false
operator_outside Level.product which operator e = additive_outside which operator e
operator_outside Level.sign which operator e = multiplicative_outside which operator e
operator_outside _ which operator e = absurd (cc)

additive_none : (which : Symbol) → nat_le (symbol_reach which) 4 ≡ false
    → additive_of which ≡ None
additive_none symbol.Plus e = absurd (cc)
additive_none symbol.Minus e = absurd (cc)
additive_none _ e = refl

multiplicative_none : (which : Symbol) → nat_le (symbol_reach which) 3 ≡ false
    → multiplicative_of which ≡ None
multiplicative_none symbol.Star e = absurd (cc)
multiplicative_none symbol.Slash e = absurd (cc)
multiplicative_none symbol.Percent e = absurd (cc)
multiplicative_none _ e = refl

pub no_additive : (after : List Lexeme) → extends Level.sum after ≡ false
    → take_operator (operator_before Level.product) after ≡ None
no_additive after e = no_operator additive_of Level.sum after additive_none e

pub no_multiplicative : (after : List Lexeme) → extends Level.product after ≡ false
    → take_operator (operator_before Level.sign) after ≡ None
no_multiplicative after e = no_operator multiplicative_of Level.product after multiplicative_none e

pub no_chained_turn : (level : Level) (operand : Reader Expr) (after : List Lexeme)
    → take_operator (operator_before level) after ≡ None
    → turn_chained level operand after ≡ ended
no_chained_turn level operand after e = rw e refl

pub chained_turn : {operand : Reader Expr} (level : Level) {which : Symbol}
    {operator : BinaryOp} {before between : List Lexeme} {x : Expr} {after : List Lexeme}
    → TakesSymbol which before between → operator_before level which ≡ Some operator
    → Reads operand between x after
    → turn_chained level operand before ≡ went_on (record { op = operator; operand = x }) after
chained_turn level m e r = rw (operator_taken (operator_before level) m e, r.so) refl

pub operated_alone : {operand : Reader Expr} (variant : Expr → List (Chained Expr) → Expr)
    (level : Level) {before : List Lexeme} {x : Expr} {after : List Lexeme}
    → Reads operand before x after → take_operator (operator_before level) after ≡ None
    → Reads (read_operated variant level operand) before x after
operated_alone {operand} variant level {before} {x} {after} r e =
    let none : Reads (all_turns (turn_chained level operand)) after [] after =
    all_read (no_turn (no_chained_turn level operand after e)) in
    record { so = rw (r.so, none.so) refl }

pub operated_longer : {operand : Reader Expr} (variant : Expr → List (Chained Expr) → Expr)
    (level : Level) {before between : List Lexeme} {x : Expr} {c : Chained Expr}
    {cs : List (Chained Expr)} {after : List Lexeme} → Reads operand before x between
    → Turns (turn_chained level operand) between (c ∷ cs) after
    → Reads (read_operated variant level operand) before (variant x (c ∷ cs)) after
operated_longer variant level r t = record { so = rw (r.so, (all_read t).so) refl }

-- ---- choices

pub choice_alone : {coalesce : Reader Expr} (choice : Reader Expr) {before : List Lexeme}
    {x : Expr} {after : List Lexeme} → Reads coalesce before x after
    → take (the_symbol symbol.Question) after ≡ None
    → Reads (read_choice coalesce choice) before x after
choice_alone choice r e = record { so = rw (r.so, e) refl }

pub choice_whole : {coalesce choice : Reader Expr} {test x y : Expr}
    {before mark then_part colon else_part after : List Lexeme} → Reads coalesce before test mark
    → TakesSymbol symbol.Question mark then_part → Reads choice then_part x colon
    → TakesSymbol symbol.Colon colon else_part → Reads choice else_part y after
    → Reads (read_choice coalesce choice) before (expr.Choice test x y) after
choice_whole r q a c b =
    record { so = rw (r.so, take_complete q, a.so, take_complete c, b.so) refl }

-- ---- comparisons

comparison_none : (which : Symbol) → nat_le (symbol_reach which) 6 ≡ false
    → comparison_of which ≡ None
comparison_none symbol.Equal e = absurd (cc)
comparison_none symbol.NotEqual e = absurd (cc)
comparison_none symbol.Less e = absurd (cc)
comparison_none symbol.LessEqual e = absurd (cc)
comparison_none symbol.Greater e = absurd (cc)
comparison_none symbol.GreaterEqual e = absurd (cc)
comparison_none _ e = refl

pub comparison_outside : (which : Symbol) (operator : BinaryOp)
    → comparison_of which ≡ Some operator → nat_le (symbol_reach which) 5 ≡ false
comparison_outside symbol.Equal operator e = refl
comparison_outside symbol.NotEqual operator e = refl
comparison_outside symbol.Less operator e = refl
comparison_outside symbol.LessEqual operator e = refl
comparison_outside symbol.Greater operator e = refl
comparison_outside symbol.GreaterEqual operator e = refl
comparison_outside _ operator e = absurd (cc)

pub comparison_alone : {concatenation : Reader Expr} (choice : Reader Expr)
    {before : List Lexeme} {x : Expr} {after : List Lexeme}
    → Reads concatenation before x after → extends Level.comparison after ≡ false
    → Reads (read_comparison choice concatenation) before x after
comparison_alone choice {before} {x} {after} r e =
    record {
      so = rw (
        r.so,
        no_operator comparison_of Level.comparison after comparison_none e,
        not_taken_behind (the_keyword keyword.Not) Level.comparison after refl e,
        not_taken_behind (the_keyword keyword.In) Level.comparison after refl e,
        not_taken_behind (the_keyword keyword.Between) Level.comparison after refl e,
        not_taken_behind (the_keyword keyword.Like) Level.comparison after refl e,
      ) refl;
    }

pub compared_read : {concatenation : Reader Expr} (choice : Reader Expr) {which : Symbol}
    {operator : BinaryOp} {before mark between : List Lexeme} {x y : Expr} {after : List Lexeme}
    → Reads concatenation before x mark → TakesSymbol which mark between
    → comparison_of which ≡ Some operator → Reads concatenation between y after
    → Reads (read_comparison choice concatenation) before (expr.Compare operator x y) after
compared_read choice a m e b =
    record { so = rw (a.so, operator_taken comparison_of m e, b.so) refl }

-- a predicate begins with a mark that goes on no operand
pub predicate_outside : {negated : Bool} {which : Keyword} {mark word rest : List Lexeme}
    → MayBeNegated negated mark word → TakesKeyword which word rest
    → nat_le (keyword_reach which) 5 ≡ false → extends Level.concatenation mark ≡ false
predicate_outside plain k e = outside_extends Level.concatenation k e
predicate_outside (with_not m) k e = outside_extends Level.concatenation m refl

predicate_read : {concatenation : Reader Expr} (choice : Reader Expr)
    {before mark : List Lexeme} {x y : Expr} {after : List Lexeme}
    → Reads concatenation before x mark
    → compare_or_predicate choice concatenation x (take_operator comparison_of mark) mark
    ≡ found y after
    → Reads (read_comparison choice concatenation) before y after
predicate_read choice r e = record { so = rw r.so e }

at_among : (choice concatenation : Reader Expr) (x : Expr) {negated : Bool}
    {mark word bracket : List Lexeme} → MayBeNegated negated mark word
    → TakesKeyword keyword.In word bracket
    → compare_or_predicate choice concatenation x (take_operator comparison_of mark) mark
    ≡ read_among choice negated x bracket
at_among choice concatenation x plain keyword_first = refl
at_among choice concatenation x (with_not keyword_first) keyword_first = refl

at_between : (choice concatenation : Reader Expr) (x : Expr) {negated : Bool}
    {mark word first : List Lexeme} → MayBeNegated negated mark word
    → TakesKeyword keyword.Between word first
    → compare_or_predicate choice concatenation x (take_operator comparison_of mark) mark
    ≡ read_between concatenation negated x first
at_between choice concatenation x plain keyword_first = refl
at_between choice concatenation x (with_not keyword_first) keyword_first = refl

at_like : (choice concatenation : Reader Expr) (x : Expr) {negated : Bool}
    {mark word second : List Lexeme} → MayBeNegated negated mark word
    → TakesKeyword keyword.Like word second
    → compare_or_predicate choice concatenation x (take_operator comparison_of mark) mark
    ≡ read_like concatenation negated x second
at_like choice concatenation x plain keyword_first = refl
at_like choice concatenation x (with_not keyword_first) keyword_first = refl

items_read : (choice : Reader Expr) (negated : Bool) (x : Expr)
    {bracket first end : List Lexeme} {xs : List Expr} {after : List Lexeme}
    → TakesSymbol symbol.OpenParenthesis bracket first
    → Reads (parted (the_symbol symbol.Comma) choice) first xs end
    → length xs ≤ most_items → TakesSymbol symbol.CloseParenthesis end after
    → read_among choice negated x bracket ≡ found (expr.Among negated x xs) after
items_read choice negated x {xs = xs} p r l c =
    rw (take_complete p, r.so, le-leb (length xs) most_items l, take_complete c) refl

pub among_read : {choice concatenation : Reader Expr} {negated : Bool} {x item : Expr}
    {items : List Expr} {before mark word bracket first more end after : List Lexeme}
    → Reads concatenation before x mark → MayBeNegated negated mark word
    → TakesKeyword keyword.In word bracket → TakesSymbol symbol.OpenParenthesis bracket first
    → Reads choice first item more
    → Turns (marked (the_symbol symbol.Comma) choice) more items end
    → length (item ∷ items) ≤ most_items → TakesSymbol symbol.CloseParenthesis end after
    → Reads (read_comparison choice concatenation) before
    (expr.Among negated x (item ∷ items)) after
among_read {choice} {concatenation} {negated} {x} {item} {items} a m i p r t l c =
    predicate_read choice a (at_among choice concatenation x m i
    ∙ items_read choice negated x p (parted_read (the_symbol symbol.Comma) r t) l c)

low_and_high : {concatenation : Reader Expr} (negated : Bool) (x : Expr) {low high : Expr}
    {first mid second after : List Lexeme} → Reads concatenation first low mid
    → TakesKeyword keyword.And mid second → Reads concatenation second high after
    → read_between concatenation negated x first ≡ found (expr.Between negated x low high) after
low_and_high negated x l c h = rw (l.so, take_complete c, h.so) refl

pub between_read : {concatenation : Reader Expr} (choice : Reader Expr) {negated : Bool}
    {x low high : Expr} {before mark word first mid second after : List Lexeme}
    → Reads concatenation before x mark → MayBeNegated negated mark word
    → TakesKeyword keyword.Between word first → Reads concatenation first low mid
    → TakesKeyword keyword.And mid second → Reads concatenation second high after
    → Reads (read_comparison choice concatenation) before (expr.Between negated x low high) after
between_read {concatenation} choice {negated} {x} a m w l c h =
    predicate_read choice a (at_between choice concatenation x m w
    ∙ low_and_high negated x l c h)

pub like_read : {concatenation : Reader Expr} (choice : Reader Expr) {negated : Bool}
    {x y : Expr} {before mark word second after : List Lexeme}
    → Reads concatenation before x mark → MayBeNegated negated mark word
    → TakesKeyword keyword.Like word second → Reads concatenation second y after
    → Reads (read_comparison choice concatenation) before (expr.Like negated x y) after
like_read {concatenation} choice {negated} {x} a m w p =
    predicate_read choice a (at_like choice concatenation x m w
    ∙ ap (changed (expr.Like negated x)) p.so)

-- ---- negations, signs and steps

pub negation_alone : {comparison : Reader Expr} (after_not : Reader Expr) {before : List Lexeme}
    {x : Expr} {after : List Lexeme} → Reads comparison before x after
    → take (the_keyword keyword.Not) before ≡ None
    → Reads (read_negation after_not comparison) before x after
negation_alone after_not r e = record { so = rw (e, r.so) refl }

negation_whole : {after_not : Reader Expr} (comparison : Reader Expr)
    {before between : List Lexeme} {x : Expr} {after : List Lexeme}
    → TakesKeyword keyword.Not before between → Reads after_not between x after
    → Reads (read_negation after_not comparison) before x after
negation_whole comparison m r = record { so = rw (take_complete m, r.so) refl }

pub sign_alone : {postfix : Reader Expr} (after_sign : UnaryOp → Reader Expr)
    {before : List Lexeme} {x : Expr} {after : List Lexeme} → Reads postfix before x after
    → take_operator sign_of before ≡ None → Reads (read_sign after_sign postfix) before x after
sign_alone after_sign r e = record { so = rw (e, r.so) refl }

sign_whole : (after_sign : UnaryOp → Reader Expr) (postfix : Reader Expr) {which : Symbol}
    {operator : UnaryOp} {before between : List Lexeme} {x : Expr} {after : List Lexeme}
    → TakesSymbol which before between → sign_of which ≡ Some operator
    → after_sign operator between ≡ found x after
    → Reads (read_sign after_sign postfix) before x after
sign_whole after_sign postfix m e r = record { so = rw (operator_taken sign_of m e, r) refl }

pub postfix_alone : {atom : Reader Expr} {before : List Lexeme} {x : Expr}
    {after : List Lexeme} → Reads atom before x after → Reads read_steps after [] after
    → Reads (read_postfix atom) before x after
postfix_alone a s = record { so = rw (a.so, s.so) refl }

pub postfix_whole : {atom : Reader Expr} {before between : List Lexeme} {x : Expr}
    {step : QueryStep} {steps : List QueryStep} {after : List Lexeme}
    → Reads atom before x between → Reads read_steps between (step ∷ steps) after
    → Reads (read_postfix atom) before (expr.Steps x (step ∷ steps)) after
postfix_whole a s = record { so = rw (a.so, s.so) refl }

-- ---- the levels that step the nesting

pub at_choice : (params : List (Member Tree)) (n : ℕ) {before : List Lexeme} {x : Expr}
    {after : List Lexeme}
    → Reads (read_choice (read_level params n Level.coalesce) (read_level params n Level.choice))
    before x after
    → Reads (read_level params (suc n) Level.choice) before x after
unfolding inner_at
at_choice params n r = r

pub denied_read : (params : List (Member Tree)) (n : ℕ) {before between : List Lexeme} {x : Expr}
    {after : List Lexeme} → TakesKeyword keyword.Not before between
    → Reads (read_level params n Level.negation) between x after
    → Reads (read_level params (suc n) Level.negation) before (expr.Not x) after
unfolding inner_at
denied_read params n m r =
    negation_whole (read_level params (suc n) Level.comparison) m
    (record { so = ap (changed expr.Not) r.so })

signed_so : (sign : Reader Expr) (operator : UnaryOp) {between : List Lexeme} {x : Expr}
    {after : List Lexeme} → begins_least between ≡ false → Reads sign between x after
    → read_signed sign operator between ≡ found (expr.Sign operator x) after
signed_so sign operator {between} e r =
    rw (not_least operator (begins_least between) e, r.so) refl

pub signed_read : (params : List (Member Tree)) (n : ℕ) {which : Symbol} {operator : UnaryOp}
    {before between : List Lexeme} {x : Expr} {after : List Lexeme}
    → TakesSymbol which before between → sign_of which ≡ Some operator
    → begins_least between ≡ false → Reads (read_level params n Level.sign) between x after
    → Reads (read_level params (suc n) Level.sign) before (expr.Sign operator x) after
unfolding inner_at
signed_read params n {operator = operator} m e l r =
    sign_whole (read_signed (read_level params n Level.sign))
    (read_level params (suc n) Level.postfix) m e
    (signed_so (read_level params n Level.sign) operator l r)

least_so : (sign : Reader Expr) {value : ℕ} {between after : List Lexeme}
    → TakesNumber value between after → value ≡ least_magnitude → begins_step after ≡ false
    → read_signed sign unary_op.Minus between ≡ found (literal (tree.Number least_literal)) after
least_so sign {value} number_first e s = rw (eq-eqb value least_magnitude e, s) refl

pub least_read : (params : List (Member Tree)) (n : ℕ) {value : ℕ}
    {before between after : List Lexeme} → TakesSymbol symbol.Minus before between
    → TakesNumber value between after → value ≡ least_magnitude → begins_step after ≡ false
    → Reads (read_level params (suc n) Level.sign) before (literal (tree.Number least_literal))
    after
unfolding inner_at
least_read params n m v e s =
    sign_whole (read_signed (read_level params n Level.sign))
    (read_level params (suc n) Level.postfix) m refl
    (least_so (read_level params n Level.sign) v e s)
