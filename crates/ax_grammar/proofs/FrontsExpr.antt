-- What an expression of a level does not begin with.
use Rattle.std.proofs.Common.{◌≡◌, ℕ, Bool, true, false, nat_le, ◌&&◌, List, [], ◌∷◌, None, refl, arith, ne_eqb}
use Rattle.ax_lex.specs.declared.symbol.Symbol.{Symbol}
use Rattle.ax_lex.specs.declared.symbol.Symbol.TheVariants as symbol
use Rattle.ax_lex.specs.Lexeme.{Lexeme}
use Rattle.ax_mean.specs.declared.expr.Expr.{Expr}
use Rattle.ax_mean.specs.declared.operator.UnaryOp.{UnaryOp}
use Rattle.ax_mean.specs.declared.operator.UnaryOp.TheVariants as unary_op
use Rattle.ax_tree.specs.declared.members.Member.{Member}
use Rattle.ax_tree.specs.declared.tree.Tree.{Tree}
use Rattle.ax_grammar.specs.Expressions.{IsExpr}
use Rattle.ax_grammar.specs.Expressions.IsExpr.{plain_sign, signed, least, plain_postfix, stepped, null, true_value, false_value, undefined, number_value, text_value, parameter_value, called, totalled, alias, bracketed, listed, mapped}
use Rattle.ax_grammar.specs.ExprReader.{begins_least, is_minus}
use Rattle.ax_grammar.specs.Fronts.{is_mark, begins, symbol_opening, keyword_opening, opens}
use Rattle.ax_grammar.specs.Levels.{Level, distance}
use Rattle.ax_grammar.specs.Reading.{take, take_operator}
use Rattle.ax_grammar.specs.Tables.{sign_of}
use Rattle.ax_grammar.specs.Takes.{Mark, Takes}
use Rattle.ax_grammar.specs.Takes.Mark.{the_symbol, the_keyword}
use Rattle.ax_grammar.specs.Takes.Takes.{symbol_first, keyword_first}
use Rattle.ax_grammar.specs.Takes.TakesName.{name_first}
use Rattle.ax_grammar.specs.Takes.TakesNumber.{number_first}
use Rattle.ax_grammar.specs.Takes.TakesText.{text_first}
use Rattle.ax_grammar.specs.Takes.TakesParameter.{parameter_first}
use Rattle.ax_grammar.proofs.FrontsMarks.{stands, not_taken}

abbrev pub mark_opening : Mark → ℕ
mark_opening (the_symbol which) = symbol_opening which
mark_opening (the_keyword which) = keyword_opening which

opening_of : {mark : Mark} {before after : List Lexeme} (level : Level) → Takes mark before after
    → opens level before ≡ nat_le (mark_opening mark) (distance level)
unfolding opens
opening_of level symbol_first = refl
opening_of level keyword_first = refl

-- a mark that begins no expression of the level does not stand before one
pub not_first : (mark : Mark) (level : Level) (before : List Lexeme)
    → nat_le (mark_opening mark) (distance level) ≡ false → opens level before ≡ true
    → begins mark before ≡ false
not_first mark level [] r e = refl
not_first mark level (first ∷ rest) r e = by_test (is_mark mark first) refl
  where
    by_test : (b : Bool) → is_mark mark first ≡ b → b ≡ false
    by_test false t = refl
    by_test true t =
        let whole : opens level (first ∷ rest) ≡ nat_le (mark_opening mark) (distance level) =
        opening_of level (stands mark first rest t) in
        absurd (cc)

pub not_taken_first : (mark : Mark) (level : Level) (before : List Lexeme)
    → nat_le (mark_opening mark) (distance level) ≡ false → opens level before ≡ true
    → take mark before ≡ None
not_taken_first mark level before r e = not_taken mark before (not_first mark level before r e)

no_sign_symbol : (which : Symbol) → nat_le (symbol_opening which) 1 ≡ true → sign_of which ≡ None
no_sign_symbol symbol.Minus e = absurd (cc)
no_sign_symbol symbol.Plus e = absurd (cc)
no_sign_symbol _ e = refl

-- no sign stands before an expression within the level of signs
pub no_sign_first : (before : List Lexeme) → opens Level.postfix before ≡ true
    → take_operator sign_of before ≡ None
unfolding opens
no_sign_first (Lexeme.symbol which ∷ rest) e = rw (no_sign_symbol which e) refl
no_sign_first _ e = refl

-- an expression within the level of signs does not begin with the number that is a literal only
-- behind a minus
pub no_least_first : {params : List (Member Tree)} {n : ℕ} {level : Level} {before : List Lexeme}
    {x : Expr} {after : List Lexeme} → IsExpr params n level before x after
    → nat_le (distance level) 2 ≡ true → begins_least before ≡ false
no_least_first (plain_sign a) l = no_least_first a refl
no_least_first (signed symbol_first e a) l = refl
no_least_first (least symbol_first v e s) l = refl
no_least_first (plain_postfix a) l = no_least_first a refl
no_least_first (stepped a s) l = no_least_first a refl
no_least_first (null keyword_first) l = refl
no_least_first (true_value keyword_first) l = refl
no_least_first (false_value keyword_first) l = refl
no_least_first (undefined keyword_first) l = refl
no_least_first (number_value {value = value} number_first within) l =
    rw (ne_eqb value 9223372036854775808 (λ same. omega arith)) refl
no_least_first (text_value text_first) l = refl
no_least_first (parameter_value parameter_first e) l = refl
no_least_first (called name_first c p xs t) l = refl
no_least_first (totalled name_first c p x e) l = refl
no_least_first (alias name_first e) l = refl
no_least_first (bracketed symbol_first x e) l = refl
no_least_first (listed symbol_first x e) l = refl
no_least_first (mapped symbol_first x e) l = refl
no_least_first _ l = absurd (cc)

pub not_least : (operator : UnaryOp) (b : Bool) → b ≡ false → (is_minus operator && b) ≡ false
not_least unary_op.Minus b e = e
not_least _ b e = refl
