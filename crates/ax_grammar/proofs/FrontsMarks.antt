-- Marks at the front of a list: what the reader does with one, and which of them cannot stand
-- behind an expression of a level.
use Rattle.std.proofs.Common.{◌≡◌, ℕ, true, false, nat_le, List, [], ◌∷◌, Option, Some, None, refl, ◌∙◌}
use Rattle.ax_lex.specs.declared.symbol.Symbol.{Symbol}
use Rattle.ax_lex.specs.declared.symbol.Symbol.TheVariants as symbol
use Rattle.ax_lex.specs.Lexeme.{Lexeme}
use Rattle.ax_grammar.specs.Fronts.{is_mark, begins, begins_step, symbol_reach, keyword_reach, extends}
use Rattle.ax_grammar.specs.Levels.{Level, distance}
use Rattle.ax_grammar.specs.Levels.Level.{postfix}
use Rattle.ax_grammar.specs.Reading.{take, take_operator}
use Rattle.ax_grammar.specs.Takes.{Mark, Takes, TakesSymbol}
use Rattle.ax_grammar.proofs.Extending.{not_begun}
use Rattle.ax_grammar.proofs.Marks.{take_sound}
use Rattle.ax_grammar.specs.Takes.Mark.{the_symbol, the_keyword}
use Rattle.ax_grammar.specs.Takes.Takes.{symbol_first, keyword_first}

-- the mark that the test finds stands first
pub stands : (mark : Mark) (first : Lexeme) (rest : List Lexeme) → is_mark mark first ≡ true
    → Takes mark (first ∷ rest) rest
stands mark first rest e = take_sound mark (first ∷ rest) (rw e refl)

pub not_taken : (mark : Mark) (before : List Lexeme) → begins mark before ≡ false
    → take mark before ≡ None
not_taken mark [] e = refl
not_taken mark (first ∷ rest) e = rw e refl

abbrev pub operator_found : {O : Type 0} → O → List Lexeme → Option (O × List Lexeme)
operator_found o after = Some (o, after)

pub operator_taken : {O : Type 0} (table : Symbol → Option O) {which : Symbol} {o : O}
    {before after : List Lexeme} → TakesSymbol which before after → table which ≡ Some o
    → take_operator table before ≡ operator_found o after
operator_taken table symbol_first e = rw e refl

abbrev pub mark_reach : Mark → ℕ
mark_reach (the_symbol which) = symbol_reach which
mark_reach (the_keyword which) = keyword_reach which

-- the mark goes on no expression of this level
abbrev pub IsOutside : Mark → Level → Type 0
IsOutside mark level = nat_le (mark_reach mark) (distance level) ≡ false

pub outside_extends : {mark : Mark} {before after : List Lexeme} (level : Level)
    → Takes mark before after → IsOutside mark level → extends level before ≡ false
unfolding extends
outside_extends level symbol_first e = e
outside_extends level keyword_first e = e

reach_of : {mark : Mark} {before after : List Lexeme} (level : Level) → Takes mark before after
    → extends level before ≡ nat_le (mark_reach mark) (distance level)
unfolding extends
reach_of level symbol_first = refl
reach_of level keyword_first = refl

-- a mark that goes on this level does not follow
pub no_mark : (mark : Mark) (level : Level) (after : List Lexeme)
    → nat_le (mark_reach mark) (distance level) ≡ true → extends level after ≡ false
    → begins mark after ≡ false
no_mark mark level after r e = not_begun mark level after (λ next rest t. reach_of level t ∙ r) e

pub not_taken_behind : (mark : Mark) (level : Level) (after : List Lexeme)
    → nat_le (mark_reach mark) (distance level) ≡ true → extends level after ≡ false
    → take mark after ≡ None
not_taken_behind mark level after r e = not_taken mark after (no_mark mark level after r e)

pub no_operator : {O : Type 0} (table : Symbol → Option O) (level : Level) (after : List Lexeme)
    → ((which : Symbol) → nat_le (symbol_reach which) (distance level) ≡ false → table which ≡ None)
    → extends level after ≡ false → take_operator table after ≡ None
unfolding extends
no_operator table level (Lexeme.symbol which ∷ rest) none e = rw (none which e) refl
no_operator table level _ none e = refl

pub no_step_behind : (after : List Lexeme) → extends postfix after ≡ false
    → begins_step after ≡ false
no_step_behind after e =
    rw (
      no_mark (the_symbol symbol.Dot) postfix after refl e,
      no_mark (the_symbol symbol.OpenBracket) postfix after refl e,
    ) refl
