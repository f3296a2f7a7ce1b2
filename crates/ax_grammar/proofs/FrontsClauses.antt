-- Where a clause of a query ends: at the end of the list, or at the keyword of a later clause. Each
-- such keyword has a number, which falls from clause to clause.
use Rattle.std.proofs.Common.{◌≡◌, ℕ, Bool, true, false, nat_le, List, [], ◌∷◌, None, refl, arith, leb-true, le-leb}
use Rattle.ax_lex.specs.declared.keyword.Keyword.{Keyword}
use Rattle.ax_lex.specs.declared.keyword.Keyword.TheVariants as keyword
use Rattle.ax_lex.specs.declared.symbol.Symbol.TheVariants as symbol
use Rattle.ax_lex.specs.Lexeme.{Lexeme}
use Rattle.ax_grammar.specs.Fronts.{is_mark, begins, begins_step, keyword_reach, extends}
use Rattle.ax_grammar.specs.Levels.{Level}
use Rattle.ax_grammar.specs.Reading.{take}
use Rattle.ax_grammar.specs.Takes.{TakesKeyword}
use Rattle.ax_grammar.specs.Takes.Mark.{the_symbol, the_keyword}
use Rattle.ax_grammar.specs.Takes.Takes.{keyword_first}
use Rattle.ax_grammar.proofs.Extending.{extends_narrower}
use Rattle.ax_grammar.proofs.FrontsMarks.{stands, not_taken, no_step_behind}

abbrev pub keyword_place : Keyword → ℕ
keyword_place keyword.Offset = 1
keyword_place keyword.Order = 2
keyword_place keyword.Group = 3
keyword_place keyword.Where = 4
keyword_place keyword.Join = 5
keyword_place keyword.From = 6
keyword_place _ = 7

abbrev pub place : List Lexeme → ℕ
place [] = 0
place (Lexeme.keyword which word ∷ rest) = keyword_place which
place (_ ∷ rest) = 7

-- the list is at its end, or at the keyword of a clause from this place on
abbrev pub IsAtClause : ℕ → List Lexeme → Type 0
IsAtClause most lexemes = nat_le (place lexemes) most ≡ true

pub at_clause : {which : Keyword} {before after : List Lexeme} (most : ℕ)
    → TakesKeyword which before after → nat_le (keyword_place which) most ≡ true
    → IsAtClause most before
at_clause most keyword_first e = e

pub at_later : (less more : ℕ) (lexemes : List Lexeme) → nat_le less more ≡ true
    → IsAtClause less lexemes → IsAtClause more lexemes
at_later less more lexemes l e =
    le-leb (place lexemes) more
    (omega (arith, leb-true less more l, leb-true (place lexemes) less e))

clause_outside : (which : Keyword) → nat_le (keyword_place which) 6 ≡ true
    → nat_le (keyword_reach which) 11 ≡ false
clause_outside keyword.Offset e = refl
clause_outside keyword.Order e = refl
clause_outside keyword.Group e = refl
clause_outside keyword.Where e = refl
clause_outside keyword.Join e = refl
clause_outside keyword.From e = refl
clause_outside _ e = absurd (cc)

-- no clause goes on an expression
pub clause_no_expr : (lexemes : List Lexeme) → IsAtClause 6 lexemes
    → extends Level.choice lexemes ≡ false
unfolding extends
clause_no_expr [] e = refl
clause_no_expr (Lexeme.keyword which word ∷ rest) e = clause_outside which e
clause_no_expr (_ ∷ rest) e = absurd (cc)

pub no_step_after : (lexemes : List Lexeme) → extends Level.choice lexemes ≡ false
    → begins_step lexemes ≡ false
no_step_after lexemes e =
    no_step_behind lexemes (extends_narrower Level.postfix Level.choice lexemes refl e)

no_comma : (lexemes : List Lexeme) → IsAtClause 6 lexemes
    → begins (the_symbol symbol.Comma) lexemes ≡ false
no_comma [] e = refl
no_comma (Lexeme.keyword which word ∷ rest) e = refl
no_comma (_ ∷ rest) e = absurd (cc)

pub clause_no_comma : (lexemes : List Lexeme) → IsAtClause 6 lexemes
    → take (the_symbol symbol.Comma) lexemes ≡ None
clause_no_comma lexemes e = not_taken (the_symbol symbol.Comma) lexemes (no_comma lexemes e)

place_of : {which : Keyword} {before after : List Lexeme} → TakesKeyword which before after
    → place before ≡ keyword_place which
place_of keyword_first = refl

-- the keyword of an earlier clause does not stand first
pub no_earlier : (which : Keyword) (most : ℕ) (lexemes : List Lexeme)
    → nat_le (keyword_place which) most ≡ false → IsAtClause most lexemes
    → take (the_keyword which) lexemes ≡ None
no_earlier which most [] l e = refl
no_earlier which most (first ∷ rest) l e =
    not_taken (the_keyword which) (first ∷ rest) (by_test (is_mark (the_keyword which) first) refl)
  where
    by_test : (b : Bool) → is_mark (the_keyword which) first ≡ b → b ≡ false
    by_test false t = refl
    by_test true t =
        let same : place (first ∷ rest) ≡ keyword_place which =
        place_of (stands (the_keyword which) first rest t) in
        absurd (cc)
