-- The reader's step over a mark is that of the grammar.
use Rattle.std.proofs.Common.{arith, ◌≡◌, ℕ, List, [], ◌∷◌, Bool, true, false, refl, Option, Some, None, sym, ◌∙◌, ◌==◌, ap, subst}
use Rattle.std.proofs.lemmas.Bool.{false≢true}
use Rattle.std.specs.Prelude.{slice_get, if◌then◌else◌}
use Rattle.ax_lex.specs.Lexeme.{Lexeme}
use Rattle.ax_lex.specs.declared.keyword.Keyword.{Keyword}
use Rattle.ax_lex.specs.declared.keyword.Keyword.TheVariants as keyword
use Rattle.ax_lex.specs.declared.symbol.Symbol.{Symbol}
use Rattle.ax_lex.specs.declared.symbol.Symbol.TheVariants as symbol
use Rattle.ax_grammar.specs.Fronts.{symbol_number, keyword_number}
use Rattle.ax_grammar.specs.Reading.{take}
use Rattle.ax_grammar.specs.Takes.{Mark, Takes}
use Rattle.ax_grammar.specs.Takes.Mark.{the_symbol, the_keyword}
use Rattle.ax_grammar.specs.Takes.Takes.{symbol_first, keyword_first}

itself : (n : ℕ) → (n == n) ≡ true
itself n = grind (arith)

pub take_complete : {mark : Mark} {before after : List Lexeme} → Takes mark before after
    → take mark before ≡ Some after
take_complete (symbol_first {which} {after}) = rw (itself (symbol_number which)) refl
take_complete (keyword_first {which} {written} {after}) = rw (itself (keyword_number which)) refl

-- the symbols and the keywords in the order of their numbers
abbrev symbols : List Symbol
symbols =
    symbol.Equal ∷ symbol.NotEqual ∷ symbol.Less ∷ symbol.LessEqual ∷ symbol.Greater ∷
    symbol.GreaterEqual ∷ symbol.Join ∷ symbol.Coalesce ∷ symbol.Question ∷ symbol.Colon ∷
    symbol.Plus ∷ symbol.Minus ∷ symbol.Star ∷ symbol.Slash ∷ symbol.Percent ∷ symbol.Dot ∷
    symbol.Comma ∷ symbol.OpenParenthesis ∷ symbol.CloseParenthesis ∷ symbol.OpenBracket ∷
    symbol.CloseBracket ∷ symbol.OpenBrace ∷ symbol.CloseBrace ∷ []

abbrev keywords : List Keyword
keywords =
    keyword.Select ∷ keyword.Top ∷ keyword.Distinct ∷ keyword.Value ∷ keyword.As ∷ keyword.From ∷
    keyword.Join ∷ keyword.In ∷ keyword.Where ∷ keyword.Order ∷ keyword.By ∷ keyword.Asc ∷
    keyword.Desc ∷ keyword.Group ∷ keyword.Offset ∷ keyword.Limit ∷ keyword.And ∷ keyword.Or ∷
    keyword.Not ∷ keyword.Between ∷ keyword.Like ∷ keyword.Null ∷ keyword.True ∷ keyword.False ∷
    keyword.Undefined ∷ []

symbol_at_number : (which : Symbol) → slice_get symbols (symbol_number which) ≡ Some which
symbol_at_number symbol.Equal = refl
symbol_at_number symbol.NotEqual = refl
symbol_at_number symbol.Less = refl
symbol_at_number symbol.LessEqual = refl
symbol_at_number symbol.Greater = refl
symbol_at_number symbol.GreaterEqual = refl
symbol_at_number symbol.Join = refl
symbol_at_number symbol.Coalesce = refl
symbol_at_number symbol.Question = refl
symbol_at_number symbol.Colon = refl
symbol_at_number symbol.Plus = refl
symbol_at_number symbol.Minus = refl
symbol_at_number symbol.Star = refl
symbol_at_number symbol.Slash = refl
symbol_at_number symbol.Percent = refl
symbol_at_number symbol.Dot = refl
symbol_at_number symbol.Comma = refl
symbol_at_number symbol.OpenParenthesis = refl
symbol_at_number symbol.CloseParenthesis = refl
symbol_at_number symbol.OpenBracket = refl
symbol_at_number symbol.CloseBracket = refl
symbol_at_number symbol.OpenBrace = refl
symbol_at_number symbol.CloseBrace = refl

keyword_at_number : (which : Keyword) → slice_get keywords (keyword_number which) ≡ Some which
keyword_at_number keyword.Select = refl
keyword_at_number keyword.Top = refl
keyword_at_number keyword.Distinct = refl
keyword_at_number keyword.Value = refl
keyword_at_number keyword.As = refl
keyword_at_number keyword.From = refl
keyword_at_number keyword.Join = refl
keyword_at_number keyword.In = refl
keyword_at_number keyword.Where = refl
keyword_at_number keyword.Order = refl
keyword_at_number keyword.By = refl
keyword_at_number keyword.Asc = refl
keyword_at_number keyword.Desc = refl
keyword_at_number keyword.Group = refl
keyword_at_number keyword.Offset = refl
keyword_at_number keyword.Limit = refl
keyword_at_number keyword.And = refl
keyword_at_number keyword.Or = refl
keyword_at_number keyword.Not = refl
keyword_at_number keyword.Between = refl
keyword_at_number keyword.Like = refl
keyword_at_number keyword.Null = refl
keyword_at_number keyword.True = refl
keyword_at_number keyword.False = refl
keyword_at_number keyword.Undefined = refl

abbrev or_else : {X : Type 0} → X → Option X → X
or_else x None = x
or_else x (Some y) = y

abbrev is_none : {X : Type 0} → Option X → Bool
is_none None = true
is_none (Some y) = false

pub none_is_not_some : {X : Type 0} {x : X} → None ≡ Some x → ⊥
none_is_not_some e = false≢true (sym (ap is_none e))

pub some_same : {X : Type 0} {x y : X} → Some x ≡ Some y → x ≡ y
some_same {x} e = ap (λ o. or_else x o) e

numbers_same : (a b : ℕ) → (a == b) ≡ true → a ≡ b
numbers_same a b e = grind (arith)

pub same_symbol : (a b : Symbol) → (symbol_number a == symbol_number b) ≡ true → a ≡ b
same_symbol a b e = some_same (sym (symbol_at_number a) ∙ ap (slice_get symbols)
    (numbers_same _ _ e) ∙ symbol_at_number b)

pub same_keyword : (a b : Keyword) → (keyword_number a == keyword_number b) ≡ true → a ≡ b
same_keyword a b e = some_same (sym (keyword_at_number a) ∙ ap (slice_get keywords)
    (numbers_same _ _ e) ∙ keyword_at_number b)

taken : (b : Bool) {rest after : List Lexeme}
    → (if b then Some rest else None) ≡ Some after → (b ≡ true) × (rest ≡ after)
taken true e = (refl, some_same e)
taken false e = absurd (none_is_not_some e)

pub take_sound : (mark : Mark) (before : List Lexeme) {after : List Lexeme}
    → take mark before ≡ Some after → Takes mark before after
take_sound mark [] e = absurd (none_is_not_some e)
take_sound (the_symbol which) (Lexeme.symbol other ∷ rest) e =
    let t = taken _ e in
    subst (λ last. Takes (the_symbol which) (Lexeme.symbol other ∷ rest) last) t.1
    (subst (λ s. Takes (the_symbol which) (Lexeme.symbol s ∷ rest) rest)
    (same_symbol which other t.0) symbol_first)
take_sound (the_keyword which) (Lexeme.keyword other word ∷ rest) e =
    let t = taken _ e in
    subst (λ last. Takes (the_keyword which) (Lexeme.keyword other word ∷ rest) last) t.1
    (subst (λ s. Takes (the_keyword which) (Lexeme.keyword s word ∷ rest) rest)
    (same_keyword which other t.0) keyword_first)
take_sound mark (_ ∷ rest) e = absurd (none_is_not_some e)
