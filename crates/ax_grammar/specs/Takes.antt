-- Single lexemes at the front of a list: what is before (from this lexeme on) and what is after it.
-- A mark is a lexeme that the grammar names: a symbol, or a keyword in letters of any case.
use Rattle.std.specs.Prelude.{ℕ, List, ◌∷◌}
use Rattle.ax_lex.specs.declared.keyword.Keyword.{Keyword}
use Rattle.ax_lex.specs.declared.symbol.Symbol.{Symbol}
use Rattle.ax_lex.specs.Lexeme.{Lexeme}
use Rattle.ax_lex.specs.Lexeme.Lexeme.{name, keyword, parameter, text, number, symbol}

pub data Mark : Type 0 where
  the_symbol : Symbol → Mark
  the_keyword : Keyword → Mark

-- the mark stands first
pub data Takes : (mark : Mark) (before after : List Lexeme) → Type 0 where
  symbol_first : {which : Symbol} {after : List Lexeme}
      → Takes (the_symbol which) (symbol which ∷ after) after
  keyword_first : {which : Keyword} {written : List ℕ} {after : List Lexeme}
      → Takes (the_keyword which) (keyword which written ∷ after) after

abbrev pub TakesSymbol : Symbol → List Lexeme → List Lexeme → Type 0
TakesSymbol which = Takes (the_symbol which)

abbrev pub TakesKeyword : Keyword → List Lexeme → List Lexeme → Type 0
TakesKeyword which = Takes (the_keyword which)

-- a name stands first
pub data TakesName : (word : List ℕ) (before after : List Lexeme) → Type 0 where
  name_first : {word : List ℕ} {after : List Lexeme} → TakesName word (name word ∷ after) after

-- word = name | keyword, the keyword as it is written
pub data TakesWord : (word : List ℕ) (before after : List Lexeme) → Type 0 where
  name_as_word : {word : List ℕ} {after : List Lexeme} → TakesWord word (name word ∷ after) after
  keyword_as_word : {which : Keyword} {word : List ℕ} {after : List Lexeme}
      → TakesWord word (keyword which word ∷ after) after

-- a text stands first
pub data TakesText : (value : List ℕ) (before after : List Lexeme) → Type 0 where
  text_first : {value : List ℕ} {after : List Lexeme} → TakesText value (text value ∷ after) after

-- a number stands first
pub data TakesNumber : (value : ℕ) (before after : List Lexeme) → Type 0 where
  number_first : {value : ℕ} {after : List Lexeme} → TakesNumber value (number value ∷ after) after

-- a parameter stands first, of this word
pub data TakesParameter : (word : List ℕ) (before after : List Lexeme) → Type 0 where
  parameter_first : {word : List ℕ} {after : List Lexeme}
      → TakesParameter word (parameter word ∷ after) after

-- label = word | text: the name of a member
pub data TakesLabel : (label : List ℕ) (before after : List Lexeme) → Type 0 where
  word_as_label : {label : List ℕ} {before after : List Lexeme} → TakesWord label before after
      → TakesLabel label before after
  text_as_label : {label : List ℕ} {before after : List Lexeme} → TakesText label before after
      → TakesLabel label before after
