-- Atoms: where the reader of choices reads what is written, so does that of atoms.
use Rattle.std.proofs.Common.{◌≡◌, ℕ, ◌≤◌, true, false, List, [], ◌∷◌, length, pos, Option, Some, None, refl, le-leb}
use Rattle.ax_lex.specs.declared.keyword.Keyword.TheVariants as keyword
use Rattle.ax_lex.specs.declared.symbol.Symbol.TheVariants as symbol
use Rattle.ax_lex.specs.Lexeme.{Lexeme}
use Rattle.ax_mean.specs.declared.expr.Expr.{Expr}
use Rattle.ax_mean.specs.declared.expr.Expr.TheVariants as expr
use Rattle.ax_mean.specs.declared.operator.Aggregate.{Aggregate}
use Rattle.ax_mean.specs.declared.operator.Func.{Func}
use Rattle.ax_mean.specs.declared.value.Value.TheVariants.{Undefined}
use Rattle.ax_mean.specs.Functions.{takes}
use Rattle.ax_tree.specs.declared.members.Member.{Member}
use Rattle.ax_tree.specs.declared.tree.Tree.{Tree}
use Rattle.ax_tree.specs.declared.tree.Tree.TheVariants as tree
use Rattle.ax_grammar.specs.ExprReader.{read_atom, read_list, read_call, read_member, read_members, literal}
use Rattle.ax_grammar.specs.Fronts.{begins_with, extends, opens}
use Rattle.ax_grammar.specs.Levels.{Level}
use Rattle.ax_grammar.specs.Reading.{Reader, marked, take, take_label}
use Rattle.ax_grammar.specs.Tables.{Callee, most_items, greatest_literal, callee_of, parameter_of}
use Rattle.ax_grammar.specs.Tables.Callee.{a_function, an_aggregate}
use Rattle.ax_grammar.specs.Takes.{Mark, Takes, TakesSymbol, TakesKeyword, TakesName, TakesText, TakesNumber, TakesParameter, TakesLabel}
use Rattle.ax_grammar.specs.Takes.Mark.{the_symbol}
use Rattle.ax_grammar.specs.Takes.Takes.{symbol_first, keyword_first}
use Rattle.ax_grammar.specs.Takes.TakesName.{name_first}
use Rattle.ax_grammar.specs.Takes.TakesWord.{name_as_word, keyword_as_word}
use Rattle.ax_grammar.specs.Takes.TakesNumber.{number_first}
use Rattle.ax_grammar.specs.Takes.TakesText.{text_first}
use Rattle.ax_grammar.specs.Takes.TakesParameter.{parameter_first}
use Rattle.ax_grammar.specs.Takes.TakesLabel.{word_as_label, text_as_label}
use Rattle.ax_grammar.proofs.CompleteTurns.{found, Reads, Turns, parted_read, closed_read}
use Rattle.ax_grammar.proofs.FrontsExpr.{not_taken_first}
use Rattle.ax_grammar.proofs.FrontsMarks.{not_taken}
use Rattle.ax_grammar.proofs.Marks.{take_complete}

-- ---- lists that a mark closes

pub data IsCloser : Mark → Type 0 where
  round : IsCloser (the_symbol symbol.CloseParenthesis)
  square : IsCloser (the_symbol symbol.CloseBracket)

pub closer_outside : {close : Mark} {before after : List Lexeme} → IsCloser close
    → Takes close before after → extends Level.choice before ≡ false
unfolding extends
closer_outside round symbol_first = refl
closer_outside square symbol_first = refl

pub closer_no_comma : {close : Mark} {before after : List Lexeme} → IsCloser close
    → Takes close before after → take (the_symbol symbol.Comma) before ≡ None
closer_no_comma round symbol_first = refl
closer_no_comma square symbol_first = refl

pub closer_not_first : {close : Mark} (before : List Lexeme) → IsCloser close
    → opens Level.choice before ≡ true → take close before ≡ None
closer_not_first before round e =
    not_taken_first (the_symbol symbol.CloseParenthesis) Level.choice before refl e
closer_not_first before square e =
    not_taken_first (the_symbol symbol.CloseBracket) Level.choice before refl e

pub empty_read : (choice : Reader Expr) {close : Mark} {before after : List Lexeme}
    → Takes close before after → Reads (read_list close choice) before [] after
empty_read choice m = record { so = rw (take_complete m) refl }

pub full_read : {choice : Reader Expr} {close : Mark} {before between end : List Lexeme}
    {x : Expr} {xs : List Expr} {after : List Lexeme} → take close before ≡ None
    → Reads choice before x between → Turns (marked (the_symbol symbol.Comma) choice) between xs end
    → Takes close end after → Reads (read_list close choice) before (x ∷ xs) after
full_read e r t m =
    record { so = rw e (closed_read (parted_read (the_symbol symbol.Comma) r t) m) }

-- ---- maps

label_taken : {label : List ℕ} {before after : List Lexeme} → TakesLabel label before after
    → take_label before ≡ found label after
label_taken (word_as_label name_as_word) = refl
label_taken (word_as_label keyword_as_word) = refl
label_taken (text_as_label text_first) = refl

pub member_read : {choice : Reader Expr} {label : List ℕ} {before colon between : List Lexeme}
    {x : Expr} {after : List Lexeme} → TakesLabel label before colon
    → TakesSymbol symbol.Colon colon between → Reads choice between x after
    → Reads (read_member choice) before (record { name = label; value = x }) after
member_read l c r = record { so = rw (label_taken l, take_complete c, r.so) refl }

-- a label is no closing brace
pub label_not_brace : {label : List ℕ} {before after : List Lexeme}
    → TakesLabel label before after → take (the_symbol symbol.CloseBrace) before ≡ None
label_not_brace (word_as_label name_as_word) = refl
label_not_brace (word_as_label keyword_as_word) = refl
label_not_brace (text_as_label text_first) = refl

pub no_members_read : (choice : Reader Expr) {before after : List Lexeme}
    → TakesSymbol symbol.CloseBrace before after → Reads (read_members choice) before [] after
no_members_read choice m = record { so = rw (take_complete m) refl }

pub members_read : {choice : Reader Expr} {before between end : List Lexeme}
    {m : Member Expr} {ms : List (Member Expr)} {after : List Lexeme}
    → take (the_symbol symbol.CloseBrace) before ≡ None
    → Reads (read_member choice) before m between
    → Turns (marked (the_symbol symbol.Comma) (read_member choice)) between ms end
    → TakesSymbol symbol.CloseBrace end after → Reads (read_members choice) before (m ∷ ms) after
members_read e r t m =
    record { so = rw e (closed_read (parted_read (the_symbol symbol.Comma) r t) m) }

-- ---- atoms

module _ (params : List (Member Tree)) (choice : Reader Expr) where
  pub null_read : {before after : List Lexeme} → TakesKeyword keyword.Null before after
      → Reads (read_atom params choice) before (literal tree.Null) after
  null_read keyword_first = record { so = refl }

  pub true_read : {before after : List Lexeme} → TakesKeyword keyword.True before after
      → Reads (read_atom params choice) before (literal (tree.Truth true)) after
  true_read keyword_first = record { so = refl }

  pub false_read : {before after : List Lexeme} → TakesKeyword keyword.False before after
      → Reads (read_atom params choice) before (literal (tree.Truth false)) after
  false_read keyword_first = record { so = refl }

  pub undefined_read : {before after : List Lexeme}
      → TakesKeyword keyword.Undefined before after
      → Reads (read_atom params choice) before (expr.Literal Undefined) after
  undefined_read keyword_first = record { so = refl }

  pub number_read : {value : ℕ} {before after : List Lexeme} → TakesNumber value before after
      → value ≤ greatest_literal
      → Reads (read_atom params choice) before (literal (tree.Number (pos value))) after
  number_read {value} number_first l =
      record { so = rw (le-leb value greatest_literal l) refl }

  pub text_read : {value : List ℕ} {before after : List Lexeme} → TakesText value before after
      → Reads (read_atom params choice) before (literal (tree.Text value)) after
  text_read text_first = record { so = refl }

  pub parameter_read : {word : List ℕ} {value : Tree} {before after : List Lexeme}
      → TakesParameter word before after → parameter_of params word ≡ Some value
      → Reads (read_atom params choice) before (literal value) after
  parameter_read parameter_first e = record { so = rw e refl }

  pub alias_read : {word : List ℕ} {before after : List Lexeme} → TakesName word before after
      → begins_with symbol.OpenParenthesis after ≡ false
      → Reads (read_atom params choice) before (expr.Alias word) after
  alias_read {word} {before} {after} name_first e =
      record { so = rw (not_taken (the_symbol symbol.OpenParenthesis) after e) refl }

  function_read : (callee : Option Callee) {func : Func} {inside : List Lexeme}
      {args : List Expr} {after : List Lexeme} → callee ≡ Some (a_function func)
      → Reads (read_list (the_symbol symbol.CloseParenthesis) choice) inside args after
      → takes func (length args) ≡ true
      → read_call choice callee inside ≡ found (expr.Call func args) after
  function_read callee e r t = rw (e, r.so, t) refl

  pub called_read : {word : List ℕ} {func : Func} {args : List Expr}
      {before bracket inside after : List Lexeme} → TakesName word before bracket
      → callee_of word ≡ Some (a_function func)
      → TakesSymbol symbol.OpenParenthesis bracket inside
      → Reads (read_list (the_symbol symbol.CloseParenthesis) choice) inside args after
      → takes func (length args) ≡ true
      → Reads (read_atom params choice) before (expr.Call func args) after
  called_read {word} name_first e symbol_first r t =
      record { so = function_read (callee_of word) e r t }

  aggregate_read : (callee : Option Callee) {aggregate : Aggregate}
      {inside end : List Lexeme} {x : Expr} {after : List Lexeme}
      → callee ≡ Some (an_aggregate aggregate) → Reads choice inside x end
      → TakesSymbol symbol.CloseParenthesis end after
      → read_call choice callee inside ≡ found (expr.Total aggregate x) after
  aggregate_read callee e r m = rw (e, r.so, take_complete m) refl

  pub totalled_read : {word : List ℕ} {aggregate : Aggregate} {x : Expr}
      {before bracket inside end after : List Lexeme} → TakesName word before bracket
      → callee_of word ≡ Some (an_aggregate aggregate)
      → TakesSymbol symbol.OpenParenthesis bracket inside → Reads choice inside x end
      → TakesSymbol symbol.CloseParenthesis end after
      → Reads (read_atom params choice) before (expr.Total aggregate x) after
  totalled_read {word} name_first e symbol_first r m =
      record { so = aggregate_read (callee_of word) e r m }

  pub bracketed_read : {x : Expr} {before inside end after : List Lexeme}
      → TakesSymbol symbol.OpenParenthesis before inside → Reads choice inside x end
      → TakesSymbol symbol.CloseParenthesis end after
      → Reads (read_atom params choice) before x after
  bracketed_read symbol_first r m = record { so = closed_read r m }

  pub listed_read : {items : List Expr} {before inside after : List Lexeme}
      → TakesSymbol symbol.OpenBracket before inside
      → Reads (read_list (the_symbol symbol.CloseBracket) choice) inside items after
      → length items ≤ most_items
      → Reads (read_atom params choice) before (expr.List items) after
  listed_read {items} symbol_first r l =
      record { so = rw (r.so, le-leb (length items) most_items l) refl }

  pub mapped_read : {members : List (Member Expr)} {before inside after : List Lexeme}
      → TakesSymbol symbol.OpenBrace before inside
      → Reads (read_members choice) inside members after → length members ≤ most_items
      → Reads (read_atom params choice) before (expr.Object members) after
  mapped_read {members} symbol_first r l =
      record { so = rw (r.so, le-leb (length members) most_items l) refl }
