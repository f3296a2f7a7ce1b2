-- Atoms, their steps and signs that are read are those of the grammar, where the readers of what
-- stands inside are sound.
use Rattle.std.proofs.Common.{◌≡◌, ℕ, ◌==◌, suc, Bool, true, false, ◌&&◌, not, List, [], ◌∷◌, length, Option, Some, None, refl, ap, subst, ◌∙◌}
use Rattle.std.specs.Prelude.{nat_le, option_map}
use Rattle.std.proofs.lemmas.Bool.{leb-true, eqb-true}
use Rattle.ax_lex.specs.declared.keyword.Keyword.{Keyword}
use Rattle.ax_lex.specs.declared.keyword.Keyword.TheVariants as keyword
use Rattle.ax_lex.specs.declared.symbol.Symbol.{Symbol}
use Rattle.ax_lex.specs.declared.symbol.Symbol.TheVariants as symbol
use Rattle.ax_lex.specs.Lexeme.{Lexeme}
use Rattle.ax_tree.specs.declared.members.Member.{Member}
use Rattle.ax_tree.specs.declared.tree.Tree.{Tree}
use Rattle.ax_mean.specs.declared.expr.Expr.{Expr}
use Rattle.ax_mean.specs.declared.expr.Expr.TheVariants as expr
use Rattle.ax_mean.specs.declared.expr.QueryStep.{QueryStep}
use Rattle.ax_mean.specs.declared.operator.UnaryOp.{UnaryOp}
use Rattle.ax_mean.specs.declared.operator.UnaryOp.TheVariants as unary_op
use Rattle.ax_mean.specs.Functions.{takes}
use Rattle.ax_grammar.specs.Expressions.{IsExpr}
use Rattle.ax_grammar.specs.Expressions.IsExpr.{plain_sign, signed, least, plain_postfix, stepped, null, true_value, false_value, undefined, number_value, text_value, parameter_value, called, totalled, alias, bracketed, listed, mapped}
use Rattle.ax_grammar.specs.ExprReader.{stepped_of, constant_of, literal, read_call, read_bracketed, atom_from, read_atom, read_postfix, begins_least, is_minus, after_sign, read_signed, sign_or_postfix, read_sign}
use Rattle.ax_grammar.specs.Fronts.{begins_step}
use Rattle.ax_grammar.specs.Levels.{Level}
use Rattle.ax_grammar.specs.Reading.{Reader, at_once}
use Rattle.ax_grammar.specs.Steps.{AreSteps}
use Rattle.ax_grammar.specs.Steps.AreSteps.{ended, more}
use Rattle.ax_grammar.specs.Tables.{Callee, greatest_literal, least_magnitude, sign_of, callee_of, parameter_of}
use Rattle.ax_grammar.specs.Tables.Callee.{a_function, an_aggregate}
use Rattle.ax_grammar.specs.Takes.{TakesSymbol, TakesName}
use Rattle.ax_grammar.specs.Takes.Mark.{the_symbol}
use Rattle.ax_grammar.specs.Takes.Takes.{symbol_first, keyword_first}
use Rattle.ax_grammar.specs.Takes.TakesName.{name_first}
use Rattle.ax_grammar.specs.Takes.TakesNumber.{number_first}
use Rattle.ax_grammar.specs.Takes.TakesText.{text_first}
use Rattle.ax_grammar.specs.Takes.TakesParameter.{parameter_first}
use Rattle.ax_grammar.proofs.SoundMarks.{gives_where, gives_closed}
use Rattle.ax_grammar.proofs.SoundParts.{gives_within, list_sound, members_sound}
use Rattle.ax_grammar.proofs.SoundReading.{Gives, IsSound, gives_provided, gives_changed, gives_then, gives_with, gives_mapped}
use Rattle.ax_grammar.proofs.SoundReading.Gives.{gives_none, gives}
use Rattle.ax_grammar.proofs.SoundSteps.{TakesOperator, operator_sound, steps_sound}

minus_alone : (which : Symbol) (operator : UnaryOp) → sign_of which ≡ Some operator
    → is_minus operator ≡ true → which ≡ symbol.Minus
minus_alone symbol.Minus operator e m = refl
minus_alone symbol.Plus operator e m =
    let i : unary_op.Plus ≡ operator = cc in
    let k : false ≡ true = ap is_minus i ∙ m in
    absurd (cc)
minus_alone _ operator e m = absurd (cc)

both_hold : (a b : Bool) → (a && b) ≡ true → (a ≡ true) × (b ≡ true)
both_hold true b e = (refl, e)
both_hold false b e = absurd (cc)

not_so : (b : Bool) → not b ≡ true → b ≡ false
not_so true e = absurd (cc)
not_so false e = refl

module _ (params : List (Member Tree)) (n : ℕ) where
  constant_gives : (which : Keyword) (word : List ℕ) (rest : List Lexeme)
      → Gives (IsExpr params n Level.atom (Lexeme.keyword which word ∷ rest))
      (option_map (λ x. (x, rest)) (constant_of which))
  constant_gives keyword.Null word rest = gives (null keyword_first)
  constant_gives keyword.True word rest = gives (true_value keyword_first)
  constant_gives keyword.False word rest = gives (false_value keyword_first)
  constant_gives keyword.Undefined word rest = gives (undefined keyword_first)
  constant_gives _ word rest = gives_none

  call_gives : (reader : Reader Expr) → IsSound (IsExpr params n Level.choice) reader
      → (word : List ℕ) (before bracket inside : List Lexeme) (o : Option Callee)
      → TakesName word before bracket → callee_of word ≡ o
      → TakesSymbol symbol.OpenParenthesis bracket inside
      → Gives (IsExpr params n Level.atom before) (read_call reader o inside)
  call_gives reader s word before bracket inside None t e b = gives_none
  call_gives reader s word before bracket inside (Some (a_function func)) t e b =
      gives_then _
      (list_sound params n (the_symbol symbol.CloseParenthesis) reader s inside)
      (λ args after h. gives_provided (takes func (length args)) (λ k.
      gives (called t e b h k)))
  call_gives reader s word before bracket inside (Some (an_aggregate aggregate)) t e b =
      gives_changed (expr.Total aggregate)
      (gives_closed {Q = λ x after. IsExpr params n Level.atom before (expr.Total aggregate x)
      after} (the_symbol symbol.CloseParenthesis) (s inside) (λ x end after h c.
      totalled t e b h c)) (λ x after h. h)

  bracketed_gives : (reader : Reader Expr) → IsSound (IsExpr params n Level.choice) reader
      → (which : Symbol) (rest : List Lexeme)
      → Gives (IsExpr params n Level.atom (Lexeme.symbol which ∷ rest))
      (read_bracketed reader which rest)
  bracketed_gives reader s symbol.OpenParenthesis rest =
      gives_closed (the_symbol symbol.CloseParenthesis) (s rest) (λ x end after h c.
      bracketed symbol_first h c)
  bracketed_gives reader s symbol.OpenBracket rest =
      gives_changed expr.List
      (gives_within (list_sound params n (the_symbol symbol.CloseBracket) reader s rest))
      (λ items after h. listed symbol_first h.0 h.1)
  bracketed_gives reader s symbol.OpenBrace rest =
      gives_changed expr.Object (gives_within (members_sound params n reader s rest))
      (λ members after h. mapped symbol_first h.0 h.1)
  bracketed_gives reader s _ rest = gives_none

  atom_gives : (reader : Reader Expr) → IsSound (IsExpr params n Level.choice) reader
      → (first : Lexeme) (rest : List Lexeme)
      → Gives (IsExpr params n Level.atom (first ∷ rest)) (atom_from params reader first rest)
  atom_gives reader s (Lexeme.name word) rest =
      gives_where (the_symbol symbol.OpenParenthesis) (read_call reader (callee_of word))
      (at_once (expr.Alias word)) rest
      (λ inside b.
      call_gives reader s word (Lexeme.name word ∷ rest) rest inside (callee_of word) name_first
      refl b) (λ e. gives (alias name_first e))
  atom_gives reader s (Lexeme.keyword which word) rest = constant_gives which word rest
  atom_gives reader s (Lexeme.parameter word) rest =
      gives_mapped rest literal (parameter_of params word) (λ value e.
      parameter_value parameter_first e)
  atom_gives reader s (Lexeme.text value) rest = gives (text_value text_first)
  atom_gives reader s (Lexeme.number value) rest =
      gives_provided (nat_le value greatest_literal) (λ e.
      gives (number_value number_first (leb-true value greatest_literal e)))
  atom_gives reader s (Lexeme.symbol which) rest = bracketed_gives reader s which rest
  atom_gives reader s (Lexeme.nothing kind) rest = gives_none

  pub atom_sound : (reader : Reader Expr) → IsSound (IsExpr params n Level.choice) reader
      → IsSound (IsExpr params n Level.atom) (read_atom params reader)
  atom_sound reader s [] = gives_none
  atom_sound reader s (first ∷ rest) = atom_gives reader s first rest

  stepped_is : {before between after : List Lexeme} {steps : List QueryStep} (x : Expr)
      → IsExpr params n Level.atom before x between → AreSteps steps between after
      → IsExpr params n Level.postfix before (stepped_of x steps) after
  stepped_is x h ended = plain_postfix h
  stepped_is x h (more k m) = stepped h (more k m)

  pub postfix_sound : (reader : Reader Expr) → IsSound (IsExpr params n Level.atom) reader
      → IsSound (IsExpr params n Level.postfix) (read_postfix reader)
  postfix_sound reader s lexemes =
      gives_then _ (s lexemes) (λ x rest h.
      gives_changed (stepped_of x) (steps_sound rest) (λ steps after m. stepped_is x h m))

  least_gives : (operator : UnaryOp) (reader : Reader Expr) (before between : List Lexeme)
      → TakesSymbol symbol.Minus before between → begins_least between ≡ true
      → Gives (IsExpr params (suc n) Level.sign before) (after_sign true operator reader between)
  least_gives operator reader before [] t e = gives_none
  least_gives operator reader before (Lexeme.number value ∷ rest) t e =
      let k : ((value == least_magnitude) ≡ true) × (not (begins_step rest) ≡ true) =
      both_hold _ _ e in
      gives (least t number_first (eqb-true value least_magnitude k.0) (not_so _ k.1))
  least_gives operator reader before (_ ∷ rest) t e = absurd (cc)

  after_sign_gives : (operator : UnaryOp) (which : Symbol) (reader : Reader Expr)
      (before between : List Lexeme) (b : Bool) → (is_minus operator && begins_least between) ≡ b
      → IsSound (IsExpr params n Level.sign) reader → TakesSymbol which before between
      → sign_of which ≡ Some operator
      → Gives (IsExpr params (suc n) Level.sign before) (after_sign b operator reader between)
  after_sign_gives operator which reader before between true b s t e =
      let k : (is_minus operator ≡ true) × (begins_least between ≡ true) = both_hold _ _ b in
      least_gives operator reader before between
      (subst (λ w. TakesSymbol w before between) (minus_alone which operator e k.0) t) k.1
  after_sign_gives operator which reader before between false b s t e =
      gives_changed (expr.Sign operator) (s between) (λ x after h. signed t e h)

  -- what stands behind a sign, one further out
  pub signed_gives : (operator : UnaryOp) (which : Symbol) (reader : Reader Expr)
      (before between : List Lexeme) → IsSound (IsExpr params n Level.sign) reader
      → TakesSymbol which before between → sign_of which ≡ Some operator
      → Gives (IsExpr params (suc n) Level.sign before) (read_signed reader operator between)
  signed_gives operator which reader before between s t e =
      after_sign_gives operator which reader before between
      (is_minus operator && begins_least between) refl s t e

  sign_or_gives : (signed_reader : UnaryOp → Reader Expr) (reader : Reader Expr)
      (lexemes : List Lexeme) {o : Option (UnaryOp × List Lexeme)}
      → ((operator : UnaryOp) (which : Symbol) (before between : List Lexeme)
      → TakesSymbol which before between → sign_of which ≡ Some operator
      → Gives (IsExpr params n Level.sign before) (signed_reader operator between))
      → IsSound (IsExpr params n Level.postfix) reader
      → Gives (TakesOperator sign_of lexemes) o
      → Gives (IsExpr params n Level.sign lexemes) (sign_or_postfix signed_reader reader o lexemes)
  sign_or_gives signed_reader reader lexemes f s gives_none =
      gives_with (s lexemes) (λ x after h. plain_sign h)
  sign_or_gives signed_reader reader lexemes f s (gives {found} h) =
      f found.0 h.which lexemes found.1 h.first h.is_it

  pub sign_sound : (signed_reader : UnaryOp → Reader Expr) (reader : Reader Expr)
      → ((operator : UnaryOp) (which : Symbol) (before between : List Lexeme)
      → TakesSymbol which before between → sign_of which ≡ Some operator
      → Gives (IsExpr params n Level.sign before) (signed_reader operator between))
      → IsSound (IsExpr params n Level.postfix) reader
      → IsSound (IsExpr params n Level.sign) (read_sign signed_reader reader)
  sign_sound signed_reader reader f s lexemes =
      sign_or_gives signed_reader reader lexemes f s (operator_sound sign_of lexemes)
