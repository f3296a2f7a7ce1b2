-- An expression begins with a lexeme that may begin one of its level.
use Rattle.std.proofs.Common.{arith, ◌≡◌, ℕ, List, [], ◌∷◌, true, refl, Some}
use Rattle.std.specs.Prelude.{nat_le}
use Rattle.ax_lex.specs.Lexeme.{Lexeme}
use Rattle.ax_lex.specs.declared.keyword.Keyword.{Keyword}
use Rattle.ax_lex.specs.declared.symbol.Symbol.{Symbol}
use Rattle.ax_lex.specs.declared.symbol.Symbol.TheVariants as symbol
use Rattle.ax_tree.specs.declared.members.Member.{Member}
use Rattle.ax_tree.specs.declared.tree.Tree.{Tree}
use Rattle.ax_mean.specs.declared.expr.Expr.{Expr}
use Rattle.ax_mean.specs.declared.operator.UnaryOp.{UnaryOp}
use Rattle.ax_grammar.specs.Expressions.{IsExpr}
use Rattle.ax_grammar.specs.Expressions.IsExpr.{plain_choice, chosen, plain_coalesce, coalesced, plain_disjunction, disjoined, plain_conjunction, conjoined, plain_negation, denied, plain_comparison, compared, among, ranged, like, plain_concatenation, concatenated, plain_sum, summed, plain_product, multiplied, plain_sign, signed, least, plain_postfix, stepped, null, true_value, false_value, undefined, number_value, text_value, parameter_value, called, totalled, alias, bracketed, listed, mapped}
use Rattle.ax_grammar.specs.Fronts.{opens, opening, symbol_opening, keyword_opening}
use Rattle.ax_grammar.specs.Levels.{Level, distance}
use Rattle.ax_grammar.specs.Tables.{sign_of}
use Rattle.ax_grammar.specs.Takes.{TakesSymbol, TakesKeyword, TakesName, TakesNumber, TakesText, TakesParameter}
use Rattle.ax_grammar.specs.Takes.Takes.{symbol_first, keyword_first}
use Rattle.ax_grammar.specs.Takes.TakesName.{name_first}
use Rattle.ax_grammar.specs.Takes.TakesNumber.{number_first}
use Rattle.ax_grammar.specs.Takes.TakesText.{text_first}
use Rattle.ax_grammar.specs.Takes.TakesParameter.{parameter_first}

within_distance : (a b c : ℕ) → nat_le b c ≡ true → nat_le a b ≡ true → nat_le a c ≡ true
within_distance a b c h k = grind (arith)

-- what begins a level begins each level further out
pub opens_wider : (inner outer : Level) (lexemes : List Lexeme)
    → nat_le (distance inner) (distance outer) ≡ true → opens inner lexemes ≡ true
    → opens outer lexemes ≡ true
unfolding opens
opens_wider inner outer [] le o = o
opens_wider inner outer (first ∷ rest) le o = within_distance (opening first) (distance inner) (distance outer) le o

sign_opens : (which : Symbol) {operator : UnaryOp} → sign_of which ≡ Some operator
    → nat_le (symbol_opening which) 2 ≡ true
sign_opens symbol.Minus e = refl
sign_opens symbol.Plus e = refl
sign_opens _ e = search

pub symbol_opens : (level : Level) {which : Symbol} {before after : List Lexeme}
    → TakesSymbol which before after → nat_le (symbol_opening which) (distance level) ≡ true
    → opens level before ≡ true
unfolding opens
symbol_opens level symbol_first h = h

pub keyword_opens : (level : Level) {which : Keyword} {before after : List Lexeme}
    → TakesKeyword which before after → nat_le (keyword_opening which) (distance level) ≡ true
    → opens level before ≡ true
unfolding opens
keyword_opens level keyword_first h = h

pub name_opens : {word : List ℕ} {before after : List Lexeme} → TakesName word before after
    → opens Level.atom before ≡ true
unfolding opens
name_opens name_first = refl

pub number_opens : {value : ℕ} {before after : List Lexeme} → TakesNumber value before after
    → opens Level.atom before ≡ true
unfolding opens
number_opens number_first = refl

pub text_opens : {value : List ℕ} {before after : List Lexeme} → TakesText value before after
    → opens Level.atom before ≡ true
unfolding opens
text_opens text_first = refl

pub parameter_opens : {word : List ℕ} {before after : List Lexeme}
    → TakesParameter word before after → opens Level.atom before ≡ true
unfolding opens
parameter_opens parameter_first = refl

pub opens_of : {params : List (Member Tree)} {n : ℕ} {level : Level} {x : Expr}
    {before after : List Lexeme} → IsExpr params n level before x after
    → opens level before ≡ true
opens_of (plain_choice d) = opens_wider Level.coalesce Level.choice _ refl (opens_of d)
opens_of (chosen d m y c z) = opens_wider Level.coalesce Level.choice _ refl (opens_of d)
opens_of (plain_coalesce d) = opens_wider Level.disjunction Level.coalesce _ refl (opens_of d)
opens_of (coalesced d f) = opens_wider Level.disjunction Level.coalesce _ refl (opens_of d)
opens_of (plain_disjunction d) = opens_wider Level.conjunction Level.disjunction _ refl (opens_of d)
opens_of (disjoined d f) = opens_wider Level.conjunction Level.disjunction _ refl (opens_of d)
opens_of (plain_conjunction d) = opens_wider Level.negation Level.conjunction _ refl (opens_of d)
opens_of (conjoined d f) = opens_wider Level.negation Level.conjunction _ refl (opens_of d)
opens_of (plain_negation d) = opens_wider Level.comparison Level.negation _ refl (opens_of d)
opens_of (denied t d) = keyword_opens Level.negation t refl
opens_of (plain_comparison d) = opens_wider Level.concatenation Level.comparison _ refl (opens_of d)
opens_of (compared d t e r) = opens_wider Level.concatenation Level.comparison _ refl (opens_of d)
opens_of (among d m k o i f l c) = opens_wider Level.concatenation Level.comparison _ refl (opens_of d)
opens_of (ranged d m k l a h) = opens_wider Level.concatenation Level.comparison _ refl (opens_of d)
opens_of (like d m k p) = opens_wider Level.concatenation Level.comparison _ refl (opens_of d)
opens_of (plain_concatenation d) = opens_wider Level.sum Level.concatenation _ refl (opens_of d)
opens_of (concatenated d f) = opens_wider Level.sum Level.concatenation _ refl (opens_of d)
opens_of (plain_sum d) = opens_wider Level.product Level.sum _ refl (opens_of d)
opens_of (summed d f) = opens_wider Level.product Level.sum _ refl (opens_of d)
opens_of (plain_product d) = opens_wider Level.sign Level.product _ refl (opens_of d)
opens_of (multiplied d f) = opens_wider Level.sign Level.product _ refl (opens_of d)
opens_of (plain_sign d) = opens_wider Level.postfix Level.sign _ refl (opens_of d)
opens_of (signed {which} t e d) =
    symbol_opens Level.sign t (sign_opens which e)
opens_of (least t m e s) = symbol_opens Level.sign t refl
opens_of (plain_postfix d) = opens_wider Level.atom Level.postfix _ refl (opens_of d)
opens_of (stepped d s) = opens_wider Level.atom Level.postfix _ refl (opens_of d)
opens_of (null t) = keyword_opens Level.atom t refl
opens_of (true_value t) = keyword_opens Level.atom t refl
opens_of (false_value t) = keyword_opens Level.atom t refl
opens_of (undefined t) = keyword_opens Level.atom t refl
opens_of (number_value t l) = number_opens t
opens_of (text_value t) = text_opens t
opens_of (parameter_value t e) = parameter_opens t
opens_of (called t e o l k) = name_opens t
opens_of (totalled t e o d c) = name_opens t
opens_of (alias t e) = name_opens t
opens_of (bracketed t d c) = symbol_opens Level.atom t refl
opens_of (listed t l k) = symbol_opens Level.atom t refl
opens_of (mapped t l k) = symbol_opens Level.atom t refl
