-- Every phrase takes at least one lexeme.
use Rattle.std.proofs.Common.{ℕ, ◌≤◌, ◌<◌, Bool, List, length, arith}
use Rattle.ax_lex.specs.Lexeme.{Lexeme}
use Rattle.ax_mean.specs.declared.expr.Chained.{Chained}
use Rattle.ax_mean.specs.declared.expr.Expr.{Expr}
use Rattle.ax_mean.specs.declared.expr.QueryStep.{QueryStep}
use Rattle.ax_tree.specs.declared.members.Member.{Member}
use Rattle.ax_tree.specs.declared.tree.Tree.{Tree}
use Rattle.ax_grammar.specs.Expressions.{MayBeNegated, IsExpr, Follow, AreChained, AreListed, IsMember, MembersFollow, AreMembers}
use Rattle.ax_grammar.specs.Expressions.MayBeNegated.{plain, negated as with_not}
use Rattle.ax_grammar.specs.Expressions.IsExpr.{plain_choice, chosen, plain_coalesce, coalesced, plain_disjunction, disjoined, plain_conjunction, conjoined, plain_negation, denied, plain_comparison, compared, among, ranged, like, plain_concatenation, concatenated, plain_sum, summed, plain_product, multiplied, plain_sign, signed, least, plain_postfix, stepped, null, true_value, false_value, undefined, number_value, text_value, parameter_value, called, totalled, alias, bracketed, listed, mapped}
use Rattle.ax_grammar.specs.Expressions.Follow.{followed_by_none, followed_by}
use Rattle.ax_grammar.specs.Expressions.AreChained.{chain_ended, chain_goes_on}
use Rattle.ax_grammar.specs.Expressions.AreListed.{empty_list, full_list}
use Rattle.ax_grammar.specs.Expressions.IsMember.{labelled}
use Rattle.ax_grammar.specs.Expressions.MembersFollow.{no_member_follows, member_follows}
use Rattle.ax_grammar.specs.Expressions.AreMembers.{empty_map, full_map}
use Rattle.ax_grammar.specs.Levels.{Level}
use Rattle.ax_grammar.specs.Steps.{IsNameStep, IsStep, AreSteps}
use Rattle.ax_grammar.specs.Steps.IsNameStep.{dotted, quoted}
use Rattle.ax_grammar.specs.Steps.IsStep.{named, positioned}
use Rattle.ax_grammar.specs.Steps.AreSteps.{ended, more}
use Rattle.ax_grammar.specs.Takes.{Mark, Takes, TakesName, TakesWord, TakesText, TakesNumber, TakesParameter, TakesLabel}
use Rattle.ax_grammar.specs.Takes.Takes.{symbol_first, keyword_first}
use Rattle.ax_grammar.specs.Takes.TakesName.{name_first}
use Rattle.ax_grammar.specs.Takes.TakesWord.{name_as_word, keyword_as_word}
use Rattle.ax_grammar.specs.Takes.TakesText.{text_first}
use Rattle.ax_grammar.specs.Takes.TakesNumber.{number_first}
use Rattle.ax_grammar.specs.Takes.TakesParameter.{parameter_first}
use Rattle.ax_grammar.specs.Takes.TakesLabel.{word_as_label, text_as_label}

pub mark_shorter : {mark : Mark} {before after : List Lexeme} → Takes mark before after
    → length after < length before
mark_shorter symbol_first = omega arith
mark_shorter keyword_first = omega arith

pub name_shorter : {word : List ℕ} {before after : List Lexeme} → TakesName word before after
    → length after < length before
name_shorter name_first = omega arith

pub word_shorter : {word : List ℕ} {before after : List Lexeme} → TakesWord word before after
    → length after < length before
word_shorter name_as_word = omega arith
word_shorter keyword_as_word = omega arith

pub text_shorter : {value : List ℕ} {before after : List Lexeme} → TakesText value before after
    → length after < length before
text_shorter text_first = omega arith

pub number_shorter : {value : ℕ} {before after : List Lexeme} → TakesNumber value before after
    → length after < length before
number_shorter number_first = omega arith

pub parameter_shorter : {word : List ℕ} {before after : List Lexeme}
    → TakesParameter word before after → length after < length before
parameter_shorter parameter_first = omega arith

pub label_shorter : {label : List ℕ} {before after : List Lexeme}
    → TakesLabel label before after → length after < length before
label_shorter (word_as_label w) = word_shorter w
label_shorter (text_as_label t) = text_shorter t

pub name_step_shorter : {name : List ℕ} {before after : List Lexeme}
    → IsNameStep name before after → length after < length before
name_step_shorter (dotted d w) = omega (arith, mark_shorter d, word_shorter w)
name_step_shorter (quoted o t c) =
    omega (arith, mark_shorter o, text_shorter t, mark_shorter c)

pub step_shorter : {step : QueryStep} {before after : List Lexeme} → IsStep step before after
    → length after < length before
step_shorter (named s) = name_step_shorter s
step_shorter (positioned o n l c) =
    omega (arith, mark_shorter o, number_shorter n, mark_shorter c)

pub steps_no_longer : {steps : List QueryStep} {before after : List Lexeme}
    → AreSteps steps before after → length after ≤ length before
steps_no_longer ended = omega arith
steps_no_longer (more s ss) = omega (arith, step_shorter s, steps_no_longer ss)

negation_no_longer : {negated : Bool} {before after : List Lexeme}
    → MayBeNegated negated before after → length after ≤ length before
negation_no_longer plain = omega arith
negation_no_longer (with_not n) = omega (arith, mark_shorter n)

mutual
  pub shorter : {params : List (Member Tree)} {n : ℕ} {level : Level} {before : List Lexeme}
      {x : Expr} {after : List Lexeme} → IsExpr params n level before x after
      → length after < length before
  shorter (plain_choice a) = shorter a
  shorter (chosen a q b c d) =
      omega (arith, shorter a, mark_shorter q, shorter b, mark_shorter c, shorter d)
  shorter (plain_coalesce a) = shorter a
  shorter (coalesced a f) = omega (arith, shorter a, follow_no_longer f)
  shorter (plain_disjunction a) = shorter a
  shorter (disjoined a f) = omega (arith, shorter a, follow_no_longer f)
  shorter (plain_conjunction a) = shorter a
  shorter (conjoined a f) = omega (arith, shorter a, follow_no_longer f)
  shorter (plain_negation a) = shorter a
  shorter (denied m a) = omega (arith, mark_shorter m, shorter a)
  shorter (plain_comparison a) = shorter a
  shorter (compared a m c b) = omega (arith, shorter a, mark_shorter m, shorter b)
  shorter (among a m i p f fs l c) =
      omega (
        arith,
        shorter a,
        negation_no_longer m,
        mark_shorter i,
        mark_shorter p,
        shorter f,
        follow_no_longer fs,
        mark_shorter c,
      )
  shorter (ranged a m w l c h) =
      omega (
        arith,
        shorter a,
        negation_no_longer m,
        mark_shorter w,
        shorter l,
        mark_shorter c,
        shorter h,
      )
  shorter (like a m w p) =
      omega (arith, shorter a, negation_no_longer m, mark_shorter w, shorter p)
  shorter (plain_concatenation a) = shorter a
  shorter (concatenated a f) = omega (arith, shorter a, follow_no_longer f)
  shorter (plain_sum a) = shorter a
  shorter (summed a f) = omega (arith, shorter a, chained_no_longer f)
  shorter (plain_product a) = shorter a
  shorter (multiplied a f) = omega (arith, shorter a, chained_no_longer f)
  shorter (plain_sign a) = shorter a
  shorter (signed t e a) = omega (arith, mark_shorter t, shorter a)
  shorter (least t v e s) = omega (arith, mark_shorter t, number_shorter v)
  shorter (plain_postfix a) = shorter a
  shorter (stepped a s) = omega (arith, shorter a, steps_no_longer s)
  shorter (null m) = mark_shorter m
  shorter (true_value m) = mark_shorter m
  shorter (false_value m) = mark_shorter m
  shorter (undefined m) = mark_shorter m
  shorter (number_value v l) = number_shorter v
  shorter (text_value v) = text_shorter v
  shorter (parameter_value v e) = parameter_shorter v
  shorter (called w c p l t) = omega (arith, name_shorter w, mark_shorter p, listed_shorter l)
  shorter (totalled w c p x e) =
      omega (arith, name_shorter w, mark_shorter p, shorter x, mark_shorter e)
  shorter (alias w e) = name_shorter w
  shorter (bracketed o x e) = omega (arith, mark_shorter o, shorter x, mark_shorter e)
  shorter (listed o l e) = omega (arith, mark_shorter o, listed_shorter l)
  shorter (mapped o l e) = omega (arith, mark_shorter o, members_shorter l)

  follow_no_longer : {params : List (Member Tree)} {n : ℕ} {operand : Level} {mark : Mark}
      {before : List Lexeme} {xs : List Expr} {after : List Lexeme}
      → Follow params n operand mark before xs after → length after ≤ length before
  follow_no_longer followed_by_none = omega arith
  follow_no_longer (followed_by m a f) =
      omega (arith, mark_shorter m, shorter a, follow_no_longer f)

  chained_no_longer : {params : List (Member Tree)} {n : ℕ} {operand : Level}
      {before : List Lexeme} {cs : List (Chained Expr)} {after : List Lexeme}
      → AreChained params n operand before cs after → length after ≤ length before
  chained_no_longer chain_ended = omega arith
  chained_no_longer (chain_goes_on m e a f) =
      omega (arith, mark_shorter m, shorter a, chained_no_longer f)

  listed_shorter : {params : List (Member Tree)} {n : ℕ} {close : Mark} {before : List Lexeme}
      {xs : List Expr} {after : List Lexeme} → AreListed params n close before xs after
      → length after < length before
  listed_shorter (empty_list m) = mark_shorter m
  listed_shorter (full_list a f m) = omega (arith, shorter a, follow_no_longer f, mark_shorter m)

  pub member_shorter : {params : List (Member Tree)} {n : ℕ} {before : List Lexeme}
      {m : Member Expr} {after : List Lexeme} → IsMember params n before m after
      → length after < length before
  member_shorter (labelled l c a) = omega (arith, label_shorter l, mark_shorter c, shorter a)

  members_no_longer : {params : List (Member Tree)} {n : ℕ} {before : List Lexeme}
      {ms : List (Member Expr)} {after : List Lexeme} → MembersFollow params n before ms after
      → length after ≤ length before
  members_no_longer no_member_follows = omega arith
  members_no_longer (member_follows c m f) =
      omega (arith, mark_shorter c, member_shorter m, members_no_longer f)

  members_shorter : {params : List (Member Tree)} {n : ℕ} {before : List Lexeme}
      {ms : List (Member Expr)} {after : List Lexeme} → AreMembers params n before ms after
      → length after < length before
  members_shorter (empty_map m) = mark_shorter m
  members_shorter (full_map m f c) =
      omega (arith, member_shorter m, members_no_longer f, mark_shorter c)
