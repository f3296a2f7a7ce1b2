-- What is read at each level, from what is read at the levels within; and where a level stands in the
-- measure of the functions that read them.
use Rattle.std.proofs.Common.{◌≡◌, ℕ, suc, List, None, refl, ap, ◌∙◌}
use Rattle.ax_lex.specs.Lexeme.{Lexeme}
use Rattle.ax_tree.specs.declared.members.Member.{Member}
use Rattle.ax_tree.specs.declared.tree.Tree.{Tree}
use Rattle.ax_mean.specs.declared.expr.Expr.TheVariants as expr
use Rattle.ax_mean.specs.declared.operator.UnaryOp.{UnaryOp}
use Rattle.ax_grammar.specs.ExprReader.{inner_at, read_choice, read_signed}
use Rattle.ax_grammar.specs.Levels as grammar
use Rattle.ax_grammar.specs.Reading.{changed}
use Rattle.ax_parse.specs.declared.level.Level.{Level}
use Rattle.ax_parse.specs.declared.level.Level.TheVariants as level
use Rattle.ax_parse.specs.Levels.{level_of, read_at, read_by, denied_at, signed_at}

abbrev pub place : Level → ℕ
place level.Choice = 2
place level.Atom = 14
place level.Postfix = 17
place level.Sign = 20
place level.Product = 25
place level.Sum = 30
place level.Concatenation = 35
place level.Comparison = 43
place level.Negation = 46
place level.Conjunction = 51
place level.Disjunction = 56
place level.Coalesce = 61

module _ (params : List (Member Tree)) (n : ℕ) (lexemes : List Lexeme) where
  pub by_level : (which : Level)
      → read_at params n (level_of which) lexemes ≡ read_by params n which lexemes
  unfolding read_at denied_at signed_at
  by_level level.Choice = refl
  by_level level.Coalesce = refl
  by_level level.Disjunction = refl
  by_level level.Conjunction = refl
  by_level level.Negation = refl
  by_level level.Comparison = refl
  by_level level.Concatenation = refl
  by_level level.Sum = refl
  by_level level.Product = refl
  by_level level.Sign = refl
  by_level level.Postfix = refl
  by_level level.Atom = refl

  at_choice : read_at params (suc n) grammar.Level.choice lexemes
      ≡ read_choice (read_at params n grammar.Level.coalesce)
      (read_at params n grammar.Level.choice) lexemes
  unfolding read_at inner_at
  at_choice = refl

  at_denied : denied_at params (suc n) lexemes
      ≡ changed expr.Not (read_at params n grammar.Level.negation lexemes)
  unfolding denied_at read_at inner_at
  at_denied = refl

  at_signed : (op : UnaryOp) → signed_at params (suc n) op lexemes
      ≡ read_signed (read_at params n grammar.Level.sign) op lexemes
  unfolding signed_at read_at inner_at
  at_signed op = refl

module _ (params : List (Member Tree)) (lexemes : List Lexeme) where
  no_choice : read_at params 0 grammar.Level.choice lexemes ≡ None
  unfolding read_at inner_at
  no_choice = refl

  none_denied : denied_at params 0 lexemes ≡ None
  unfolding denied_at inner_at
  none_denied = refl

  none_signed : (op : UnaryOp) → signed_at params 0 op lexemes ≡ None
  unfolding signed_at inner_at
  none_signed op = refl

-- of a depth that is known by an equation
module _ (params : List (Member Tree)) (depth : ℕ) (lexemes : List Lexeme) where
  pub choice_inside : (n : ℕ) → depth ≡ suc n
      → read_at params depth grammar.Level.choice lexemes
      ≡ read_choice (read_at params n grammar.Level.coalesce)
      (read_at params n grammar.Level.choice) lexemes
  choice_inside n e =
      ap (λ d. read_at params d grammar.Level.choice lexemes) e ∙ at_choice params n lexemes

  pub choice_none : depth ≡ 0 → read_at params depth grammar.Level.choice lexemes ≡ None
  choice_none e =
      ap (λ d. read_at params d grammar.Level.choice lexemes) e ∙ no_choice params lexemes

  pub denied_inside : (n : ℕ) → depth ≡ suc n → denied_at params depth lexemes
      ≡ changed expr.Not (read_at params n grammar.Level.negation lexemes)
  denied_inside n e = ap (λ d. denied_at params d lexemes) e ∙ at_denied params n lexemes

  pub denied_none : depth ≡ 0 → denied_at params depth lexemes ≡ None
  denied_none e = ap (λ d. denied_at params d lexemes) e ∙ none_denied params lexemes

  pub signed_inside : (op : UnaryOp) (n : ℕ) → depth ≡ suc n → signed_at params depth op lexemes
      ≡ read_signed (read_at params n grammar.Level.sign) op lexemes
  signed_inside op n e =
      ap (λ d. signed_at params d op lexemes) e ∙ at_signed params n lexemes op

  pub signed_none : (op : UnaryOp) → depth ≡ 0 → signed_at params depth op lexemes ≡ None
  signed_none op e = ap (λ d. signed_at params d op lexemes) e ∙ none_signed params lexemes op
