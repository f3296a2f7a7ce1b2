-- An expression of a query is what is read at a choice, where nothing is inside yet.
use Rattle.std.proofs.Common.{◌≡◌, List, refl}
use Rattle.ax_lex.specs.declared.symbol.Symbol.TheVariants.{Comma}
use Rattle.ax_lex.specs.Lexeme.{Lexeme}
use Rattle.ax_tree.specs.declared.members.Member.{Member}
use Rattle.ax_tree.specs.declared.tree.Tree.{Tree}
use Rattle.ax_grammar.specs.ExprReader.{read_expr}
use Rattle.ax_grammar.specs.Levels.{Level}
use Rattle.ax_grammar.specs.Reading.{parted}
use Rattle.ax_grammar.specs.Takes.Mark.{the_symbol}
use Rattle.ax_parse.specs.Levels.{read_at}

module _ (params : List (Member Tree)) (lexemes : List Lexeme) where
  pub expr_at : read_at params 64 Level.choice lexemes ≡ read_expr params lexemes
  unfolding read_at
  expr_at = refl

  pub exprs_at : parted (the_symbol Comma) (read_at params 64 Level.choice) lexemes
      ≡ parted (the_symbol Comma) (read_expr params) lexemes
  unfolding read_at
  exprs_at = refl
