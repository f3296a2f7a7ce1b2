use Rattle.std.proofs.Common.{◌≡◌, ◌++◌, drop}
use Rattle.ax_lex.specs.Lexemes.{lexemes_of}
use Rattle.ax_parse.specs.Said.{all_said, HaveUtf8}
use Rattle.ax_parse.proofs.lexeme.lexemes.Given as goal

abbrev pub invariant-loop-token : goal.invariant-loop-token
invariant-loop-token l = record {
  made : all_said l.found.items ++ lexemes_of l.text (drop l.token-index l.tokens) ≡ lexemes_of
      l.text l.tokens;
  words : HaveUtf8 (lexemes_of l.text l.tokens) → HaveUtf8
      (lexemes_of l.text (drop l.token-index l.tokens));
}
