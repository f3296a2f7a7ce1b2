-- The marks in memory as those of the grammar.
use Rattle.ax_grammar.specs.Takes as grammar
use Rattle.ax_parse.specs.declared.mark.Mark.{Mark}
use Rattle.ax_parse.specs.declared.mark.Mark.TheVariants as mark

abbrev pub mark_of : Mark → grammar.Mark
mark_of (mark.Symbol which) = grammar.Mark.the_symbol which
mark_of (mark.Keyword which) = grammar.Mark.the_keyword which
