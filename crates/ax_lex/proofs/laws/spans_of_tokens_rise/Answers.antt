use Rattle.ax_lex.proofs.SpanLaws.{all_rise}
use Rattle.ax_lex.proofs.laws.spans_of_tokens_rise.Goals as goal

pub returns : goal.returns
returns c text tokens lexemes h = all_rise text tokens lexemes h.reads
