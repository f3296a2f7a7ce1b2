-- The parser refuses the text as no query.
use Rattle.std.proofs.Common.{rules}
use Rattle.ax_plain.proofs.Parsed.{query_refused}
use Rattle.ax_plain.proofs.query_rows.query_in.Goals as goal

pub returns-in-Err-Text : goal.returns-in-Err-Text
returns-in-Err-Text c = search (rules, query_refused _ _ (c.in-Err-Text.ensures.refused (search rules)))
