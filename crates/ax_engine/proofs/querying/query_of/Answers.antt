-- A text that is refused is no query.
use Rattle.std.proofs.Common.{Err, ap, ◌∙◌}
use Rattle.ax_grammar.specs.Query.{query_in}
use Rattle.ax_engine.proofs.QueryTexts.{no_query}
use Rattle.ax_engine.proofs.querying.query_of.Goals as goal

pub returns-in-Err-Text : goal.returns-in-Err-Text
returns-in-Err-Text c =
    no_query c.as_bytes.result.now c.args.body.now.params
    (c.in-Err-Text.ensures.refused (ap (λ fault. Err fault) c.in-Err-Text.field-0-is))
    ∙ ap (query_in c.args.body.now.params) (c.as_bytes.ensures.value ∙ c.as_str.ensures.text)
