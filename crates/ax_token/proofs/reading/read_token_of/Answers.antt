-- The bytes of a word tell its token.
use Rattle.ax_token.proofs.Words.{of_query_fits, of_query_found, of_query_none}
use Rattle.ax_token.proofs.reading.read_token_of.Goals as goal

pub returns-in-Ok-Some-clause-found : goal.returns-in-Ok-Some-clause-found
returns-in-Ok-Some-clause-found c =
    of_query_found c.args.word.now c.in-Ok-Some.bytes.items c.as_slice.result.now c.args.text.now c.args.params.now
    c.token_of_query.result
    (record {
      fit = rw c.in-Ok-Some.field-0-is at c.in-Ok-Some.ensures.fit;
      spelled = rw c.in-Ok-Some.field-0-is at c.in-Ok-Some.ensures.found;
    })
    c.as_slice.ensures.value c.token_of_query.ensures

pub returns-in-Ok-Some-clause-none : goal.returns-in-Ok-Some-clause-none
returns-in-Ok-Some-clause-none c =
    of_query_none c.args.word.now c.in-Ok-Some.bytes.items c.as_slice.result.now c.args.text.now c.args.params.now
    c.token_of_query.result
    (record {
      fit = rw c.in-Ok-Some.field-0-is at c.in-Ok-Some.ensures.fit;
      spelled = rw c.in-Ok-Some.field-0-is at c.in-Ok-Some.ensures.found;
    })
    c.as_slice.ensures.value c.token_of_query.ensures

pub returns-in-Ok-Some-clause-fits : goal.returns-in-Ok-Some-clause-fits
returns-in-Ok-Some-clause-fits c =
    of_query_fits c.args.word.now c.args.text.now c.args.params.now c.token_of_query.result (returns-in-Ok-Some-clause-found c)
