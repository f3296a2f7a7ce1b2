-- The bytes of a word tell its token.
use Rattle.ax_token.proofs.Words.{read_fits, read_found, read_none}
use Rattle.ax_token.proofs.reading.read_token.Goals as goal

pub returns-in-Ok-Some-clause-found : goal.returns-in-Ok-Some-clause-found
returns-in-Ok-Some-clause-found c =
    read_found c.args.word.now c.in-Ok-Some.bytes.items c.as_slice.result.now c.token_of_bytes.result
    (record {
      fit = rw c.in-Ok-Some.field-0-is at c.in-Ok-Some.ensures.fit;
      spelled = rw c.in-Ok-Some.field-0-is at c.in-Ok-Some.ensures.found;
    })
    c.as_slice.ensures.value c.token_of_bytes.ensures

pub returns-in-Ok-Some-clause-none : goal.returns-in-Ok-Some-clause-none
returns-in-Ok-Some-clause-none c =
    read_none c.args.word.now c.in-Ok-Some.bytes.items c.as_slice.result.now c.token_of_bytes.result
    (record {
      fit = rw c.in-Ok-Some.field-0-is at c.in-Ok-Some.ensures.fit;
      spelled = rw c.in-Ok-Some.field-0-is at c.in-Ok-Some.ensures.found;
    })
    c.as_slice.ensures.value c.token_of_bytes.ensures

pub returns-in-Ok-Some-clause-fits : goal.returns-in-Ok-Some-clause-fits
returns-in-Ok-Some-clause-fits c =
    read_fits c.args.word.now c.token_of_bytes.result (returns-in-Ok-Some-clause-found c)
