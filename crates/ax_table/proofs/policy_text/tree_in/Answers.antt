use Rattle.std.proofs.Common.{Err, ap}
use Rattle.std.proofs.lemmas.Bool.{both_ways}
use Rattle.ax_table.proofs.PolicyTexts.{no_json, not_spelled, not_whole}
use Rattle.ax_table.proofs.policy_text.tree_in.Goals as goal

pub returns-in-Err-Json-clause-outside : goal.returns-in-Err-Json-clause-outside
returns-in-Err-Json-clause-outside c = λ is.
    no_json c.canonical_text_reads_back.ensures c.args.text.now (c.in-Err-Json.ensures.json (ap (λ fault. Err fault) c.in-Err-Json.field-0-is))

pub returns-in-Err-Number-clause-outside : goal.returns-in-Err-Number-clause-outside
returns-in-Err-Number-clause-outside c = λ is.
    not_whole c.canonical_text_reads_back.ensures c.args.text.now (c.in-Err-Number.ensures.number (ap (λ fault. Err fault) c.in-Err-Number.field-0-is))

pub returns-in-Ok-false-clause-outside : goal.returns-in-Ok-false-clause-outside
returns-in-Ok-false-clause-outside c = λ is.
    not_spelled c.canonical_text_reads_back.ensures c.args.text.now c.in-Ok.tree c.in-Ok.ensures.tree
    (λ same. both_ways c.in-Ok-false.field-0 c.in-Ok-false.field-0-test (c.in-Ok-false.ensures.no same))
