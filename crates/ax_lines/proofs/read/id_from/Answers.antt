use Rattle.std.proofs.Common.{sym, ap, ◌∙◌}
use Rattle.ax_tree.specs.Document.{is_id}
use Rattle.ax_lines.proofs.Ids.{refused_bytes, not_refused, is_id_text}
use Rattle.ax_lines.proofs.read.id_from.Goals as goal

pub returns-in_default-clause-refused : goal.returns-in_default-clause-refused
returns-in_default-clause-refused c = λ answer.
    refused_bytes c.args.id.now answer (λ utf8. c.in_default.ensures.cases.0 utf8)

pub returns-in-Ok-from_str-clause-allowed : goal.returns-in-Ok-from_str-clause-allowed
returns-in-Ok-from_str-clause-allowed c =
    is_id_text c.args.id.now c.from_string.result
    (c.from_string.ensures ∙ c.in-Ok-from_str.ensures.ok ∙ c.in-Ok.ensures.cases.0)
    c.in-Ok.ensures.cases.1
    (ap is_id (sym c.in-Ok.ensures.cases.0) ∙ sym c.if-not-may_be_id.ensures)

pub returns-in-Ok-from_str-clause-answered : goal.returns-in-Ok-from_str-clause-answered
returns-in-Ok-from_str-clause-answered c = λ answer.
    not_refused c.args.id.now answer c.in-Ok.ensures.cases.1
    (ap is_id (sym c.in-Ok.ensures.cases.0) ∙ sym c.if-not-may_be_id.ensures)

pub returns-in-Err-clause-memory : goal.returns-in-Err-clause-memory
returns-in-Err-clause-memory c = λ is answer.
    not_refused c.args.id.now answer c.in-Ok.ensures.cases.1
    (ap is_id (sym c.in-Ok.ensures.cases.0) ∙ sym c.if-not-may_be_id.ensures)
