use Rattle.std.proofs.Common.{Err, ap, subst, sym}
use Rattle.ax_pages.specs.declared.page.Page.TheVariants.{Policy}
use Rattle.ax_image_grammar.specs.Payloads.{IsTextOf}
use Rattle.ax_table.proofs.TableLaws.{one_part}
use Rattle.ax_table.proofs.Telling.{placed_apart, spoiled_told}
use Rattle.ax_table.proofs.policies.policy_read.Goals as goal

pub damaged_at-requires : goal.damaged_at-requires
damaged_at-requires g c = one_part _ c.requires.part

pub returns-in-Ok-clause-text : goal.returns-in-Ok-clause-text
returns-in-Ok-clause-text g c = λ text read. subst (λ t. IsTextOf t c.in-Ok.policy) (c.text_in.ensures text read) c.in-Ok.ensures.policy

pub returns-in-Err-Outside-clause-told : goal.returns-in-Err-Outside-clause-told
returns-in-Err-Outside-clause-told g c = λ text held read.
    spoiled_told c.args.number c.args.store.now text c.damaged_at.result held
    (λ policy of. c.in-Err-Outside.ensures.outside (ap (λ fault. Err fault) c.in-Err-Outside.field-0-is) policy (subst (λ t. IsTextOf t policy) (sym
    (c.text_in.ensures text read)) of)) c.damaged_at.ensures

pub returns-in-Err-Outside-clause-fault : goal.returns-in-Err-Outside-clause-fault
returns-in-Err-Outside-clause-fault g c = placed_apart c.args.store.now (Policy c.args.number) c.damaged_at.result c.damaged_at.ensures
