use Rattle.std.proofs.Common.{ap, sym, ◌∙◌}
use Rattle.std.specs.FinMap as map
use Rattle.ax_store.specs.Listed.{Listed}
use Rattle.ax_store.specs.Rows.{payload_kept, offset_kept}
use Rattle.ax_store.proofs.RowMaps.{shown_at, get_in_gap}
use Rattle.ax_store.proofs.directory.Directory.get.Goals as goal

pub returns-in-Ok-clause-payload : goal.returns-in-Ok-clause-payload
returns-in-Ok-clause-payload c =
    let at = rw c.deref.ensures.value at c.in-Ok.ensures.found in
    shown_at payload_kept c.self.inside.rows.items c.self.invariant.0 c.args.number c.in-Ok.at c.index.result.now c.as_ref.result at
    c.index.ensures c.as_ref.ensures.value
    ∙ ap (λ (listed : Listed). map.get listed.payloads c.args.number) c.self.view_is

pub returns-in-Ok-clause-offset : goal.returns-in-Ok-clause-offset
returns-in-Ok-clause-offset c =
    let at = rw c.deref.ensures.value at c.in-Ok.ensures.found in
    shown_at offset_kept c.self.inside.rows.items c.self.invariant.0 c.args.number c.in-Ok.at c.index.result.now c.as_ref.result at
    c.index.ensures c.as_ref.ensures.value
    ∙ ap (λ (listed : Listed). map.get listed.offsets c.args.number) c.self.view_is

pub returns-in-Err-clause-payload : goal.returns-in-Err-clause-payload
returns-in-Err-clause-payload c =
    let gap = rw c.deref.ensures.value at c.in-Err.ensures.absent in
    sym (get_in_gap payload_kept c.self.inside.rows.items c.args.number c.in-Err.field-0 gap)
    ∙ ap (λ (listed : Listed). map.get listed.payloads c.args.number) c.self.view_is

pub returns-in-Err-clause-offset : goal.returns-in-Err-clause-offset
returns-in-Err-clause-offset c =
    let gap = rw c.deref.ensures.value at c.in-Err.ensures.absent in
    sym (get_in_gap offset_kept c.self.inside.rows.items c.args.number c.in-Err.field-0 gap)
    ∙ ap (λ (listed : Listed). map.get listed.offsets c.args.number) c.self.view_is
