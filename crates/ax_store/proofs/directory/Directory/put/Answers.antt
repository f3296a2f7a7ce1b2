use Rattle.std.proofs.Common.{ap, sym, ◌∙◌, ◌+◌, true, false, arith}
use Rattle.std.specs.FinMap as map
use Rattle.ax_store.specs.Rows.{map_of, payload_kept}
use Rattle.ax_store.proofs.MapLens.{len_put, len_of_rows}
use Rattle.ax_store.proofs.directory.Directory.put.Goals as goal

pub overflow_add-self : goal.overflow_add-self
overflow_add-self c =
    let few = len_of_rows payload_kept c.self.inside.rows.items in
    omega (arith, few, c.self.invariant.1, c.self.inside.rows.small, c.self.inside.rows.ok)

pub invariant_of-self : goal.invariant_of-self
invariant_of-self c = (
  c.put_row.ensures.rising,
  ap (λ n. n + 1) c.self.invariant.1
      ∙ sym (len_put (map_of payload_kept c.self.inside.rows.items) c.args.number (payload_kept c.args.part) false
      (sym c.if-not-put_row.true ∙ c.put_row.ensures.held))
      ∙ ap map.len (sym c.put_row.ensures.payloads),
)

pub invariant_of-self-else-not-put_row : goal.invariant_of-self-else-not-put_row
invariant_of-self-else-not-put_row c = (
  c.put_row.ensures.rising,
  c.self.invariant.1
      ∙ sym (len_put (map_of payload_kept c.self.inside.rows.items) c.args.number (payload_kept c.args.part) true
      (sym c.if-not-put_row.false ∙ c.put_row.ensures.held))
      ∙ ap map.len (sym c.put_row.ensures.payloads),
)
