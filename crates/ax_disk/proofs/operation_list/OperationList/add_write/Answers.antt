use Rattle.std.proofs.Common.{◌++◌, ◌∷◌, [], length, ◌∙◌, ap, arith, length-append}
use Rattle.std.proofs.lemmas.List.{take_all}
use Rattle.ax_disk.specs.declared.operation_head.OperationHead.TheVariants.{Wrote}
use Rattle.ax_disk.specs.mem_disk.OperationHeads.{written_size, operations_of}
use Rattle.ax_disk.specs.mem_disk.OperationLog.{wrote}
use Rattle.ax_disk.proofs.AddedOperation.{written_size-append, operations_of-append, with_room}
use Rattle.ax_disk.proofs.operation_list.OperationList.add_write.Goals as goal

pub invariant_of-self : goal.invariant_of-self
invariant_of-self c =
    let bytes = c.extend_from_slice-taken.ensures.items
    ∙ with_room _ _ _ (c.extend_from_slice-taken.ensures.succeeds (omega arith)) in
    record {
      whole =
          omega (
            arith,
            c.args.self.now.whole,
            ap length bytes,
            length-append c.args.self.now.bytes.items c.args.bytes.now,
            ap written_size
                c.push_reserved.ensures.items,
            written_size-append c.args.self.now.operations.items
                (Wrote c.args.ext c.args.at c.args.size (length c.args.bytes.now)),
          );
    }

pub returns-clause-added : goal.returns-clause-added
returns-clause-added c =
    let bytes = c.extend_from_slice-taken.ensures.items
    ∙ with_room _ _ _ (c.extend_from_slice-taken.ensures.succeeds (omega arith)) in
    let operation = Wrote c.args.ext c.args.at c.args.size (length c.args.bytes.now) in
    let whole = take_all (length c.args.bytes.now) c.args.bytes.now (omega arith) in
    ap (λ added. operations_of added c.extend_from_slice-taken.new.self.items) c.push_reserved.ensures.items
    ∙ ap (λ all. operations_of (c.args.self.now.operations.items ++ operation ∷ []) all) bytes
    ∙ operations_of-append c.args.self.now.operations.items operation c.args.self.now.bytes.items c.args.bytes.now c.args.self.now.whole
    ∙ ap
    (λ done. operations_of c.args.self.now.operations.items c.args.self.now.bytes.items
    ++ wrote c.args.ext c.args.at c.args.size done ∷ []) whole
