use Rattle.std.proofs.Common.{◌∙◌, ap, arith}
use Rattle.ax_disk.specs.declared.operation_head.OperationHead.TheVariants.{Cut}
use Rattle.ax_disk.specs.mem_disk.OperationHeads.{written_size, operations_of}
use Rattle.ax_disk.proofs.AddedOperation.{written_size-append, operations_of-push}
use Rattle.ax_disk.proofs.operation_list.OperationList.add_cut.Goals as goal

pub invariant_of-self : goal.invariant_of-self
invariant_of-self c = record {
  whole =
      omega (
        arith,
        c.args.self.now.whole,
        ap written_size c.push_reserved.ensures.items,
        written_size-append c.args.self.now.operations.items
            (Cut c.args.ext c.args.len c.args.done),
      );
}

pub returns-clause-added : goal.returns-clause-added
returns-clause-added c =
    ap (λ added. operations_of added c.args.self.now.bytes.items) c.push_reserved.ensures.items
    ∙ operations_of-push c.args.self.now.operations.items
    (Cut c.args.ext c.args.len c.args.done) c.args.self.now.bytes.items c.args.self.now.whole
