-- The tokens so far, with those of the rest, are those of the whole behind what stood there.
use Rattle.std.proofs.Common.{◌≡◌, ◌++◌, drop}
use Rattle.ax_tree.specs.SerdeData.{items_tokens, members_tokens}
use Rattle.ax_tree.proofs.write.+put.Given as goal

abbrev pub invariant-put_items-loop-item : goal.invariant-put_items-loop-item
invariant-put_items-loop-item l = record {
  tokens : l.writer.tokens ++ items_tokens
      (drop l.item-index l.item-items) ≡ l.initial.writer.tokens ++ items_tokens l.item-items;
  before : l.writer.before ≡ l.initial.writer.before;
}

abbrev pub invariant-put_members-loop-member : goal.invariant-put_members-loop-member
invariant-put_members-loop-member l = record {
  tokens : l.writer.tokens ++ members_tokens
      (drop l.member-index l.member-items) ≡ l.initial.writer.tokens ++ members_tokens
      l.member-items;
  before : l.writer.before ≡ l.initial.writer.before;
}
