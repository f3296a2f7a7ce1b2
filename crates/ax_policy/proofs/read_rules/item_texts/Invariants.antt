-- Those read so far, before those of the items that are left, are all.
use Rattle.std.proofs.Common.{◌≡◌, drop, true}
use Rattle.std.specs.List.{list_all}
use Rattle.ax_policy.specs.Reading.{read_all}
use Rattle.ax_policy.specs.Rules.{item_text}
use Rattle.ax_policy.specs.Written.{is_written}
use Rattle.ax_policy.proofs.Lists.{joined}
use Rattle.ax_policy.proofs.read_rules.item_texts.Given as goal

abbrev pub invariant-loop-item : goal.invariant-loop-item
invariant-loop-item l = record {
  made : joined l.texts.items (read_all item_text (drop l.item-index l.items)) ≡ read_all item_text l.items;
  written : list_all is_written l.texts.items ≡ true;
}
