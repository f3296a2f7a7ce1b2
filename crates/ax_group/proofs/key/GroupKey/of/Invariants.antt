-- The keys so far are those of the first values.
use Rattle.std.proofs.Common.{◌≡◌, map, take}
use Rattle.ax_group.specs.Keys.{seen_key, value_key}
use Rattle.ax_group.proofs.key.GroupKey.of.Given as goal

abbrev pub invariant-loop-value : goal.invariant-loop-value
invariant-loop-value l = map seen_key l.keys.items ≡ map value_key (take l.value-index l.values)
