use Rattle.std.proofs.Common.{◌≡◌, ◌++◌, drop}
use Rattle.std.specs.List.{AllByRecursion, flat_map}
use Rattle.ax_token.specs.TokenBytes.{ValueFits, listed_bytes, value_bytes}
use Rattle.ax_token.proofs.writing.put_values.Given as goal

-- with those that are left they are all, and those that are left fit
abbrev pub invariant-loop-value : goal.invariant-loop-value
invariant-loop-value l = record {
  all : l.out.items ++ flat_map value_bytes (drop l.value-index l.values)
      ≡ l.fn.out.items ++ listed_bytes value_bytes l.values;
  fit : AllByRecursion ValueFits (drop l.value-index l.values);
}
