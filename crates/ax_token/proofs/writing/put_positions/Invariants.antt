use Rattle.std.proofs.Common.{◌≡◌, ◌++◌, drop}
use Rattle.std.specs.List.{flat_map}
use Rattle.ax_token.specs.TokenBytes.{listed_bytes, u32_bytes}
use Rattle.ax_token.proofs.writing.put_positions.Given as goal

-- with those that are left they are all
abbrev pub invariant-loop-position : goal.invariant-loop-position
invariant-loop-position l =
    l.out.items ++ flat_map u32_bytes (drop l.position-index l.place)
    ≡ l.fn.out.items ++ listed_bytes u32_bytes l.place
