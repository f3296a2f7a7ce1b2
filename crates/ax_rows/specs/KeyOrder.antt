-- The order of two keys, as they compare by themselves.
use Rattle.std.specs.declared.cmp.Ordering.{Ordering}
use Rattle.std.specs.declared.cmp.Ord as ord
use denote.Param as param
use Rattle.ax_rows.specs.declared.sort_key.Directed.{Directed}
use Rattle.ax_rows.specs.contracts.sort_key.DirectedOrd.TheImpl.{ghosts}

abbrev pub directed_cmp : Directed → Directed → Ordering
directed_cmp = param.read (ord.Ghosts.cmp {X-1 = Directed}) ghosts
