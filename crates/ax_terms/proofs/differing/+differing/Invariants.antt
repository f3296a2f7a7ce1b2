-- What takes the members that are left of both maps from here has taken all of both.
use Rattle.std.proofs.Common.{◌≡◌, drop, length}
use Rattle.ax_tree.specs.Names.{HaveRisingNames}
use Rattle.ax_terms.proofs.Passing.{Goes}
use Rattle.ax_terms.proofs.differing.+differing.Given as goal

abbrev pub invariant-append_maps-loop-member : goal.invariant-append_maps-loop-member
invariant-append_maps-loop-member l = record {
  len : l.len ≡ length l.initial.front.items;
  front : l.front.items ≡ l.initial.front.items;
  rise : HaveRisingNames l.others;
  terms : Goes l.walk l.initial.front.items l.front.items l.member-items l.initial.others
      (drop l.member-index l.member-items) l.others l.initial.gone.items l.initial.come.items l.gone.items l.come.items;
}
