-- What was looked at so far, with what the parts that are left look at, is all; and the parts are
-- smaller than the whole.
use Rattle.std.proofs.Common.{◌≡◌, ◌<◌, ◌+◌, ◌*◌, ◌&&◌, map, sum}
use Rattle.std.specs.List.{list_all}
use Rattle.ax_mean.specs.Parts.{size}
use Rattle.ax_excerpt.specs.declared.excerpt.Excerpt.{Excerpt}
use Rattle.ax_excerpt.specs.Enough.{within}
use Rattle.ax_excerpt.specs.Needs.{keeps_all}
use Rattle.ax_excerpt.specs.Uses.{is_within, parts_alone}
use Rattle.ax_excerpt.proofs.paths.+looks.Given as goal

abbrev pub decreases-at : goal.decreases-at
decreases-at l = 2 * size l.expr.now + 1

abbrev pub decreases-at_parts : goal.decreases-at_parts
decreases-at_parts l = 2 * size l.expr.now

abbrev pub invariant-at_parts-loop-part : goal.invariant-at_parts-loop-part
invariant-at_parts-loop-part l = record {
  can_next : (goal.iterator-at_parts-loop-part).can_next l.part-iterator;
  is_finite : (goal.iterator-at_parts-loop-part).is_finite l.part-iterator;
  smaller : sum (map size l.part-iterator) < size l.fn.expr;
  same : (e : Excerpt) → (keeps_all e l.paths.items && list_all (is_within (within l.alias e)) l.part-iterator)
      ≡ (keeps_all e l.fn.paths.items && parts_alone (within l.alias e) l.fn.expr);
}
