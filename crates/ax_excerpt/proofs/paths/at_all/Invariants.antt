-- What was looked at so far, with what the expressions that are left look at, is all.
use Rattle.std.proofs.Common.{◌≡◌, ◌&&◌, drop}
use Rattle.std.specs.List.{list_all}
use Rattle.ax_excerpt.specs.declared.excerpt.Excerpt.{Excerpt}
use Rattle.ax_excerpt.specs.Enough.{within}
use Rattle.ax_excerpt.specs.Needs.{keeps_all}
use Rattle.ax_excerpt.specs.Uses.{is_within}
use Rattle.ax_excerpt.proofs.paths.at_all.Given as goal

abbrev pub invariant-loop-item : goal.invariant-loop-item
invariant-loop-item l = (e : Excerpt)
    → (keeps_all e l.paths.items && list_all (is_within (within l.alias e)) (drop l.item-index l.item-items))
    ≡ (keeps_all e l.fn.paths.items && list_all (is_within (within l.alias e)) l.items)
