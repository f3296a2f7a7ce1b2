-- What was looked at so far, with what the sources that are left look at, is all.
use Rattle.std.proofs.Common.{◌≡◌, ◌&&◌, drop}
use Rattle.ax_excerpt.specs.declared.excerpt.Excerpt.{Excerpt}
use Rattle.ax_excerpt.specs.Enough.{within, sources_within}
use Rattle.ax_excerpt.specs.Needs.{keeps_all}
use Rattle.ax_excerpt.proofs.paths.at_sources.Given as goal

abbrev pub invariant-loop-source : goal.invariant-loop-source
invariant-loop-source l = (e : Excerpt)
    → (keeps_all e l.paths.items && sources_within (within l.alias e) (drop l.source-index l.sources))
    ≡ (keeps_all e l.fn.paths.items && sources_within (within l.alias e) l.sources)
