-- What keeps what is kept so far and what the paths that are left lead to keeps all.
use Rattle.std.proofs.Common.{◌≡◌, [], true, false, drop}
use Rattle.ax_excerpt.specs.declared.excerpt.Excerpt.{Excerpt}
use Rattle.ax_excerpt.specs.Excerpts.{keeps}
use Rattle.ax_excerpt.specs.Needs.{IsMore, are_told, keeps_all}
use Rattle.ax_excerpt.specs.Plain.{are_plain}
use Rattle.ax_excerpt.proofs.collecting.excerpt_along.Given as goal

abbrev pub invariant-loop-path : goal.invariant-loop-path
invariant-loop-path l = record {
  so_far : (e : Excerpt) → IsMore l.excerpt e → keeps_all e (drop l.path-index l.paths) ≡ true
      → keeps_all e l.paths ≡ true;
  plain : are_plain l.excerpt ≡ true;
  left : are_told l.paths ≡ true → are_told (drop l.path-index l.paths) ≡ true;
  part : are_told l.paths ≡ true → keeps l.excerpt [] ≡ false;
}
