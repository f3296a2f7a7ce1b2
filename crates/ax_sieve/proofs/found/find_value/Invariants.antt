use Rattle.std.proofs.Common.{◌≡◌, true, length}
use Rattle.ax_tree.specs.CanonicalText.{canonical_text}
use Rattle.ax_tree.specs.declared.tree.Tree.{Tree}
use Rattle.ax_mean.specs.Steps.{steps_from}
use Rattle.ax_mean.specs.declared.value.Value.TheVariants.{Defined}
use Rattle.ax_sieve.specs.Names.{are_plain}
use Rattle.ax_sieve.proofs.Paths.{IsOnPath}
use Rattle.ax_sieve.proofs.found.find_value.Given as goal

abbrev pub invariant-loop-step : goal.invariant-loop-step
invariant-loop-step l =
    (are_plain l.left ≡ true)
    × ((tree : Tree) → l.text ≡ canonical_text tree
    → IsOnPath l.rest l.left (steps_from (Defined tree) l.steps))

abbrev pub decreases-loop-step : goal.decreases-loop-step
decreases-loop-step l = length l.left
