-- the paths before this one are covered
use Rattle.std.proofs.Common.{All, List, take}
use Rattle.ax_mean.specs.declared.query.Step.{Step}
use Rattle.ax_plan.specs.Taken.{HoldsOfTaken}
use Rattle.ax_plan.specs.ByPaths.{CoversPath}
use Rattle.ax_plan.proofs.covering.are_covered.Given as goal

abbrev pub invariant-loop-path : goal.invariant-loop-path
invariant-loop-path l =
    All (λ (path : List Step). HoldsOfTaken l.table (CoversPath l.whole path)) (take l.path-index l.paths)
