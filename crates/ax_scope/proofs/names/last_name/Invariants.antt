-- The steps that are left decide, and before them the last step so far.
use Rattle.std.proofs.Common.{◌≡◌, drop}
use Rattle.std.specs.Option.{option_copied}
use Rattle.ax_grammar.specs.Names.{last_name}
use Rattle.ax_scope.proofs.LastNames.{last_from}
use Rattle.ax_scope.proofs.names.last_name.Given as goal

abbrev pub invariant-loop-step : goal.invariant-loop-step
invariant-loop-step l =
    last_from (option_copied l.last) (drop l.step-index l.steps) ≡ last_name l.steps
