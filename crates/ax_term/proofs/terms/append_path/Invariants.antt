-- What is written, with what the rest of the path gives, is the whole.
use Rattle.std.proofs.Common.{◌≡◌, ◌++◌, drop}
use Rattle.ax_term.specs.TermBytes.{path_bytes}
use Rattle.ax_term.proofs.terms.append_path.Given as goal

abbrev pub invariant-loop-step : goal.invariant-loop-step
invariant-loop-step l =
    l.out.items ++ path_bytes (drop l.step-index l.path) ≡ l.fn.out.items ++ path_bytes l.path
