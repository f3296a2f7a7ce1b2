-- How many steps the lines of a run may take, of runs one after another.
use Rattle.std.proofs.Common.{◌≡◌, ℕ, ◌+◌, ◌≤◌, List, [], ◌∷◌, ◌++◌, ap, arith}
use Rattle.ax_container.specs.Container.{Container}
use Rattle.ax_machine.specs.Needs.{most_steps, most_steps_in}
use Rattle.ax_machine.specs.Run.{Outcome, Exchange, after_line, after}

most_steps_in-append : (before : Container) (run later : List Exchange)
    → most_steps_in before (run ++ later)
    ≡ most_steps_in before run + most_steps_in (after before run) later
most_steps_in-append before [] later = omega arith
most_steps_in-append before (exchange ∷ run) later =
    omega (arith, most_steps_in-append (after_line before exchange.line exchange.outcome) run later)

pub bounded_one : (before : Container) (line : List ℕ) (outcome : Outcome) (old new : ℕ)
    → new ≤ old + most_steps before line
    → new ≤ old + most_steps_in before (record { line = line; outcome = outcome } ∷ [])
bounded_one before line outcome old new bounded = omega (arith, bounded)

pub bounded_append : (before now : Container) (run later : List Exchange) (old mid new : ℕ)
    → now ≡ after before run → mid ≤ old + most_steps_in before run
    → new ≤ mid + most_steps_in now later → new ≤ old + most_steps_in before (run ++ later)
bounded_append before now run later old mid new stands first second =
    omega (
      arith,
      first,
      second,
      most_steps_in-append before run later,
      ap (λ c. most_steps_in c later) stands,
    )

-- a bound of a run is one of a run that goes on
pub bounded_longer : (before : Container) (run later : List Exchange) (old new : ℕ)
    → new ≤ old + most_steps_in before run → new ≤ old + most_steps_in before (run ++ later)
bounded_longer before run later old new bounded =
    omega (arith, bounded, most_steps_in-append before run later)
