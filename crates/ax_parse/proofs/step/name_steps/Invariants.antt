use Rattle.std.proofs.Common.{◌≡◌, ◌-◌}
use Rattle.ax_grammar.specs.Reading.{repeated, all_turns}
use Rattle.ax_grammar.specs.StepReader.{turn_name_step}
use Rattle.ax_parse.specs.Said.{rest_said}
use Rattle.ax_parse.proofs.Turning.{before}
use Rattle.ax_parse.proofs.step.name_steps.Given as goal

abbrev pub invariant-loop-turn : goal.invariant-loop-turn
invariant-loop-turn l =
    before l.found (repeated turn_name_step (l._turn-end - l._turn) (rest_said l.rest))
    ≡ all_turns turn_name_step (rest_said l.lexemes)
