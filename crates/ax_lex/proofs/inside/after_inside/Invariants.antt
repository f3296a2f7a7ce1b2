use Rattle.std.proofs.Common.{◌≡◌, ◌-◌, length}
use Rattle.std.specs.Option.{option_map}
use Rattle.ax_lex.specs.Reading.{read_inside}
use Rattle.ax_lex.proofs.inside.after_inside.Given as goal

abbrev pub invariant-loop-turn : goal.invariant-loop-turn
invariant-loop-turn l =
    option_map (λ found. found.1) (read_inside l.quote (length l.bytes - l._turn) l.rest)
    ≡ option_map (λ found. found.1) (read_inside l.quote (length l.bytes) l.bytes)
