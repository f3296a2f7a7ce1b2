use Rattle.std.proofs.Common.{◌≡◌, ◌-◌}
use Rattle.ax_token.specs.Reading.{first_sized, many, onto, optional}
use Rattle.ax_token.proofs.reading.split_texts.Given as goal

-- what is read of the rest tells what is read of the whole
abbrev pub invariant-loop-turn : goal.invariant-loop-turn
invariant-loop-turn l =
    onto l.values.items (many (optional first_sized) (l.count - l._turn) l.rest)
    ≡ many (optional first_sized) l.count l.bytes
