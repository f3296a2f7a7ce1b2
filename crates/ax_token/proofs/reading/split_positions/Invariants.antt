use Rattle.std.proofs.Common.{◌≡◌, ◌-◌}
use Rattle.ax_token.specs.Reading.{first_u32, many, onto}
use Rattle.ax_token.proofs.reading.split_positions.Given as goal

-- what is read of the rest tells what is read of the whole
abbrev pub invariant-loop-turn : goal.invariant-loop-turn
invariant-loop-turn l =
    onto l.place.items (many first_u32 (l.count - l._turn) l.rest) ≡ many first_u32 l.count l.bytes
