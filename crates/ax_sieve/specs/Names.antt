-- Names that stand in JSON (RFC 8259) as they are, no byte of them escaped, and steps to members of
-- such names.
use Rattle.std.specs.Prelude.{ℕ, List, Bool, false, not, ◌&&◌, ◌==◌, nat_le}
use Rattle.std.specs.List.{list_all}
use Rattle.ax_mean.specs.declared.expr.QueryStep.{QueryStep}
use Rattle.ax_mean.specs.declared.expr.QueryStep.TheVariants.{Member, Position}

-- no control character, no quote and no backslash
abbrev pub is_plain_byte : ℕ → Bool
is_plain_byte byte = nat_le 32 byte && not (byte == 34) && not (byte == 92)

abbrev pub is_plain : List ℕ → Bool
is_plain = list_all is_plain_byte

-- a step to a member of a plain name
abbrev pub is_plain_step : QueryStep → Bool
is_plain_step (Member name) = is_plain name
is_plain_step (Position at) = false

abbrev pub are_plain : List QueryStep → Bool
are_plain = list_all is_plain_step
