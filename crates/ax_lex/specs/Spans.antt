-- Spans that rise: each token takes a byte or more and begins where the one before ends, or later.
use Rattle.std.specs.Prelude.{ℕ, ◌<◌, ◌≤◌, List, [], ◌∷◌}
use Rattle.ax_lex.specs.declared.token.Token.{Token}

-- the spans stand between these two places, one behind the other
abbrev pub SpansRise : ℕ → List Token → ℕ → Type 0
SpansRise low [] high = low ≤ high
SpansRise low (token ∷ tokens) high = (low ≤ token.start) × (token.start < token.end)
    × SpansRise token.end tokens high
