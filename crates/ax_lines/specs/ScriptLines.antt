-- The lines of a script: its bytes are split at each newline. What follows the last newline is a line,
-- too, unless it is empty.
use Rattle.std.specs.Prelude.{◌≡◌, ℕ, List, [], ◌∷◌, ◌++◌, false, ◌==◌}
use Rattle.std.specs.List.{flat_map, list_any, AllByRecursion}

abbrev pub newline : ℕ
newline = 10

-- a line with the newline that ends it
abbrev pub with_newline : List ℕ → List ℕ
with_newline line = line ++ newline ∷ []

-- no newline is among the bytes
abbrev pub IsOneLine : List ℕ → Type 0
IsOneLine bytes = list_any (λ byte. byte == newline) bytes ≡ false

-- the bytes are these lines, each with its newline, and a last piece that has none
pub record AreLines (bytes : List ℕ) (lines : List (List ℕ)) (last : List ℕ) : Type 0 where
  pub split : bytes ≡ flat_map with_newline lines ++ last
  pub each : AllByRecursion IsOneLine lines
  pub no_newline : IsOneLine last

-- a last piece as a line
abbrev pub last_line : List ℕ → List (List ℕ)
last_line [] = []
last_line (byte ∷ bytes) = (byte ∷ bytes) ∷ []
