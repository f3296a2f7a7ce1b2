-- The name at the front of members' texts, compared byte by byte with one that is looked for.
use Rattle.std.specs.Prelude.{ℕ, List, [], ◌∷◌, ◌==◌, ◌||◌, nat_lt, Option, Some, None, if◌then◌else◌}
use Rattle.ax_skim.specs.Members.{past_prefix}
use Rattle.ax_excerpt_text.specs.declared.comparing.Compared.{Compared}
use Rattle.ax_excerpt_text.specs.declared.comparing.Compared.TheVariants.{Same, Before, Past}

pub data Front : Type 0 where
  same : List ℕ → Front
  before : Front
  past : Front

abbrev pub front_of : Compared → Front
front_of (Same value) = same value.now
front_of Before = before
front_of Past = past

abbrev pub ended_by : Option (List ℕ) → Front
ended_by None = past
ended_by (Some value) = same value

-- by the first byte that differs: a quote ends the shorter name, a backslash begins an escape
abbrev pub side_of : ℕ → ℕ → Front
side_of wanted byte =
    if (byte == 34) || (byte == 92) || nat_lt byte wanted then before else past

abbrev pub compared_inside : List ℕ → List ℕ → Front
compared_inside [] rest = ended_by (past_prefix (34 ∷ 58 ∷ []) rest)
compared_inside (wanted ∷ name) [] = past
compared_inside (wanted ∷ name) (byte ∷ rest) =
    if byte == wanted then compared_inside name rest else side_of wanted byte

abbrev pub compared_in : List ℕ → Option (List ℕ) → Front
compared_in name None = past
compared_in name (Some inside) = compared_inside name inside

abbrev pub compared : List ℕ → List ℕ → Front
compared name members = compared_in name (past_prefix (34 ∷ []) members)
