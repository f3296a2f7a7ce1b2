-- A map's text behind its opening bracket, and the front of a member in it.
use Rattle.std.specs.Prelude.{◌≡◌, ℕ, ◌==◌, ◌&&◌, nat_le, not, Bool, List, [], ◌∷◌, ◌++◌, map, if◌then◌else◌, Option, Some, None}
use Rattle.std.specs.Option.{option_and_then}
use Rattle.std.specs.List.{join_with_byte}
use Rattle.json.specs.Print.{quoted}
use Rattle.ax_tree.specs.declared.members.Member.{Member}
use Rattle.ax_tree.specs.declared.tree.Tree.{Tree}
use Rattle.ax_tree.specs.CanonicalText.{comma, colon, member_text, canonical_text}
use Rattle.ax_skim.specs.Skipping.{past_value}

-- JSON writes the name, or the text, without an escape
abbrev pub IsPlain : List ℕ → Type 0
IsPlain name = quoted name ≡ 34 ∷ name ++ 34 ∷ []

-- no control character, no quote and no backslash
abbrev pub is_plain_byte : ℕ → Bool
is_plain_byte byte = nat_le 32 byte && (not (byte == 34) && not (byte == 92))

-- what follows a prefix
abbrev pub past_prefix : List ℕ → List ℕ → Option (List ℕ)
past_prefix [] text = Some text
past_prefix (first ∷ prefix) [] = None
past_prefix (first ∷ prefix) (byte ∷ text) =
    if first == byte then past_prefix prefix text else None

-- what follows the name in quotes and its colon
abbrev pub past_name : List ℕ → List ℕ → Option (List ℕ)
past_name name members =
    option_and_then (past_prefix (34 ∷ colon ∷ []))
    (option_and_then (past_prefix name) (past_prefix (34 ∷ []) members))

-- a member, whose value is seen as its text
abbrev pub with_text : Member Tree → Member (List ℕ)
with_text m = record { name = m.name; value = canonical_text m.value }

-- the members with a comma between them, and the closing bracket
abbrev pub members_text : List (Member Tree) → List ℕ
members_text members = join_with_byte comma (map member_text (map with_text members)) ++ 125 ∷ []

-- what follows a comma at the front
abbrev pub after_comma : List ℕ → Option (List ℕ)
after_comma [] = None
after_comma (byte ∷ after) = if byte == comma then Some after else None

-- what follows the first member and its comma
abbrev pub past_member : List ℕ → Option (List ℕ)
past_member members = option_and_then after_comma (past_value members)
