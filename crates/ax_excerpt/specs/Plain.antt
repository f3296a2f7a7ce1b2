-- Excerpts whose names JSON writes without an escape.
use Rattle.std.specs.Prelude.{ℕ, List, Bool, true, not, ◌&&◌, ◌==◌, nat_le}
use Rattle.std.specs.List.{list_all}
use Rattle.ax_tree.specs.declared.members.Member.{Member}
use Rattle.ax_tree.specs.declared.tree.Tree.{Tree}
use Rattle.ax_excerpt.specs.declared.excerpt.Excerpt.{Excerpt, fold-Excerpt}
use Rattle.ax_excerpt.specs.declared.excerpt.Excerpt.TheOpen.{Excerpt-F}
use Rattle.ax_excerpt.specs.Excerpts.{excerpt_of}

-- no control character, no quote and no backslash
abbrev pub is_plain_byte : ℕ → Bool
is_plain_byte byte = nat_le 32 byte && not (byte == 34) && not (byte == 92)

abbrev pub is_plain : List ℕ → Bool
is_plain = list_all is_plain_byte

abbrev pub plain_parts : List (Member Bool) → Bool
plain_parts = list_all (λ part. is_plain part.name && part.value)

abbrev pub plain_level : Excerpt-F Bool → Bool
plain_level Excerpt-F.Whole = true
plain_level (Excerpt-F.Part parts) = plain_parts parts

abbrev pub are_plain : Excerpt → Bool
are_plain = fold-Excerpt Bool plain_level

abbrev pub plain_flag : Member Excerpt → Member Bool
plain_flag part = record { name = part.name; value = are_plain part.value }

-- a part with what its excerpt leaves of a tree
abbrev pub leaving : Member Excerpt → Member (Tree → Tree)
leaving part = record { name = part.name; value = excerpt_of part.value }
