-- Parts of an excerpt among which one more can be put, so that their names rise.
use Rattle.std.specs.Prelude.{◌≡◌, ℕ, ◌≤◌, List, ◌∷◌, ◌++◌, length, map, take, drop, true, false, Some}
use Rattle.std.specs.Str.{bytes_eq}
use Rattle.ax_tree.specs.Names.{HaveRisingNames}
use Rattle.ax_tree.specs.declared.members.Member.{Member}
use Rattle.ax_excerpt.specs.declared.excerpt.Excerpt.{Excerpt}
use Rattle.ax_excerpt.specs.Excerpts.{part_named}
use Rattle.ax_excerpt.specs.Plain.{are_plain, plain_flag, plain_parts}

-- the parts with one of that name put in at that place
abbrev pub put_at : ℕ → List ℕ → Excerpt → List (Member Excerpt) → List (Member Excerpt)
put_at at name part parts = take at parts ++ record { name = name; value = part } ∷ drop at parts

-- a part of that name, whatever it keeps, may be put in at that place
pub record HasRoom (name : List ℕ) (parts : List (Member Excerpt)) (at : ℕ) : Type 0 where
  pub within : at ≤ length parts
  pub rise : (part : Excerpt) → HaveRisingNames (put_at at name part parts)

-- of these parts the one of that name was taken out: it kept `part`, or there was none
pub record IsOpened (old : List (Member Excerpt)) (name taken : List ℕ) (parts : List (Member Excerpt))
    (part : Excerpt) : Type 0 where
  pub named : taken ≡ name
  pub own : (found : Excerpt) → part_named name old ≡ Some found → found ≡ part
  pub others : (n : List ℕ) → bytes_eq name n ≡ false → part_named n parts ≡ part_named n old
  pub plain : plain_parts (map plain_flag old) ≡ true
      → (plain_parts (map plain_flag parts) ≡ true) × (are_plain part ≡ true)
