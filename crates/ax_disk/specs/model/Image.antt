-- A disk image: the bytes of the three lists that a store has on a disk.
-- Source: Axis keeps a store as a root of two root slots and two areas, of which one counts at a time.
use Rattle.std.specs.Prelude.{ℕ, List}
use Rattle.ax_disk.specs.declared.extent.Extent.{Extent}
use Rattle.ax_disk.specs.declared.extent.Extent.TheVariants.{Root, A, B}

pub record Image : Type 0 where
  pub root : List ℕ
  pub a : List ℕ
  pub b : List ℕ

-- the list of an extent
abbrev pub list_of : Extent → Image → List ℕ
list_of Root image = image.root
list_of A image = image.a
list_of B image = image.b

-- the image with this list instead of that extent's
abbrev pub with_list : Extent → List ℕ → Image → Image
with_list Root bytes image = record image { root = bytes }
with_list A bytes image = record image { a = bytes }
with_list B bytes image = record image { b = bytes }
