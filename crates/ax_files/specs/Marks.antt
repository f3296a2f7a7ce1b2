-- Which of a store's three files count as written or cut since they were last synced.
use Rattle.std.specs.Prelude.{Bool, true, false, if◌then◌else◌}
use Rattle.ax_disk.specs.declared.extent.Extent.{Extent}
use Rattle.ax_disk.specs.declared.extent.Extent.TheVariants.{Root, A, B}

pub record Marks : Type 0 where
  pub root : Bool
  pub a : Bool
  pub b : Bool

abbrev pub marks : Bool → Bool → Bool → Marks
marks root a b = record { root = root; a = a; b = b }

-- all count as unsynced
abbrev pub all_marked : Marks
all_marked = marks true true true

-- none counts as unsynced
abbrev pub none_marked : Marks
none_marked = marks false false false

-- the file of that extent counts as unsynced too
abbrev pub marked : Extent → Marks → Marks
marked Root marks = record marks { root = true }
marked A marks = record marks { a = true }
marked B marks = record marks { b = true }

-- whether the file of that extent counts as unsynced
abbrev pub is_marked : Extent → Marks → Bool
is_marked Root marks = marks.root
is_marked A marks = marks.a
is_marked B marks = marks.b

-- the first of the files that count as unsynced, in the order in which they are synced; the root where no area does
abbrev pub first_marked : Marks → Extent
first_marked marks = if marks.a then A else if marks.b then B else Root
