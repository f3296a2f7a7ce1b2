-- Which root slot counts, with all that it names, and whether the other is closed.
-- From the store's own file format (docs/FORMAT.md, "Root slots"); no other document has it.
use Rattle.std.specs.Prelude.{◌≡◌, ◌⊎◌, ℕ, ◌==◌, nat_lt, if◌then◌else◌, ◌<◌, ◌≤◌, ◌-◌, ◌^◌, List}
use Rattle.std.specs.Prelude.{length, take, drop}
use Rattle.ax_disk.specs.declared.extent.Extent.{Extent}
use Rattle.ax_disk.specs.declared.extent.Extent.TheVariants.{A, B}
use Rattle.ax_frame.specs.declared.root_slot.RootSlot.{RootSlot}
use Rattle.ax_frame.specs.declared.root_slot.RootSlot.TheVariants.{Closed, Live, Bad}
use Rattle.ax_frame.specs.RootSlot.{IsSlot}
use Rattle.ax_area.specs.declared.root.Which.{Which}
use Rattle.ax_area.specs.declared.root.Which.TheVariants.{First, Second}
use Rattle.ax_area.specs.declared.root.Counting.{Counting}
use Rattle.ax_area.specs.declared.root.RootChoice.{RootChoice}
use Rattle.ax_area.specs.declared.root.RootChoice.TheVariants.{Fresh, Counts, Damaged}
use Rattle.ax_area.specs.declared.root.Judgement.{Judgement}
use Rattle.ax_area.specs.declared.root.Judgement.TheVariants.{Known, Newer, Worn}

abbrev pub other : Which → Which
other First = Second
other Second = First

abbrev pub slot_offset : Which → ℕ
slot_offset First = 0
slot_offset Second = 16

-- the area of a slot's number: 1 is A, 2 is B
abbrev pub area_numbered : ℕ → Extent
area_numbered area = if area == 1 then A else B

abbrev pub named : Which → ℕ → ℕ → ℕ → RootChoice
named which version area generation =
    Counts (record {
      which = which;
      version = version;
      area = area_numbered area;
      generation = generation;
    })

-- Of two root slots the one that counts. One that is open and names nothing is damaged, and so are
-- two open ones of one generation, at the second. Else the one that is open counts, or of two the
-- one of the greater generation. Where both are closed the store is fresh.
abbrev pub chosen : RootSlot → RootSlot → RootChoice
chosen Bad second = Damaged 0
chosen Closed Bad = Damaged 16
chosen Closed Closed = Fresh
chosen Closed (Live version area generation) = named Second version area generation
chosen (Live v a g) Bad = Damaged 16
chosen (Live version area generation) Closed = named First version area generation
chosen (Live v a g) (Live w b h) =
    if g == h then Damaged 16 else (if nat_lt h g then named First v a g else named Second w b h)

-- the bytes of a slot
abbrev pub slot_in : Which → List ℕ → List ℕ
slot_in First root = take 16 root
slot_in Second root = take 16 (drop 16 root)

-- A root of at least 33 bytes is whole. Its first 32 bytes are two root slots.
pub record IsWholeRoot (root : List ℕ) (choice : RootChoice) : Type 0 where
  pub first : RootSlot
  pub second : RootSlot
  pub whole : 33 ≤ length root
  pub first_slot : IsSlot (slot_in First root) first
  pub second_slot : IsSlot (slot_in Second root) second
  pub choice_is : choice ≡ chosen first second

-- What a root says. A shorter one is that of a fresh store, whatever it holds.
abbrev pub IsRoot : List ℕ → RootChoice → Type 0
IsRoot root choice = ((length root < 33) × (choice ≡ Fresh)) ⊎ IsWholeRoot root choice

-- the slot beside the one that counts is closed
abbrev pub IsClosedBeside : List ℕ → Counting → Type 0
IsClosedBeside root slot = IsSlot (slot_in (other slot.which) root) Closed

-- or it is open, and has a lesser generation
pub record IsLesserBeside (root : List ℕ) (slot : Counting) : Type 0 where
  pub version : ℕ
  pub area : ℕ
  pub generation : ℕ
  pub is_open : IsSlot (slot_in (other slot.which) root) (Live version area generation)
  pub lesser : generation < slot.generation

-- ---- with a newest version

-- a slot of this generation could not be raised to a newer version
abbrev pub last_generation : ℕ
last_generation = 2 ^ 64 - 1

-- The slot can be opened: its version is known, and where that is not the newest, its generation
-- can rise, as it does when the store is raised to the newest.
pub record IsKnown (newest : ℕ) (slot : Counting) : Type 0 where
  pub known : slot.version ≤ newest
  pub rises : slot.version < newest → slot.generation < last_generation

-- what is so of a slot by each judgement; of one slot no two are
abbrev pub TellsSlot : ℕ → Counting → Judgement → Type 0
TellsSlot newest slot Known = IsKnown newest slot
TellsSlot newest slot Newer = newest < slot.version
TellsSlot newest slot Worn = (slot.version < newest) × (last_generation ≤ slot.generation)
