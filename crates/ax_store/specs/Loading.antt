-- The log frames of an area are taken into pages, one after another.
-- It is this project's own; it comes from no public document.
use Rattle.std.specs.Prelude.{◌≡◌, ℕ, ◌+◌, List, [], ◌∷◌, ◌++◌, length, Result, Ok, Err}
use Rattle.ax_disk.specs.declared.extent.Extent.{Extent}
use Rattle.ax_pages.specs.Area.{frames_bytes}
use Rattle.ax_pages.specs.Area.{extent_number}
use Rattle.ax_pages.specs.Contents.{no_contents}
use Rattle.ax_pages.specs.Leads.{IsSpoiled, IsRefused, AreSpoiled}
use Rattle.ax_store.specs.Taking.{IsFrontTaken}
use Rattle.ax_store.specs.declared.fault.StoreFault.{StoreFault}
use Rattle.ax_store.specs.declared.fault.StoreFault.TheVariants.{Disk, Damaged, Newer, Memory}
use Rattle.ax_store.specs.Kept.{Kept, no_offsets, Takes}

abbrev pub nothing_kept : Kept
nothing_kept = record { contents = no_contents; offsets = no_offsets; spare = 0; rooms = 0 ∷ [] }

-- The frames, the first of which stands at an offset, lead from the pages before to those after. In front of each stand its
-- gate and its length.
abbrev pub TakesOn : List (List ℕ) → ℕ → Kept → Kept → Type 0
TakesOn [] at old new = (new.contents ≡ old.contents) × (new.offsets ≡ old.offsets)
TakesOn (frame ∷ frames) at old new = (between : Kept) × Takes frame (at + 9) old between × TakesOn frames (at + 9 + length frame) between new

-- the first frames are taken
pub record IsLoadedTo (frames : List (List ℕ)) (at : ℕ) (now : Kept) : Type 0 where
  pub first : List (List ℕ)
  pub rest : List (List ℕ)
  pub are : frames ≡ first ++ rest
  pub place : at ≡ length (frames_bytes first)
  pub takes : TakesOn first 0 nothing_kept now

-- what reading the length of a frame answers
abbrev pub TellsLen : Result ℕ StoreFault → ℕ → Type 0
TellsLen (Ok len) is = len ≡ is
TellsLen (Err Disk) is = Unit {0}
TellsLen (Err (Damaged extent at)) is = ⊥
TellsLen (Err (Newer version)) is = ⊥
TellsLen (Err Memory) is = Unit {0}

-- what taking the part at the front of the bytes that a frame still has answers
abbrev pub TellsNext : Result ℕ StoreFault → Extent → List ℕ → ℕ → Kept → Kept → Type 0
TellsNext (Ok size) area rest here old new = IsFrontTaken size rest here old new
TellsNext (Err Disk) area rest here old new = Unit {0}
TellsNext (Err (Damaged extent at)) area rest here old new = (extent ≡ extent_number area) × (at ≡ here) × IsRefused rest old.contents
TellsNext (Err (Newer version)) area rest here old new = ⊥
TellsNext (Err Memory) area rest here old new = Unit {0}

-- what taking all parts of a frame answers, whose bytes stand at an offset
abbrev pub TellsSpan : Result (Unit {0}) StoreFault → Extent → List ℕ → ℕ → Kept → Kept → Type 0
TellsSpan (Ok done) area bytes at old new = Takes bytes at old new
TellsSpan (Err Disk) area bytes at old new = Unit {0}
TellsSpan (Err (Damaged extent place)) area bytes at old new = (extent ≡ extent_number area)
    × ((within : ℕ) × IsSpoiled bytes old.contents within × (place ≡ at + within))
TellsSpan (Err (Newer version)) area bytes at old new = ⊥
TellsSpan (Err Memory) area bytes at old new = Unit {0}

-- what taking one frame more answers
abbrev pub TellsFrame : Result ℕ StoreFault → Extent → List (List ℕ) → Kept → Type 0
TellsFrame (Ok next) area frames now = IsLoadedTo frames next now
TellsFrame (Err Disk) area frames now = Unit {0}
TellsFrame (Err (Damaged extent at)) area frames now = (extent ≡ extent_number area) × AreSpoiled frames no_contents at
TellsFrame (Err (Newer version)) area frames now = ⊥
TellsFrame (Err Memory) area frames now = Unit {0}

-- what loading the frames of an area answers
abbrev pub TellsLoad : Result Kept StoreFault → Extent → List (List ℕ) → Type 0
TellsLoad (Ok kept) area frames = TakesOn frames 0 nothing_kept kept
TellsLoad (Err Disk) area frames = Unit {0}
TellsLoad (Err (Damaged extent at)) area frames = (extent ≡ extent_number area) × AreSpoiled frames no_contents at
TellsLoad (Err (Newer version)) area frames = ⊥
TellsLoad (Err Memory) area frames = Unit {0}
