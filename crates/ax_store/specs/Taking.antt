-- How far the parts of a frame are taken, and what taking them answers.
-- It is this project's own; it comes from no public document.
use Rattle.std.specs.Prelude.{◌≡◌, ℕ, ◌+◌, List, length, Result, Ok, Err, Some, None}
use Rattle.ax_frame.specs.Part.{PartValue, part_bytes, BeginsWithPart}
use Rattle.ax_pages.specs.AfterPart.{kind_of, after_part}
use Rattle.ax_pages.specs.Leads.{IsSpoiled, IsRefused}
use Rattle.ax_store.specs.declared.take_parts.TakeFault.{TakeFault}
use Rattle.ax_store.specs.declared.take_parts.TakeFault.TheVariants.{Spoiled, Memory}
use Rattle.ax_store.specs.Kept.{Kept, Takes, offsets_after}

-- one part was taken
pub record TakesPart (part : PartValue) (at : ℕ) (old new : Kept) : Type 0 where
  pub lead : after_part part old.contents ≡ Some new.contents
  pub offsets : new.offsets ≡ offsets_after (kind_of part.kind) part.key at old.offsets

-- what taking a part answers
abbrev pub TellsPart : Result (Unit {0}) TakeFault → PartValue → ℕ → Kept → Kept → Type 0
TellsPart (Ok done) part at old new = TakesPart part at old new
TellsPart (Err (Spoiled place)) part at old new = (place ≡ at) × (after_part part old.contents ≡ None)
TellsPart (Err Memory) part at old new = Unit {0}

-- the part at the front of bytes was taken, and has so many bytes
pub record IsFrontTaken (size : ℕ) (bytes : List ℕ) (at : ℕ) (old new : Kept) : Type 0 where
  pub part : PartValue
  pub after : List ℕ
  pub begins : BeginsWithPart bytes part after
  pub takes : TakesPart part at old new
  pub size_is : size ≡ length (part_bytes part)

-- what taking the part at the front of bytes answers
abbrev pub TellsFront : Result ℕ TakeFault → List ℕ → ℕ → Kept → Kept → Type 0
TellsFront (Ok size) bytes at old new = IsFrontTaken size bytes at old new
TellsFront (Err (Spoiled place)) bytes at old new = (place ≡ at) × IsRefused bytes old.contents
TellsFront (Err Memory) bytes at old new = Unit {0}

-- The first bytes are taken, and so what becomes of the rest tells what becomes of the whole.
pub record IsTakenTo (bytes : List ℕ) (at : ℕ) (old now : Kept) (rest : List ℕ) : Type 0 where
  pub done : ℕ
  pub len : done + length rest ≡ length bytes
  pub takes : (new : Kept) → Takes rest (at + done) now new → Takes bytes at old new
  pub spoiled : (within : ℕ) → IsSpoiled rest now.contents within → IsSpoiled bytes old.contents (done + within)
