-- The slots of a store: which are its own, and what is in them.
-- It is this project's own; it comes from no public document.
use Rattle.std.specs.Prelude.{◌≡◌, ◌≢◌, ℕ, false, List, [], length, take, replicate, slice_index_or, Option, Some, None}
use Rattle.ax_pages.specs.declared.page.Page.{Page}
use Rattle.ax_pages.specs.declared.page.Page.TheVariants.{Meta, Policy, Document, Term}
use Rattle.ax_pages.specs.Contents as parts
use Rattle.ax_pages.specs.Contents.{TermPage, term_page, term_parts}
use Rattle.ax_area.specs.Contents.{Stored}
use Rattle.ax_pool.specs.Frames.{Frames, IsTaken, bytes_at}
use Rattle.ax_pool.specs.declared.slot.Slot.{Slot}
use Rattle.ax_store.specs.declared.store.Store.{Store}
use Rattle.ax_store.specs.declared.store.StoreFrames.{StoreFrames}
use Rattle.ax_store.specs.Store.{store_slots}

-- how many slots a store has
abbrev pub slot_count : ℕ
slot_count = 64

-- all slots of the store are free
abbrev pub HasAllFree : {C : Type 0} → Store C → Type 0
HasAllFree store = let slots = store_slots store in slots.taken ≡ replicate slot_count false

-- the slot was taken from this store, and not given back
abbrev pub IsSlotOf : {C : Type 0} → Store C → Slot StoreFrames → Type 0
IsSlotOf store slot = IsTaken (store_slots store) slot.number

-- the frame of this number begins with the bytes
abbrev pub Begins : Frames → ℕ → List ℕ → Type 0
Begins frames number bytes = take (length bytes) (bytes_at frames number) ≡ bytes

-- the same frames are free, and but for the frame of this number all bytes are the same
pub record AreOthersSame (number : ℕ) (old new : Frames) : Type 0 where
  pub taken : new.taken ≡ old.taken
  pub count : length new.bytes ≡ length old.bytes
  pub bytes : (other : ℕ) → other ≢ number → bytes_at new other ≡ bytes_at old other

-- the part of this position among those of a page
abbrev pub part_at : Page → ℕ → parts.Contents → List ℕ
part_at page i held = slice_index_or (parts.parts_of page held) i []

-- the same of a term page
abbrev pub term_part : ℕ → ℕ → List TermPage → List ℕ
term_part page i pages = slice_index_or (term_parts (term_page page pages)) i []

-- the frame begins with the bytes, which are so many
pub record IsRead (bytes : List ℕ) (frames : Frames) (number len : ℕ) : Type 0 where
  pub len_is : len ≡ length bytes
  pub begins : Begins frames number bytes

-- The text of the document is in the frame; or there is no such document.
abbrev pub IsFetched : Option Stored → Frames → ℕ → Option ℕ → Type 0
IsFetched (Some document) frames number (Some len) = IsRead document.text frames number len
IsFetched (Some document) frames number None = ⊥
IsFetched None frames number (Some len) = ⊥
IsFetched None frames number None = Unit {0}

-- how many steps reading a part of the page counts: one for a document
abbrev pub ticks_of : Page → ℕ
ticks_of Meta = 0
ticks_of (Policy number) = 0
ticks_of (Document number) = 1
ticks_of (Term number) = 0
