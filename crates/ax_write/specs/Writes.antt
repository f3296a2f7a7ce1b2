-- What a write of a document answers over a store that holds a container with its index: what it makes of the
-- container, or why it is refused; and what a crash at any moment of it leaves.
-- It is this project's own; it comes from no public document.
use Rattle.std.specs.Prelude.{◌≡◌, ◌≤◌, ◌⊎◌, ℕ, List, Bool, true, false, Option, Some, None, Result, Ok, Err, IsTrue, IfErr, OnErr}
use Rattle.std.specs.FinMap as finite
use Rattle.std.specs.List.{Contains}
use Rattle.ax_area.specs.Contents.{Contents, Stored}
use Rattle.ax_cache.specs.Pages.{CachedPages}
use Rattle.ax_container.specs.Container.{Container, Entry, entry_of}
use Rattle.ax_container.specs.Writes.{WriteRefusal, Conflict, Absent, Full}
use Rattle.ax_disk.specs.model.Calls.{Idles}
use Rattle.ax_disk.specs.model.Moments.{History}
use Rattle.ax_disk.specs.model.Stays.{Rests, Stays, Turns}
use Rattle.ax_image.specs.Readable.{SaysReadable}
use Rattle.ax_image_pairs.specs.Found.{number_in}
use Rattle.ax_image_pairs.specs.Indexed.{ContentsHoldAll, HasAll}
use Rattle.ax_index.specs.Damage.{FailsBy, TellsPart}
use Rattle.ax_index.specs.Reads.{KeepsTaken, Reads}
use Rattle.ax_storable.specs.StoredTexts.{IsStoredText}
use Rattle.ax_pairs.specs.Index.{IsIndex}
use Rattle.ax_pairs.specs.PairSets.{PairSet}
use Rattle.ax_policy.specs.Table.{Table, policy_at}
use Rattle.ax_store.specs.Faults.{HasDiskCause}
use Rattle.ax_store.specs.Store.{AgreesUnlessFailed, store_area, store_contents, store_failed, store_slots}
use Rattle.ax_store.specs.declared.fault.StoreFault.{StoreFault}
use Rattle.ax_store.specs.declared.fault.StoreFault.TheVariants as store_fault
use Rattle.ax_store.specs.declared.store.Store.{Store}
use Rattle.ax_tree.specs.declared.tree.Tree.{Tree}
use Rattle.ax_write.specs.Committed.{IdlesUnlessDisk}
use Rattle.ax_write.specs.Full.{is_full_of}
use Rattle.ax_write.specs.Held.{HasNone, IsHeld, IsPlaced}
use Rattle.ax_write.specs.LookedUp.{TellsIndex}
use Rattle.ax_write.specs.declared.fault.WriteFault.{WriteFault}
use Rattle.ax_write.specs.declared.fault.WriteFault.TheVariants as fault
use Rattle.ax_write.specs.declared.finding.FoundDocument.{FoundDocument}

-- The store holds the container with its index, and each id of the table of those lately found stands in it under its
-- number.
pub record HoldsAll {C : Type 0} (store : Store C) (ids : List (List ℕ × ℕ)) (container : Container) : Type 0 where
  pub contents : ContentsHoldAll (store_contents store) container
  pub recent : (id : List ℕ) (number : ℕ) → Contains ids (id, number) → number_in id container ≡ Some number

-- the container is as it was, and so is what a crash leaves of it
abbrev pub IsKept : {C : Type 0} → Container → Store C → List (List ℕ × ℕ) → History → History → Type 0
IsKept before store ids old new = HoldsAll store ids before × Turns old new (HasAll before) (HasAll before)

-- what is made of the container, or the container where it refuses the write
abbrev pub left_by : Container → Result Container WriteRefusal → Container
left_by before (Ok after) = after
left_by before (Err why) = before

-- What a write answers that makes this of the container, or is refused, over a disk that is honest: it was made; it was
-- refused, and nothing changed; memory ran out, and nothing changed; or the disk failed, before it was made or
-- while it was. Nothing that such a store holds is damaged.
abbrev pub TellsWrite : {C : Type 0} → Container → Result Container WriteRefusal → Result (Unit {0}) WriteFault
    → Store C → List (List ℕ × ℕ) → History → History → Type 0
TellsWrite before made (Ok done) store ids old new =
    (after : Container) × (made ≡ Ok after) × HoldsAll store ids after × Turns old new (HasAll before) (HasAll after)
TellsWrite before made (Err fault.Conflict) store ids old new = (made ≡ Err Conflict) × IsKept before store ids old new
TellsWrite before made (Err fault.Absent) store ids old new = (made ≡ Err Absent) × IsKept before store ids old new
TellsWrite before made (Err fault.Full) store ids old new = (made ≡ Err Full) × IsKept before store ids old new
TellsWrite before made (Err (fault.Store store_fault.Disk)) store ids old new =
    Turns old new (HasAll before) (HasAll (left_by before made))
TellsWrite before made (Err (fault.Store (store_fault.Damaged extent at))) store ids old new = ⊥
TellsWrite before made (Err (fault.Store (store_fault.Newer version))) store ids old new = ⊥
TellsWrite before made (Err (fault.Store store_fault.Memory)) store ids old new = IsKept before store ids old new

-- the answer of the store's calls: a refusal is none of them
abbrev pub of_store : Result (Unit {0}) WriteFault → Result (Unit {0}) StoreFault
of_store (Ok done) = Ok done
of_store (Err fault.Conflict) = Ok tt
of_store (Err fault.Absent) = Ok tt
of_store (Err fault.Full) = Ok tt
of_store (Err (fault.Store why)) = Err why

-- ---- the faults that a write may have

abbrev pub IsOfCreation : WriteFault → Type 0
IsOfCreation fault.Conflict = Unit {0}
IsOfCreation fault.Absent = ⊥
IsOfCreation fault.Full = Unit {0}
IsOfCreation (fault.Store why) = Unit {0}

abbrev pub IsOfUpsert : WriteFault → Type 0
IsOfUpsert fault.Conflict = ⊥
IsOfUpsert fault.Absent = ⊥
IsOfUpsert fault.Full = Unit {0}
IsOfUpsert (fault.Store why) = Unit {0}

-- of a write that wants the id held
abbrev pub IsOfHeld : WriteFault → Type 0
IsOfHeld fault.Conflict = ⊥
IsOfHeld fault.Absent = Unit {0}
IsOfHeld fault.Full = ⊥
IsOfHeld (fault.Store why) = Unit {0}

-- of a document that is held, or is not: no refusal
abbrev pub IsOfStore : WriteFault → Type 0
IsOfStore fault.Conflict = ⊥
IsOfStore fault.Absent = ⊥
IsOfStore fault.Full = ⊥
IsOfStore (fault.Store why) = Unit {0}

-- ---- damage

-- the fault has the place of a document that is held whose text is that of none
pub record IsSpoiledText {C : Type 0} (store : Store C) (why : StoreFault) : Type 0 where
  pub number : ℕ
  pub placed : IsPlaced store number why
  pub none : HasNone (finite.get (store_contents store).documents number)

-- what a fault says: a store is damaged at the place of a document's text that is none, or of a part of a term page
abbrev pub TellsDamage : {C : Type 0} → Store C → StoreFault → Type 0
TellsDamage store store_fault.Disk = Unit {0}
TellsDamage store (store_fault.Damaged extent at) =
    IsSpoiledText store (store_fault.Damaged extent at) ⊎ TellsPart store (store_fault.Damaged extent at)
TellsDamage store (store_fault.Newer version) = ⊥
TellsDamage store store_fault.Memory = Unit {0}

-- ---- what was found

-- the entry of the id, under its number and with its tree; or there is none
abbrev pub IsFoundIn : List ℕ → Container → Option FoundDocument → Type 0
IsFoundIn id container (Some found) =
    (entry : Entry) × (entry_of id container ≡ Some entry) × (found.number ≡ entry.number)
    × (found.document.tree ≡ entry.tree)
IsFoundIn id container None = entry_of id container ≡ None

-- the document is held under the number, under the policy of that number, whatever the disk gives
pub record IsHeldAs (contents : Contents) (found : FoundDocument) : Type 0 where
  pub stored : Stored
  pub held : finite.get contents.documents found.number ≡ Some stored
  pub policy : found.document.policy ≡ stored.policy

-- its text is that of the document, where the disk is to be trusted
abbrev pub IsTextHeld : Contents → FoundDocument → Type 0
IsTextHeld contents found = IsHeld (finite.get contents.documents found.number) (Some found.document)

-- ---- when none can be created

-- a creation answers that the contents are full exactly where they are
abbrev pub IsFullExactly : Result (Unit {0}) WriteFault → Contents → Type 0
IsFullExactly (Ok done) contents = is_full_of contents ≡ false
IsFullExactly (Err fault.Conflict) contents = ⊥
IsFullExactly (Err fault.Absent) contents = ⊥
IsFullExactly (Err fault.Full) contents = is_full_of contents ≡ true
IsFullExactly (Err (fault.Store why)) contents = is_full_of contents ≡ false

-- a write answers that the contents are full only where they are
abbrev pub FullOnly : Result (Unit {0}) WriteFault → Contents → Type 0
FullOnly (Ok done) contents = Unit {0}
FullOnly (Err fault.Conflict) contents = Unit {0}
FullOnly (Err fault.Absent) contents = Unit {0}
FullOnly (Err fault.Full) contents = is_full_of contents ≡ true
FullOnly (Err (fault.Store why)) contents = Unit {0}

-- ---- the policies of the table

-- Each number has the policy that it had; the number of the policy now is the same, and so is that below which all documents are
-- known to be under it.
pub record SamePolicies (old new : Table) : Type 0 where
  pub policies : (number : ℕ) → policy_at new number ≡ policy_at old number
  pub current : new.current ≡ old.current
  pub moved : new.moved ≡ old.moved

-- ---- what calls leave

-- of one that looks something up
pub record Looks {C T : Type 0} (pages : C → CachedPages) (honest : Bool) (result : Result T StoreFault) (old new : Store C)
    (before after : History) (earlier later : ℕ) : Type 0 where
  pub told : IsTrue honest → IfErr result (TellsDamage old)
  pub reads : Reads pages honest old new before after earlier later
  pub others : KeepsTaken (store_slots old) (store_slots new)
  pub fails : FailsBy result (store_failed old) (store_failed new)
  pub cause : store_failed old ≡ false → HasDiskCause result earlier later

-- a write that is neither made nor met by a fault of the disk leaves the disk's lists as they are
abbrev pub IdlesUnlessMade : Result (Unit {0}) WriteFault → History → History → Type 0
IdlesUnlessMade (Ok done) before after = Unit {0}
IdlesUnlessMade (Err fault.Conflict) before after = Idles before after
IdlesUnlessMade (Err fault.Absent) before after = Idles before after
IdlesUnlessMade (Err fault.Full) before after = Idles before after
IdlesUnlessMade (Err (fault.Store why)) before after = IdlesUnlessDisk why before after

-- of a write
pub record WriteLeaves {C : Type 0} (pages : C → CachedPages) (honest : Bool) (result : Result (Unit {0}) WriteFault)
    (old new : Store C) (before after : History) (earlier later : ℕ) : Type 0 where
  pub told : IsTrue honest → IfErr (of_store result) (TellsDamage old)
  pub kept : OnErr result (store_contents new ≡ store_contents old)
  pub idle : IsTrue honest → IdlesUnlessMade result before after
  -- all that is told can be read, where it could before and the term pages hold a set
  pub readable : IsTrue honest → store_failed old ≡ false → (set : PairSet) → IsIndex (store_contents old).terms set
      → Rests before SaysReadable → Stays before after SaysReadable
  pub fails : FailsBy (of_store result) (store_failed old) (store_failed new)
  pub agrees : AgreesUnlessFailed pages honest new after
  pub slots : (store_slots new).taken ≡ (store_slots old).taken
  pub others : KeepsTaken (store_slots old) (store_slots new)
  pub area : store_area new ≡ store_area old
  pub cause : store_failed old ≡ false → HasDiskCause (of_store result) earlier later
  pub never_falls : earlier ≤ later

-- ---- what was met before it is answered

-- The number was told by the table of ids lately found; or by the index, and then each part of the pages to which the id's
-- term can belong is in its grammar, and where the pages hold a set it is the number of that set. The index alone tells that
-- there is none.
abbrev pub IsLookedUp : List (List ℕ × ℕ) → List ℕ → Contents → Option ℕ → Type 0
IsLookedUp ids id contents None = TellsIndex id contents None
IsLookedUp ids id contents (Some number) = Contains ids (id, number) ⊎ TellsIndex id contents (Some number)

-- the text of the document that is held is that of one that a store can hold
abbrev pub HasDocument : Option Stored → Type 0
HasDocument None = ⊥
HasDocument (Some stored) = (tree : Tree) × IsStoredText stored.text tree

-- a number was told for the id, and the text of the document under it is that of a document
pub record FindsHeld (ids : List (List ℕ × ℕ)) (id : List ℕ) (contents : Contents) : Type 0 where
  pub number : ℕ
  pub told : IsLookedUp ids id contents (Some number)
  pub read : HasDocument (finite.get contents.documents number)

-- a number was told for the id, under which no document is held
pub record FindsUnheld (ids : List (List ℕ × ℕ)) (id : List ℕ) (contents : Contents) : Type 0 where
  pub number : ℕ
  pub told : IsLookedUp ids id contents (Some number)
  pub none : (number ≡ 0) ⊎ (finite.get contents.documents number ≡ None)

-- no number was told for the id, or one under which no document is held
abbrev pub FindsNone : List (List ℕ × ℕ) → List ℕ → Contents → Type 0
FindsNone ids id contents = IsLookedUp ids id contents None ⊎ FindsUnheld ids id contents

-- what was found
abbrev pub Finds : List (List ℕ × ℕ) → List ℕ → Contents → Option FoundDocument → Type 0
Finds ids id contents (Some found) = FindsHeld ids id contents
Finds ids id contents None = FindsNone ids id contents

-- what a creation has met that is made, or refused by what is held: it is made only where the contents are not full, and refused
-- as full only where they are
abbrev pub MeetsCreation : Result (Unit {0}) WriteFault → List (List ℕ × ℕ) → List ℕ → Contents → Type 0
MeetsCreation (Ok done) ids id contents = IsLookedUp ids id contents None × (is_full_of contents ≡ false)
MeetsCreation (Err fault.Conflict) ids id contents = (number : ℕ) × IsLookedUp ids id contents (Some number)
MeetsCreation (Err fault.Absent) ids id contents = ⊥
MeetsCreation (Err fault.Full) ids id contents = IsLookedUp ids id contents None × (is_full_of contents ≡ true)
MeetsCreation (Err (fault.Store why)) ids id contents = Unit {0}

-- the same of an upsert
abbrev pub MeetsUpsert : Result (Unit {0}) WriteFault → List (List ℕ × ℕ) → List ℕ → Contents → Type 0
MeetsUpsert (Ok done) ids id contents = FindsHeld ids id contents ⊎ (FindsNone ids id contents × (is_full_of contents ≡ false))
MeetsUpsert (Err fault.Conflict) ids id contents = ⊥
MeetsUpsert (Err fault.Absent) ids id contents = ⊥
MeetsUpsert (Err fault.Full) ids id contents = FindsNone ids id contents × (is_full_of contents ≡ true)
MeetsUpsert (Err (fault.Store why)) ids id contents = Unit {0}

-- the same of a write that wants the id held
abbrev pub MeetsHeld : Result (Unit {0}) WriteFault → List (List ℕ × ℕ) → List ℕ → Contents → Type 0
MeetsHeld (Ok done) ids id contents = FindsHeld ids id contents
MeetsHeld (Err fault.Conflict) ids id contents = ⊥
MeetsHeld (Err fault.Absent) ids id contents = FindsNone ids id contents
MeetsHeld (Err fault.Full) ids id contents = ⊥
MeetsHeld (Err (fault.Store why)) ids id contents = Unit {0}
