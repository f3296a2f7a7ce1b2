-- What a change of the policy answers over a store that holds a container with its index: what it makes of the container, or
-- why it is refused; and what a crash at any moment of it leaves.
-- It is this project's own; it comes from no public document.
use Rattle.std.specs.Prelude.{◌≡◌, ◌≤◌, ◌<◌, ℕ, List, Bool, false, Some, Result, Ok, Err, IsTrue, IfErr, OnErr}
use Rattle.ax_area.specs.Contents.{Contents}
use Rattle.ax_area.specs.Image.{Says}
use Rattle.ax_area.specs.Parts.{after_parts}
use Rattle.ax_area.specs.Told.{Told}
use Rattle.ax_cache.specs.Pages.{CachedPages}
use Rattle.ax_container.specs.Container.{Container}
use Rattle.ax_container.specs.Reindexing.{PolicyRefusal}
use Rattle.ax_container.specs.Reindexing as refusal
use Rattle.ax_disk.specs.model.Calls.{Idles}
use Rattle.ax_disk.specs.model.Moments.{History}
use Rattle.ax_disk.specs.model.Stays.{Rests, Stays, Turns}
use Rattle.ax_image.specs.Readable.{SaysReadable, newest}
use Rattle.ax_image_pairs.specs.Indexed.{ContentsHoldAll, HasAll}
use Rattle.ax_index.specs.Damage.{FailsBy}
use Rattle.ax_index.specs.Reads.{KeepsTaken}
use Rattle.ax_pairs.specs.Index.{IsIndex}
use Rattle.ax_pairs.specs.PairSets.{PairSet}
use Rattle.ax_policy.specs.Table.{Table, most_others, number_for, others_in_use}
use Rattle.ax_policy.specs.declared.policy.Policy.{Policy}
use Rattle.ax_store.specs.Faults.{HasDiskCause}
use Rattle.ax_store.specs.Store.{AgreesUnlessFailed, SaysMore, store_area, store_contents, store_failed, store_slots}
use Rattle.ax_store.specs.declared.fault.StoreFault.{StoreFault}
use Rattle.ax_store.specs.declared.fault.StoreFault.TheVariants as store_fault
use Rattle.ax_store.specs.declared.store.Store.{Store}
use Rattle.ax_transform.specs.Parts.{setting_changes, setting_parts}
use Rattle.ax_transform.specs.declared.fault.TransformFault.{TransformFault}
use Rattle.ax_transform.specs.declared.fault.TransformFault.TheVariants as fault
use Rattle.ax_write.specs.Committed.{IdlesUnlessDisk, IsBrief}
use Rattle.ax_write.specs.Writes.{TellsDamage}

-- the container is as it was, and so is what a crash leaves of it
abbrev pub IsKept : Container → Contents → History → History → Type 0
IsKept before contents old new = ContentsHoldAll contents before × Turns old new (HasAll before) (HasAll before)

-- what is made of the container, or the container where it refuses the change
abbrev pub left_by : Container → Result Container PolicyRefusal → Container
left_by before (Ok after) = after
left_by before (Err why) = before

-- What a call answers that makes this of the container, or is refused, over a disk that is honest: it was made; it was refused,
-- and nothing changed; memory ran out, and nothing changed; or the disk failed, before it was made or while it was. Nothing that
-- such a store holds is damaged.
abbrev pub TellsChange : Container → Result Container PolicyRefusal → Result (Unit {0}) TransformFault → Contents → History → History
    → Type 0
TellsChange before made (Ok done) contents old new =
    (after : Container) × (made ≡ Ok after) × ContentsHoldAll contents after × Turns old new (HasAll before) (HasAll after)
TellsChange before made (Err fault.Policies) contents old new = (made ≡ Err refusal.Policies) × IsKept before contents old new
TellsChange before made (Err (fault.Store store_fault.Disk)) contents old new = Turns old new (HasAll before) (HasAll (left_by before made))
TellsChange before made (Err (fault.Store (store_fault.Damaged extent at))) contents old new = ⊥
TellsChange before made (Err (fault.Store (store_fault.Newer version))) contents old new = ⊥
TellsChange before made (Err (fault.Store store_fault.Memory)) contents old new = IsKept before contents old new

-- the answer of the store's calls: a refusal is none of them
abbrev pub of_store : Result (Unit {0}) TransformFault → Result (Unit {0}) StoreFault
of_store (Ok done) = Ok done
of_store (Err fault.Policies) = Ok tt
of_store (Err (fault.Store why)) = Err why

-- ---- the faults that a change of the policy may have: no payload is read

abbrev pub IsOfSetting : TransformFault → Type 0
IsOfSetting fault.Policies = Unit {0}
IsOfSetting (fault.Store why) = IsBrief why

-- ---- when another policy is refused

-- made where fewer than so many others are in use, refused where so many are
abbrev pub RefusesExactly : Result (Unit {0}) TransformFault → Policy → Table → Type 0
RefusesExactly (Ok done) policy table = others_in_use policy table < most_others
RefusesExactly (Err fault.Policies) policy table = most_others ≤ others_in_use policy table
RefusesExactly (Err (fault.Store why)) policy table = Unit {0}

-- ---- what is written

-- In one batch: exactly the parts by which the policy becomes the one now, under the number that the table gives it. Over an
-- honest disk their changes are all that is told behind what was told before.
pub record IsSetting {C : Type 0} (honest : Bool) (policy : Policy) (table : Table) (old new : Store C) (before after : History) : Type 0 where
  pub number : ℕ
  pub given : number_for policy table ≡ Some number
  pub committed : after_parts (setting_parts (store_contents old).next_number number policy table) (store_contents old) ≡ Some (store_contents new)
  pub told : IsTrue honest → store_failed old ≡ false → (version : ℕ) (told : List Told)
      → Says newest version told (store_contents old) before.reads
      → Rests after (SaysMore version told (setting_changes (store_contents old).next_number number policy table) (store_contents new))

-- ---- what a call leaves

-- one that is neither made nor met by a fault of the disk leaves the disk's lists as they are
abbrev pub IdlesUnlessMade : Result (Unit {0}) TransformFault → History → History → Type 0
IdlesUnlessMade (Ok done) before after = Unit {0}
IdlesUnlessMade (Err fault.Policies) before after = Idles before after
IdlesUnlessMade (Err (fault.Store why)) before after = IdlesUnlessDisk why before after

pub record ChangeLeaves {C : Type 0} (pages : C → CachedPages) (honest : Bool) (result : Result (Unit {0}) TransformFault)
    (old new : Store C) (before after : History) (earlier later : ℕ) : Type 0 where
  pub told : IsTrue honest → IfErr (of_store result) (TellsDamage old)
  pub kept : OnErr result (store_contents new ≡ store_contents old)
  pub idle : IsTrue honest → IdlesUnlessMade result before after
  -- all that is told can be read, where it could before and the term pages hold a set
  pub readable : IsTrue honest → store_failed old ≡ false → (set : PairSet) → IsIndex (store_contents old).terms set
      → Rests before SaysReadable → Stays before after SaysReadable
  pub fails : FailsBy (of_store result) (store_failed old) (store_failed new)
  pub agrees : AgreesUnlessFailed pages honest new after
  pub slots : (store_slots new).taken ≡ (store_slots old).taken
  pub others : KeepsTaken (store_slots old) (store_slots new)
  pub area : store_area new ≡ store_area old
  pub cause : store_failed old ≡ false → HasDiskCause (of_store result) earlier later
  pub never_falls : earlier ≤ later
