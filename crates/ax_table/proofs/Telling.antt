-- What faults say of a table, and of which calls they are.
use Rattle.std.proofs.Common.{◌≡◌, ℕ, List, Option, Some, None, inl, inr, sym, ap, subst, ◌∙◌}
use Rattle.std.specs.Prelude.{slice_get}
use Rattle.std.specs.Option.{option_to_list}
use Rattle.std.specs.FinMap as map
use Rattle.ax_area_laws.specs.Risen.{risen}
use Rattle.ax_image_grammar.specs.Payloads.{IsTextOf}
use Rattle.ax_log.specs.Log.{log_area}
use Rattle.ax_pages.specs.Area.{extent_number}
use Rattle.ax_pages.specs.declared.page.Page.{Page}
use Rattle.ax_pages.specs.declared.page.Page.TheVariants.{Policy}
use Rattle.ax_policy.specs.declared.policy.Policy.{Policy as PolicyOf}
use Rattle.ax_policy.specs.Table.{Table}
use Rattle.ax_store.specs.declared.fault.StoreFault.{StoreFault}
use Rattle.ax_store.specs.declared.fault.StoreFault.TheVariants.{Disk, Damaged, Newer, Memory}
use Rattle.ax_store.specs.declared.store.Store.{Store}
use Rattle.ax_store.specs.Faults.{IsDiskFault}
use Rattle.ax_store.specs.Kept.{Kept}
use Rattle.ax_store.specs.Store.{SameButReads, store_area, store_contents, store_offsets}
use Rattle.ax_table.specs.Damage.{HaveTwins, IsNeeded, IsPlacedAt, IsPolicySpoiled, TellsPolicy, TellsTable}
use Rattle.ax_table.specs.Filling.{IsTwin, TellsTwins}

-- ---- faults that are not of the disk

pub memory_alone : (fault : StoreFault) → fault ≡ Memory → IsDiskFault fault → ⊥
memory_alone fault is disk = subst IsDiskFault is disk

only_place : (offset : Option ℕ) (at : ℕ) → slice_get (option_to_list offset) 0 ≡ Some at → offset ≡ Some at
only_place None at is = absurd cc
only_place (Some other) at is = is

module _ {C : Type 0} where
  pub placed_apart : (store : Store C) (page : Page) (fault : StoreFault) → IsPlacedAt store page fault → IsDiskFault fault → ⊥
  placed_apart store page Disk placed disk = placed
  placed_apart store page (Damaged extent at) placed disk = disk
  placed_apart store page (Newer version) placed disk = disk
  placed_apart store page Memory placed disk = disk

  pub twins_apart : (store : Store C) (table : Table) (fault : StoreFault) → TellsTwins store table fault → IsDiskFault fault → ⊥
  twins_apart store table Disk told disk = told
  twins_apart store table (Damaged extent at) told disk = disk
  twins_apart store table (Newer version) told disk = disk
  twins_apart store table Memory told disk = disk

  -- ---- stores that are the same but for reads

  pub same_contents : (old new : Store C) → SameButReads old new → store_contents new ≡ store_contents old
  same_contents old new same = ap (λ (kept : Kept). risen kept.contents) same.pages

  pub same_area : (old new : Store C) → SameButReads old new → store_area new ≡ store_area old
  same_area old new same = ap log_area same.logged

  spoiled_back : (number : ℕ) (old new : Store C) (at : ℕ) → SameButReads old new → IsPolicySpoiled number new at → IsPolicySpoiled number old at
  spoiled_back number old new at same spoiled = record {
    text = spoiled.text;
    held = ap (λ (kept : Kept). map.get kept.contents.policies number) (sym same.pages) ∙ spoiled.held;
    placed = ap (λ (kept : Kept). map.get kept.offsets.policies number) (sym same.pages) ∙ spoiled.placed;
    bad = spoiled.bad;
  }

  pub policy_back : (number : ℕ) (old new : Store C) (fault : StoreFault) → SameButReads old new → TellsPolicy number new fault
      → TellsPolicy number old fault
  policy_back number old new Disk same told = tt
  policy_back number old new (Damaged extent at) same told =
      (told.0 ∙ ap extent_number (same_area old new same), spoiled_back number old new at same told.1)
  policy_back number old new (Newer version) same told = told
  policy_back number old new Memory same told = tt

  pub table_back : (old new : Store C) (fault : StoreFault) → SameButReads old new → TellsTable new fault → TellsTable old fault
  table_back old new Disk same told = tt
  table_back old new (Damaged extent at) same (place, inl (number, needed, spoiled)) = (
    place ∙ ap extent_number (same_area old new same),
    inl (number, subst (IsNeeded number) (same_contents old new same) needed, spoiled_back number old new at same spoiled),
  )
  table_back old new (Damaged extent at) same (place, inr (zero, twins)) =
      (place ∙ ap extent_number (same_area old new same), inr (zero, subst HaveTwins (same_contents old new same) twins))
  table_back old new (Newer version) same told = told
  table_back old new Memory same told = tt

  -- ---- what they say

  pub disk_told : (number : ℕ) (store : Store C) (fault : StoreFault) → fault ≡ Disk → TellsPolicy number store fault
  disk_told number store fault is = let P : StoreFault → Type 0 = λ f. TellsPolicy number store f in subst P (sym is) tt

  -- the text of a part was read and is that of no policy
  pub spoiled_told : (number : ℕ) (store : Store C) (text : List ℕ) (fault : StoreFault) → map.get (store_contents store).policies number ≡ Some text
      → ((policy : PolicyOf) → IsTextOf text policy → ⊥) → IsPlacedAt store (Policy number) fault → TellsPolicy number store fault
  spoiled_told number store text Disk held none placed = tt
  spoiled_told number store text (Damaged extent at) held none placed = (
    placed.0,
    record { text = text; held = held; placed = only_place (map.get (store_offsets store).policies number) at placed.1; bad = λ is. none is.policy is.is },
  )
  spoiled_told number store text (Newer version) held none placed = placed
  spoiled_told number store text Memory held none placed = tt

  -- of a policy that the table needs
  pub needed_told : (number : ℕ) (store : Store C) (fault : StoreFault) → IsNeeded number (store_contents store) → TellsPolicy number store fault
      → TellsTable store fault
  needed_told number store Disk needed told = tt
  needed_told number store (Damaged extent at) needed told = (told.0, inl (number, needed, told.1))
  needed_told number store (Newer version) needed told = told
  needed_told number store Memory needed told = tt

  -- two numbers have one text
  pub twins_told : (store : Store C) (table : Table) (fault : StoreFault) → ((number : ℕ) → IsTwin table number → HaveTwins (store_contents store))
      → TellsTwins store table fault → TellsTable store fault
  twins_told store table Disk twins told = tt
  twins_told store table (Damaged extent at) twins (place, zero, (number, twin)) = (place, inr (zero, twins number twin))
  twins_told store table (Newer version) twins told = told
  twins_told store table Memory twins told = tt
