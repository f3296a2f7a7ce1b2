-- When reading a table answers that the store is damaged: where a text that the table needs is that of no policy, with
-- the place of its part, or where two numbers that are in use or now have one text. These are the words of
-- `HasNoTable`, of a store in place of an image, but that the text of number 0 is needed, too: each table has a policy there.
-- It is this project's own; it comes from no public document.
use Rattle.std.specs.Prelude.{◌≡◌, ◌≢◌, ◌⊎◌, ℕ, List, slice_get, Some}
use Rattle.std.specs.FinMap as map
use Rattle.ax_area.specs.Contents.{Contents}
use Rattle.ax_image_grammar.specs.Payloads.{IsPolicyText}
use Rattle.ax_image_grammar.specs.Table.{IsTaken, policy_text}
use Rattle.ax_pages.specs.Area.{extent_number}
use Rattle.ax_pages.specs.declared.page.Page.{Page}
use Rattle.ax_store.specs.declared.store.Store.{Store}
use Rattle.ax_store.specs.declared.fault.StoreFault.{StoreFault}
use Rattle.ax_store.specs.declared.fault.StoreFault.TheVariants.{Disk, Damaged, Newer, Memory}
use Rattle.ax_store.specs.Kept.{offsets_of}
use Rattle.ax_store.specs.Store.{store_area, store_contents, store_offsets}

-- the fault has the place of the first part of a page
abbrev pub IsPlacedAt : {C : Type 0} → Store C → Page → StoreFault → Type 0
IsPlacedAt store page Disk = ⊥
IsPlacedAt store page (Damaged extent at) =
    (extent ≡ extent_number (store_area store)) × (slice_get (offsets_of page (store_offsets store)) 0 ≡ Some at)
IsPlacedAt store page (Newer version) = ⊥
IsPlacedAt store page Memory = ⊥

-- a part gave a policy this number, it stands at this offset, and its text is that of no policy
pub record IsPolicySpoiled {C : Type 0} (number : ℕ) (store : Store C) (at : ℕ) : Type 0 where
  pub text : List ℕ
  pub held : map.get (store_contents store).policies number ≡ Some text
  pub placed : map.get (store_offsets store).policies number ≡ Some at
  pub bad : IsPolicyText text → ⊥

-- what a fault says of reading the policy of a number
abbrev pub TellsPolicy : {C : Type 0} → ℕ → Store C → StoreFault → Type 0
TellsPolicy number store Disk = Unit {0}
TellsPolicy number store (Damaged extent at) = (extent ≡ extent_number (store_area store)) × IsPolicySpoiled number store at
TellsPolicy number store (Newer version) = ⊥
TellsPolicy number store Memory = Unit {0}

-- The table needs the text of the number: it is in use or now, or it is 0, under which each table has a policy.
abbrev pub IsNeeded : ℕ → Contents → Type 0
IsNeeded number contents = IsTaken number contents ⊎ (number ≡ 0)

-- two numbers that are in use or now have one text
pub record HaveTwins (contents : Contents) : Type 0 where
  pub a : ℕ
  pub b : ℕ
  pub taken : IsTaken a contents
  pub taken_too : IsTaken b contents
  pub same : policy_text a contents ≡ policy_text b contents
  pub two : a ≢ b

-- what a fault says of reading a table
abbrev pub TellsTable : {C : Type 0} → Store C → StoreFault → Type 0
TellsTable store Disk = Unit {0}
TellsTable store (Damaged extent at) =
    (extent ≡ extent_number (store_area store))
    × (((number : ℕ) × IsNeeded number (store_contents store) × IsPolicySpoiled number store at)
    ⊎ ((at ≡ 0) × HaveTwins (store_contents store)))
TellsTable store (Newer version) = ⊥
TellsTable store Memory = Unit {0}
