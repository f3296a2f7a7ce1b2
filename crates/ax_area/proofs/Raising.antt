-- What an area tells in one version it tells in each later one: so a store is raised by its slot
-- alone.
use Rattle.std.proofs.Common.{◌≡◌, ℕ, ◌+◌, ◌≤◌, nat_le, arith, Bool, true, false, List, []}
use Rattle.std.proofs.Common.{◌∷◌, Option, length, inr, refl, ap, ◌∙◌}
use Rattle.std.specs.Prelude.{Some, None, find, ◌==◌, if◌then◌else◌, option_and_then}
use Rattle.std.proofs.lemmas.Bool.{leb-true, le-leb}
use Rattle.ax_disk.specs.model.Image.{Image}
use Rattle.ax_area.specs.declared.root.Counting.{Counting}
use Rattle.ax_area.specs.declared.kind.Kind.{Kind}
use Rattle.ax_area.specs.Kinds.{Row, kinds, known_in, kind_in}
use Rattle.ax_area.specs.Items.{Item, item_bytes}
use Rattle.ax_area.specs.Changes.{Change, change_by, change_of}
use Rattle.ax_area.specs.Contents.{Contents, no_contents}
use Rattle.ax_area.specs.Told.{Told, AreTold, TellOn, Lead}
use Rattle.ax_area.specs.Image.{IsLive, Says}
use Rattle.ax_area.proofs.OneTelling.{some_or_none}

module _ (v w : ℕ) (later : v ≤ w) where
  row_later : (row : Row) (kind : Kind) → known_in v row ≡ Some kind → known_in w row ≡ Some kind
  row_later row kind is = by_test (nat_le row.since v) refl is
    where
      by_test : (b : Bool) → nat_le row.since v ≡ b → (if b then Some row.kind else None)
          ≡ Some kind → known_in w row ≡ Some kind
      by_test true e is =
          let since : row.since ≤ v = leb-true row.since v e in
          ap (λ b. if b then Some row.kind else None)
          (le-leb row.since w (omega (arith, since, later))) ∙ is
      by_test false e is = absurd (some_or_none kind is)

  kind_later : (found : Option Row) (kind : Kind) → option_and_then (known_in v) found ≡ Some kind
      → option_and_then (known_in w) found ≡ Some kind
  kind_later None kind is = absurd (some_or_none kind is)
  kind_later (Some row) kind is = row_later row kind is

  -- what has a kind in the one has it in the other
  by_kind : (item : Item) (change : Change) (is other : Option Kind)
      → ((kind : Kind) → is ≡ Some kind → other ≡ Some kind) → change_by is item.first item.pieces
      ≡ Some change
      → change_by other item.first item.pieces ≡ Some change
  by_kind item change None other same says = absurd (some_or_none change says)
  by_kind item change (Some kind) other same says =
      ap (λ k. change_by k item.first item.pieces) (same kind refl) ∙ says

  pub says_later : (item : Item) (change : Change) → change_of v item ≡ Some change
      → change_of w item ≡ Some change
  says_later item change says =
      by_kind item change (kind_in v item.first.kind) (kind_in w item.first.kind)
      (λ kind is. kind_later (find (λ r. r.number == item.first.kind) kinds) kind is) says

  tells_later : (at : ℕ) (told : List Told) → AreTold v at told → AreTold w at told
  tells_later at [] are = tt
  tells_later at (t ∷ told) are = (
    record {
      at_is = are.0.at_is;
      item = are.0.item;
      says = says_later t.item t.change are.0.says;
    },
    tells_later
        (at + length (item_bytes t.item)) told are.1,
  )

  pub tell_later : (frames : List (List ℕ)) (at : ℕ) (told : List Told) → TellOn v frames at told
      → TellOn w frames at told
  tell_later [] at told tell = tell
  tell_later (frame ∷ frames) at told (first, others, is, begins, more) = (
    first,
    others,
    is,
    record {
      are = tells_later (at + 9) first begins.are;
      spelled = begins.spelled;
    },
    tell_later frames (at + 9 + length frame) others more,
  )

-- another slot counts, of the newest version, and it names an area with the same frames
pub raised : (newest : ℕ) (old new : Counting) (frames : List (List ℕ)) (told : List Told)
    (contents : Contents) (image : Image)
    → old.version ≤ new.version → TellOn old.version frames 0 told → Lead told no_contents contents
    → IsLive newest new frames image → Says newest new.version told contents image
raised newest old new frames told contents image later tell lead live = inr (record {
  slot = new;
  version_is = refl;
  frames = frames;
  live = live;
  tell = tell_later old.version new.version later frames 0 told tell;
  lead = lead;
})
