-- Where no table of policies can be made, the image that was opened is damaged at that place.
use Rattle.std.proofs.Common.{◌≡◌, ◌⊎◌, inl, inr, ℕ, List, Some, refl, sym, subst, ◌∙◌}
use Rattle.std.specs.FinMap as finite
use Rattle.std.specs.Ordering.{nat_cmp}
use Rattle.ax_area.proofs.OneRoot.{fresh_counts}
use Rattle.ax_area.proofs.OneTelling.{some_or_none}
use Rattle.ax_area.specs.Contents.{Contents, no_contents}
use Rattle.ax_area.specs.Image.{IsFresh}
use Rattle.ax_area.specs.Places.{no_places, places_after}
use Rattle.ax_cache.specs.PageLaws.{no_pages}
use Rattle.ax_cache.specs.declared.no_pages.NoPages.{NoPages}
use Rattle.ax_disk.specs.model.Calls.{Idles}
use Rattle.ax_disk.specs.model.Image.{Image}
use Rattle.ax_disk.specs.model.Moments.{History}
use Rattle.ax_disk.specs.model.Pending.{MayLeave}
use Rattle.ax_image.specs.Readable.{newest}
use Rattle.ax_image_grammar.specs.Grammar.{HasTwins}
use Rattle.ax_image_grammar.specs.Table.{IsTaken}
use Rattle.ax_log.specs.Opening.{Keeps}
use Rattle.ax_store.proofs.OpenLemmas.{keeps_idle}
use Rattle.ax_store.specs.Store.{Has, IsOpened, store_area, store_contents, store_offsets}
use Rattle.ax_store.specs.declared.fault.StoreFault.{StoreFault}
use Rattle.ax_store.specs.declared.fault.StoreFault.TheVariants as fault
use Rattle.ax_store.specs.declared.store.Store.{Store}
use Rattle.ax_table.specs.Damage.{HaveTwins, IsNeeded, IsPolicySpoiled, TellsTable}
use Rattle.ax_documents.specs.Opening.{IsNeededMetAt, RefusesBy}
use Rattle.ax_documents.proofs.Meeting.{Stands, stands}
use Rattle.ax_documents.proofs.Placing.{policy_begins_at}

-- of no contents nothing is needed that a part gave, and no two policies are taken
no_text : (number : ℕ) (text : List ℕ) → finite.get no_contents.policies number ≡ Some text → ⊥
no_text number text held = absurd (some_or_none text (sym (finite.get-empty nat_cmp number) ∙ held))

taken_is_zero : (number : ℕ) → IsTaken number no_contents → number ≡ 0
taken_is_zero number (inl is) = is
taken_is_zero number (inr used) =
    absurd (some_or_none used.document (sym (finite.get-empty nat_cmp used.number) ∙ used.held))

-- what stands in the image by which the store was opened
module _ {C : Type 0} (store : Store C) (image : Image) (there : Stands store image) where
  spoiled_met : (number at : ℕ) → IsNeeded number (store_contents store) → IsPolicySpoiled number store at
      → IsNeededMetAt (store_area store) at image
  spoiled_met number at needed spoiled = record {
    version = newest;
    told = there.told;
    contents = store_contents store;
    live = there.live;
    area_is = there.area_is;
    number = number;
    needed = needed;
    met = record {
      text = spoiled.text;
      held = spoiled.held;
      begin = policy_begins_at (store_offsets store) (places_after there.told no_places) number at there.alike spoiled.placed;
      bad = spoiled.bad;
    };
  }

  twins_there : HaveTwins (store_contents store) → HasTwins newest (store_area store) 0 image
  twins_there twins = record {
    version = newest;
    told = there.told;
    contents = store_contents store;
    live = there.live;
    area_is = there.area_is;
    place = refl;
    a = twins.a;
    b = twins.b;
    taken = twins.taken;
    taken_too = twins.taken_too;
    same = twins.same;
    two = twins.two;
  }

-- of a store that was fresh a table can be made
none_of_fresh : (store : Store NoPages) (extent at : ℕ) → store_contents store ≡ no_contents
    → TellsTable store (fault.Damaged extent at) → ⊥
none_of_fresh store extent at all (list, inl (number, needed, spoiled)) =
    no_text number spoiled.text (subst (λ (c : Contents). finite.get c.policies number ≡ Some spoiled.text) all spoiled.held)
none_of_fresh store extent at all (list, inr (zero, twins)) =
    twins.two
    (taken_is_zero twins.a (subst (IsTaken twins.a) all twins.taken)
    ∙ sym (taken_is_zero twins.b (subst (IsTaken twins.b) all twins.taken_too)))

not_fresh : (image : Image) (store : Store NoPages) (extent at : ℕ) → Has (store_contents store) image
    → TellsTable store (fault.Damaged extent at) → IsFresh image → ⊥
not_fresh image store extent at (version, told, inl was) tells fresh = none_of_fresh store extent at was.contents_is tells
not_fresh image store extent at (version, told, inr live) tells fresh = fresh_counts image.root live.slot fresh live.live.counts

-- why a store that was opened is refused
pub table_refuses : (old mid new : History) (store : Store NoPages) → IsOpened (λ _. no_pages) store old.reads mid
    → ((IsFresh old.reads → ⊥) → Keeps old mid) → MayLeave mid.unsynced mid.reads → Idles mid new
    → (why : StoreFault) → TellsTable store why → RefusesBy why old new
table_refuses old mid new store opened unchanged may idles fault.Disk tells = tt
table_refuses old mid new store opened unchanged may idles (fault.Newer version) tells = absurd tells
table_refuses old mid new store opened unchanged may idles fault.Memory tells = tt
table_refuses old mid new store opened unchanged may idles (fault.Damaged extent at) tells =
    ((store_area store, tells.0, inr (by_cause tells.1)), keeps_idle old mid new keeps idles)
  where
    keeps : Keeps old mid
    keeps = unchanged (not_fresh old.reads store extent at opened.has tells)

    there : Stands store mid.reads
    there = stands (λ (c : NoPages). no_pages) store mid opened.agrees may

    by_cause : (((number : ℕ) × IsNeeded number (store_contents store) × IsPolicySpoiled number store at)
        ⊎ ((at ≡ 0) × HaveTwins (store_contents store)))
        → IsNeededMetAt (store_area store) at old.reads ⊎ HasTwins newest (store_area store) at old.reads
    by_cause (inl (number, needed, spoiled)) =
        inl (subst (IsNeededMetAt (store_area store) at) keeps.reads
        (spoiled_met store mid.reads there number at needed spoiled))
    by_cause (inr (zero, twins)) =
        inr (subst (λ n. HasTwins newest (store_area store) n old.reads) (sym zero)
        (subst (HasTwins newest (store_area store) 0) keeps.reads (twins_there store mid.reads there twins)))
