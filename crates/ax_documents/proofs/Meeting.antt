-- What a store that agrees with the disk holds outside its grammar stands in the image that reads give.
use Rattle.std.proofs.Common.{◌≡◌, ◌⊎◌, ◌<◌, ◌≤◌, ℕ, Bool, true, false, List, [], Option, Some, None, Result, Ok, Err, inl, inr, length, refl, sym, subst}
use Rattle.std.proofs.Common.{arith}
use Rattle.std.specs.Prelude.{IfErr, IsTrue, slice_get}
use Rattle.std.specs.FinMap as finite
use Rattle.std.proofs.lemmas.Option.{slice_get-get_or}
use Rattle.ax_area.proofs.OneRoot.{counts_from}
use Rattle.ax_area.specs.Contents.{Stored}
use Rattle.ax_area.specs.Image.{IsLiveWith}
use Rattle.ax_area.specs.Places.{no_places, places_after}
use Rattle.ax_area.specs.Told.{Told}
use Rattle.ax_area_laws.proofs.Rising.{told_risen}
use Rattle.ax_cache.specs.Pages.{CachedPages}
use Rattle.ax_disk.specs.model.Calls.{Idles}
use Rattle.ax_disk.specs.model.Image.{Image}
use Rattle.ax_disk.specs.model.Moments.{History}
use Rattle.ax_disk.specs.model.Pending.{MayLeave}
use Rattle.ax_image.specs.Readable.{newest}
use Rattle.ax_image_grammar.specs.Met.{IsMet, IsPayload}
use Rattle.ax_image_grammar.specs.Payloads.{IsDocumentText}
use Rattle.ax_index.specs.Damage as index
use Rattle.ax_index.specs.Damage.{is_base_at}
use Rattle.ax_leaf.specs.Pairs.{pairs_of}
use Rattle.ax_storable.specs.Storable.{most_bytes}
use Rattle.ax_storable.specs.StoredTexts.{IsStoredText}
use Rattle.ax_log.specs.Log.{log_slot}
use Rattle.ax_pages.specs.Area.{extent_number}
use Rattle.ax_pages.specs.Contents.{TermPage, term_page, term_parts}
use Rattle.ax_pages.specs.declared.page.Page.TheVariants.{Term}
use Rattle.ax_store.proofs.LoadLemmas.{lead_on_of}
use Rattle.ax_store.specs.Kept.{offsets_of}
use Rattle.ax_store.specs.Loading.{nothing_kept}
use Rattle.ax_store.specs.Slots.{term_part}
use Rattle.ax_store.specs.Store.{Agrees, store_area, store_contents, store_offsets}
use Rattle.ax_store.specs.declared.fault.StoreFault.{StoreFault}
use Rattle.ax_store.specs.declared.fault.StoreFault.TheVariants as fault
use Rattle.ax_store.specs.declared.store.Store.{Store}
use Rattle.ax_write.specs.Committed.{IdlesUnlessDisk}
use Rattle.ax_write.specs.Held.{HasNone, IsOfNone}
use Rattle.ax_write.specs.Writes.{Looks, TellsDamage, WriteLeaves, of_store}
use Rattle.ax_write.specs.declared.fault.WriteFault.{WriteFault}
use Rattle.ax_write.specs.declared.fault.WriteFault.TheVariants as write_fault
use Rattle.ax_documents.specs.Damage.{IsMetIn, MeetsBy}
use Rattle.ax_documents.proofs.Placing.{Alike, alike_on, document_begins_at, nothing_alike, part_at}

-- The image is live with the store's contents, and what it tells stands at the store's offsets.
pub record Stands {C : Type 0} (store : Store C) (image : Image) : Type 0 where
  pub told : List Told
  pub live : IsLiveWith newest newest told (store_contents store) image
  pub area_is : live.slot.area ≡ store_area store
  pub alike : Alike (store_offsets store) (places_after told no_places)

pub stands : {C : Type 0} (pages : C → CachedPages) (store : Store C) (history : History) → Agrees pages store history
    → MayLeave history.unsynced history.reads → Stands store history.reads
stands pages store history agrees may =
    let logged = agrees.logged in
    let there = logged.rests.each history.reads may in
    let slot = log_slot store.log in
    let (told, tell, lead) = told_risen agrees.frames store.pages.contents
    (lead_on_of agrees.frames 0 nothing_kept store.pages agrees.takes) in
    record {
      told = told;
      live = record {
        slot = slot;
        version_is = omega (arith, counts_from history.reads.root slot logged.counts, logged.known.known);
        frames = agrees.frames;
        live = record { counts = logged.counts; known = logged.known; has = there.has };
        tell = tell;
        lead = lead;
      };
      area_is = refl;
      alike = alike_on agrees.frames 0 told nothing_kept store.pages no_places tell agrees.takes nothing_alike;
    }

-- ---- outside its grammar, in the words of the store and in those of an image

pub stored_text : (text : List ℕ) (is : IsDocumentText newest text) → IsStoredText text is.tree
stored_text text is = record {
  storable = record {
    document = is.document;
    well_formed = is.well_formed;
    shallow = is.shallow;
    named = is.named;
    small = subst (λ t. length t ≤ most_bytes) is.spelled is.small;
    fits = is.fits;
  };
  spelled = is.spelled;
}

held_none : (held : Option Stored) → HasNone held → (document : Stored) × (held ≡ Some document) × IsOfNone document.text
held_none None none = absurd none
held_none (Some document) none = (document, refl, none)

payload_is : (base : Bool) (payload : List ℕ) → IsPayload base payload → index.IsPayload base payload
payload_is true payload is = (
  pairs_of is.postings,
  record { low = is.low; postings = is.postings; is = is.is; have = refl },
)
payload_is false payload is = (is.changes, is.is)

-- ---- on the disk

module _ {C : Type 0} (store : Store C) (image : Image) (there : Stands store image) where
  met_in : (at : ℕ) → IsMet newest there.told (store_contents store) at → IsMetIn image (extent_number (store_area store)) at
  met_in at met = (
    store_area store,
    refl,
    record {
      version = newest;
      told = there.told;
      contents = store_contents store;
      live = there.live;
      area_is = there.area_is;
      met = met;
    },
  )

  -- the text of a document
  text_there : (number at : ℕ) (document : Stored) → finite.get (store_contents store).documents number ≡ Some document
      → finite.get (store_offsets store).documents number ≡ Some at → (IsDocumentText newest document.text → ⊥)
      → IsMetIn image (extent_number (store_area store)) at
  text_there number at document held placed bad =
      met_in at (inl (
        number,
        record {
          document = document;
          held = held;
          begin = document_begins_at (store_offsets store) (places_after there.told no_places) number at there.alike placed;
          bad = bad;
        },
      ))

  -- a part of a term page
  part_there : (page i at : ℕ) → i < length (term_parts (term_page page (store_contents store).terms))
      → slice_get (offsets_of (Term page) (store_offsets store)) i ≡ Some at
      → (index.IsPayload (is_base_at (term_page page (store_contents store).terms) i) (term_part page i (store_contents store).terms) → ⊥)
      → IsMetIn image (extent_number (store_area store)) at
  part_there page i at within placed spoiled =
      let terms : List TermPage = (store_contents store).terms in
      met_in at (inr (inr (
        page,
        i,
        record {
          payload = term_part page i terms;
          held = slice_get-get_or (term_parts (term_page page terms)) i [] within;
          there = part_at (store_offsets store) there.told page i at there.alike placed;
          bad = λ is. spoiled (payload_is (is_base_at (term_page page terms) i) (term_part page i terms) is);
        },
      )))

  -- what damage of the store tells
  met_there : (why : StoreFault) → TellsDamage store why → MeetsBy why image
  met_there fault.Disk tells = tt
  met_there (fault.Damaged extent at) (inl text) =
      let held = held_none (finite.get (store_contents store).documents text.number) text.none in
      subst (λ n. IsMetIn image n at) (sym text.placed.0)
      (text_there text.number at held.0 held.1 text.placed.1 (λ is. held.2 is.tree (stored_text held.0.text is)))
  met_there (fault.Damaged extent at) (inr part) =
      subst (λ n. IsMetIn image n at) (sym part.placed.0)
      (part_there part.page part.i at part.there part.placed.1 part.spoiled)
  met_there (fault.Newer version) tells = absurd tells
  met_there fault.Memory tells = tt

module _ {C : Type 0} (pages : C → CachedPages) (store : Store C) (history : History) (agrees : Agrees pages store history)
    (may : MayLeave history.unsynced history.reads) where
  -- a document that is held, whose text is none of a document
  pub text_met : (number at : ℕ) (document : Stored) → finite.get (store_contents store).documents number ≡ Some document
      → finite.get (store_offsets store).documents number ≡ Some at → (IsDocumentText newest document.text → ⊥)
      → IsMetIn history.reads (extent_number (store_area store)) at
  text_met = text_there store history.reads (stands pages store history agrees may)

  -- what a fault tells
  pub met_by : (why : StoreFault) → TellsDamage store why → MeetsBy why history.reads
  met_by = met_there store history.reads (stands pages store history agrees may)

-- ---- behind a call

-- lists that are as they were hold it still
still_met : (why : StoreFault) (before after : History) → IdlesUnlessDisk why before after → MeetsBy why before.reads
    → MeetsBy why after.reads
still_met fault.Disk before after idles meets = tt
still_met (fault.Damaged extent at) before after idles meets = subst (λ image. IsMetIn image extent at) (sym idles.reads) meets
still_met (fault.Newer version) before after idles meets = absurd meets
still_met fault.Memory before after idles meets = tt

idle_unless : (why : StoreFault) (before after : History) → Idles before after → IdlesUnlessDisk why before after
idle_unless fault.Disk before after idles = tt
idle_unless (fault.Damaged extent at) before after idles = idles
idle_unless (fault.Newer version) before after idles = idles
idle_unless fault.Memory before after idles = idles

module _ {C : Type 0} (pages : C → CachedPages) (honest : Bool) (old new : Store C) (before after : History) (earlier later : ℕ)
    (h : IsTrue honest) (agrees : Agrees pages old before) (may : MayLeave before.unsynced before.reads) where
  -- a write
  pub write_met : (result : Result (Unit {0}) WriteFault) → WriteLeaves pages honest result old new before after earlier later
      → IfErr (of_store result) (λ why. MeetsBy why after.reads)
  write_met (Ok done) leaves = tt
  write_met (Err write_fault.Conflict) leaves = tt
  write_met (Err write_fault.Absent) leaves = tt
  write_met (Err write_fault.Full) leaves = tt
  write_met (Err (write_fault.Store why)) leaves =
      still_met why before after (leaves.idle h) (met_by pages old before agrees may why (leaves.told h))

  -- a call that looks something up
  pub look_met : {T : Type 0} (result : Result T StoreFault) → Looks pages honest result old new before after earlier later
      → IfErr result (λ why. MeetsBy why after.reads)
  look_met (Ok value) looks = tt
  look_met (Err why) looks =
      still_met why before after (idle_unless why before after (looks.reads.lists h)) (met_by pages old before agrees may why (looks.told h))

-- neither tells of damage
pub brief_met : (why : StoreFault) (image : Image) → (why ≡ fault.Disk) ⊎ (why ≡ fault.Memory) → MeetsBy why image
brief_met why image (inl disk) = subst (λ fault. MeetsBy fault image) (sym disk) tt
brief_met why image (inr memory) = subst (λ fault. MeetsBy fault image) (sym memory) tt
