-- What holds of open documents: what a crash leaves of them, and that calls which read leave them as they were.
use Rattle.std.proofs.Common.{◌⊎◌, inl, inr, ℕ, List, Bool, sym, subst}
use Rattle.std.specs.Prelude.{IsTrue}
use Rattle.ax_area.specs.Image.{Says}
use Rattle.ax_area.specs.Told.{Told}
use Rattle.ax_area.specs.Contents.{Contents}
use Rattle.ax_cache.specs.Pages.{CachedPages}
use Rattle.ax_container.specs.Container.{Container}
use Rattle.ax_disk.specs.model.Calls.{Idles}
use Rattle.ax_disk.specs.model.Image.{Image}
use Rattle.ax_disk.specs.model.Moments.{History}
use Rattle.ax_disk.specs.model.Stays.{Rests, Stays, Turns}
use Rattle.ax_disk.specs.laws.StaysLaws.{idles_stay, rests_weaken, stays_turn}
use Rattle.ax_image.specs.Readable.{SaysReadable, newest}
use Rattle.ax_image_pairs.specs.Indexed.{ContentsHoldAll, HasAll}
use Rattle.ax_image_pairs.proofs.Standing.{stands_with_index}
use Rattle.ax_store.proofs.StoreLemmas.{agrees_says}
use Rattle.ax_store.specs.Kept.{Kept}
use Rattle.ax_store.specs.Store.{SameButReads, store_contents}
use Rattle.ax_store.specs.declared.store.Store.{Store}
use Rattle.ax_documents.specs.Documents.{DocumentsHold, DocumentsWork}
use Rattle.ax_documents.specs.Opening.{IsImageOf}
use Rattle.ax_documents.specs.declared.documents.Documents.{Documents}
use Rattle.ax_engine.specs.StoreSays.{kept_says}

-- an image that says contents which hold the container has it with its index
has_by : (version : ℕ) (told : List Told) (contents : Contents) (container : Container) → ContentsHoldAll contents container
    → (image : Image) → Says newest version told contents image → HasAll container image
has_by version told contents container hold image says =
    record { version = version; told = told; contents = contents; says = says; hold = hold }

module _ {C : Type 0} (pages : C → CachedPages) (honest : Bool) (documents : Documents C) (old : History) (before : Container)
    (works : DocumentsWork pages honest documents old) (holds : DocumentsHold documents before) where
  -- what a crash now leaves has the container
  pub rests_of : IsTrue honest → Rests old (HasAll before)
  rests_of h =
      let of = agrees_says pages documents.store old (works.agrees h) in
      rests_weaken old (Says newest of.version of.told (store_contents documents.store)) (HasAll before)
      (has_by of.version of.told (store_contents documents.store) before holds.contents) of.says

  -- no list has changed
  pub idled : (new : History) → Idles old new → IsTrue honest → Turns old new (HasAll before) (HasAll before)
  idled new idles h =
      stays_turn old new (HasAll before) (HasAll before) (idles_stay old new (HasAll before) (rests_of h) idles)

-- calls came that read
pub holds_read : {C : Type 0} (documents : Documents C) (store : Store C) (before : Container) → SameButReads documents.store store
    → DocumentsHold documents before → DocumentsHold (record documents { store = store }) before
holds_read documents store before same holds = record {
  contents = subst (λ (kept : Kept). ContentsHoldAll (kept_says kept) before) (sym same.pages) holds.contents;
  recent = holds.recent;
}

-- ---- images

-- an image of the container is one that has it with its index, all of which can be read
pub image_of : (container : Container) (image : Image) → HasAll container image → SaysReadable image → IsImageOf container image
image_of container image has readable = stands_with_index image container has readable

pub images_rest : (history : History) (container : Container) → Rests history (HasAll container)
    → Rests history SaysReadable → Rests history (IsImageOf container)
images_rest history container has readable =
    record { each = λ image may. image_of container image (has.each image may) (readable.each image may) }

either_image : (before after : Container) (image : Image) → HasAll before image ⊎ HasAll after image
    → SaysReadable image → IsImageOf before image ⊎ IsImageOf after image
either_image before after image (inl has) readable = inl (image_of before image has readable)
either_image before after image (inr has) readable = inr (image_of after image has readable)

pub images_turn : (old new : History) (before after : Container) → Turns old new (HasAll before) (HasAll after)
    → Stays old new SaysReadable → Turns old new (IsImageOf before) (IsImageOf after)
images_turn old new before after turns stays = record {
  time = record {
    later = turns.time.later;
    past = turns.time.past;
    during = λ t image since to left.
        either_image before after image (turns.time.during t image since to left)
        (stays.time.during t image since to left);
  };
  rests = record {
    each = λ image may. either_image before after image (turns.rests.each image may) (stays.rests.each image may);
  };
}
