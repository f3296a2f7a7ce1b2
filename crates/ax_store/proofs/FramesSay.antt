-- What an image says is told by its log frames: images with the same frames say the same, and frames that are taken
-- into pages say the contents of these.
use Rattle.std.proofs.Common.{◌≡◌, inl, inr, ℕ, List, [], Some, refl, sym, ap, subst, ◌∙◌}
use Rattle.ax_disk.specs.model.Image.{Image}
use Rattle.ax_area.specs.Contents.{Contents, no_contents}
use Rattle.ax_area.specs.Image.{HasFrames, Says}
use Rattle.ax_area.specs.Told.{Told, TellOn, Lead}
use Rattle.ax_area.proofs.OneImage.{one_frames}
use Rattle.ax_area.proofs.OneRoot.{first_version}
use Rattle.ax_area.proofs.OneTelling.{same_some}
use Rattle.ax_area_laws.proofs.Rising.{told_risen}
use Rattle.ax_area_laws.specs.Risen.{risen}
use Rattle.ax_pages.specs.declared.numbers.TheConstants.{NEWEST_VERSION}
use Rattle.ax_store.specs.Kept.{Kept}
use Rattle.ax_store.specs.Loading.{nothing_kept, TakesOn}
use Rattle.ax_store.specs.Store.{Has}
use Rattle.ax_store.proofs.LoadLemmas.{lead_on_of}

-- frames tell this, in the newest version, and that leads to the contents
pub record Tell (frames : List (List ℕ)) (version : ℕ) (told : List Told) (contents : Contents) : Type 0 where
  pub version_is : version ≡ NEWEST_VERSION
  pub tell : TellOn NEWEST_VERSION frames 0 told
  pub lead : Lead told no_contents contents

-- an image that says something has log frames
pub some_frames : (version : ℕ) (told : List Told) (contents : Contents) (image : Image)
    → Says NEWEST_VERSION version told contents image → (frames : List (List ℕ)) × HasFrames NEWEST_VERSION frames image
some_frames version told contents image (inl fresh) = ([], inl (fresh.fresh, refl))
some_frames version told contents image (inr live) = (live.frames, inr (live.slot, live.live))

module _ (frames : List (List ℕ)) (version : ℕ) (told : List Told) (contents : Contents) (image : Image)
    (has : HasFrames NEWEST_VERSION frames image) where
  -- and these tell it
  pub told_by : Says NEWEST_VERSION version told contents image → Tell frames version told contents
  told_by (inl fresh) =
      let none : frames ≡ [] = one_frames NEWEST_VERSION image frames [] has (inl (fresh.fresh, refl)) in
      record {
        version_is = fresh.version_is;
        tell = subst (λ list. TellOn NEWEST_VERSION list 0 told) (sym none) fresh.told_is;
        lead = subst (λ list. Lead list no_contents contents) (sym fresh.told_is) (ap Some (sym fresh.contents_is));
      }
  told_by (inr live) =
      let first : live.slot.version ≡ NEWEST_VERSION = first_version image.root live.slot live.live.counts live.live.known in
      let same : live.frames ≡ frames = one_frames NEWEST_VERSION image live.frames frames (inr (live.slot, live.live)) has in
      record {
        version_is = sym live.version_is ∙ first;
        tell = subst (λ list. TellOn NEWEST_VERSION list 0 told) same
            (subst (λ v. TellOn v live.frames 0 told) (sym live.version_is ∙ first) live.tell);
        lead = live.lead;
      }

-- what frames tell, an image that has them says
pub says_by : (frames : List (List ℕ)) (version : ℕ) (told : List Told) (contents : Contents)
    → Tell frames version told contents → (image : Image) → HasFrames NEWEST_VERSION frames image
    → Says NEWEST_VERSION version told contents image
says_by frames version told contents tells image (inl fresh) =
    let none : told ≡ [] = subst (λ list. TellOn NEWEST_VERSION list 0 told) fresh.1 tells.tell in
    inl (record {
      fresh = fresh.0;
      version_is = tells.version_is;
      told_is = none;
      contents_is = sym (same_some no_contents contents (subst (λ list. Lead list no_contents contents) none tells.lead));
    })
says_by frames version told contents tells image (inr (slot, live)) =
    let first : slot.version ≡ NEWEST_VERSION = first_version image.root slot live.counts live.known in
    inr (record {
      slot = slot;
      version_is = first ∙ sym tells.version_is;
      frames = frames;
      live = live;
      tell = subst (λ v. TellOn v frames 0 told) (sym tells.version_is) tells.tell;
      lead = tells.lead;
    })

-- ---- frames that were taken into pages

module _ (frames : List (List ℕ)) (kept : Kept) (takes : TakesOn frames 0 nothing_kept kept) where
  pub taken_tell : (told : List Told) × Tell frames NEWEST_VERSION told (risen kept.contents)
  taken_tell =
      let (told, tell, lead) = told_risen frames kept.contents (lead_on_of frames 0 nothing_kept kept takes) in
      (told, record { version_is = refl; tell = tell; lead = lead })

  pub taken_has : (image : Image) → HasFrames NEWEST_VERSION frames image → Has (risen kept.contents) image
  taken_has image has =
      let (told, tells) = taken_tell in
      (NEWEST_VERSION, told, says_by frames NEWEST_VERSION told (risen kept.contents) tells image has)
