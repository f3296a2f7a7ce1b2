-- Opening finds something of every image.
use Rattle.std.proofs.Common.{◌≢◌, ◌⊎◌, inl, inr, ⊎_elim, ℕ, ◌<◌, ◌≤◌, arith, List, [], refl}
use Rattle.std.proofs.lemmas.Bool.{cases_lt}
use Rattle.ax_disk.specs.declared.extent.Extent.{Extent}
use Rattle.ax_disk.specs.declared.extent.Extent.TheVariants.{Root, A, B}
use Rattle.ax_disk.specs.model.Image.{Image, list_of}
use Rattle.ax_pages.specs.Area.{IsArea, IsBroken}
use Rattle.ax_area.specs.declared.root.Counting.{Counting}
use Rattle.ax_area.specs.declared.root.RootChoice.{RootChoice}
use Rattle.ax_area.specs.declared.root.RootChoice.TheVariants.{Fresh, Counts, Damaged}
use Rattle.ax_area.specs.Root.{IsRoot, slot_offset}
use Rattle.ax_area.specs.Contents.{Contents, no_contents}
use Rattle.ax_area.specs.Told.{Told, AreSpoiled}
use Rattle.ax_area.specs.Image.{IsLive, Says, IsNewer, IsBrokenArea, IsBrokenImage, IsSpoiledArea, HasFrames}
use Rattle.ax_area.specs.Image.{IsDamaged}
use Rattle.ax_area.specs.Root.{last_generation, IsKnown}
use Rattle.ax_area.proofs.OneRoot.{counts_named}
use Rattle.ax_area.proofs.EveryRoot.{every_root}
use Rattle.ax_area.proofs.EveryArea.{every_area}
use Rattle.ax_area.proofs.EveryFrame.{TellsOn, every_frames}

module _ (newest : ℕ) (image : Image) where
  abbrev Outcome : Type 0
  Outcome = ((version : ℕ) × (told : List Told) × (contents : Contents)
      × Says newest version told contents image)
      ⊎ (((version : ℕ) × IsNewer newest version image)
      ⊎ ((extent : Extent) × (at : ℕ) × IsDamaged newest image extent at))

  in_area : (area : Extent) (at : ℕ) → area ≢ Root → IsBrokenArea newest area at image
      ⊎ IsSpoiledArea newest area at image → IsDamaged newest image area at
  in_area Root at named is = absurd (named refl)
  in_area A at named is = is
  in_area B at named is = is

  module _ (slot : Counting) (counts : IsRoot image.root (Counts slot)) where
    damaged_at : (at : ℕ) → IsBrokenArea newest slot.area at image
        ⊎ IsSpoiledArea newest slot.area at image → Outcome
    damaged_at at is =
        inr (inr (slot.area, at, in_area slot.area at (counts_named image.root slot counts).1 is))

    by_frames : (frames : List (List ℕ)) → IsLive newest slot frames image
        → TellsOn slot.version frames 0 no_contents
        ⊎ ((place : ℕ) × AreSpoiled slot.version frames 0 no_contents place) → Outcome
    by_frames frames live (inl tells) =
        inl (
          slot.version,
          tells.told,
          tells.after,
          inr
              (record {
                slot = slot;
                version_is = refl;
                frames = frames;
                live = live;
                tell = tells.tell;
                lead = tells.lead;
              }),
        )
    by_frames frames live (inr (place, spoiled)) =
        damaged_at place (inr (record {
          slot = slot;
          area_is = refl;
          frames = frames;
          live = live;
          spoiled = spoiled;
        }))

    by_area : IsKnown newest slot → ((frames : List (List ℕ))
        × IsArea (list_of slot.area image) frames)
        ⊎ ((at : ℕ) × IsBroken (list_of slot.area image) at) → Outcome
    by_area known (inl (frames, has)) =
        by_frames frames (record { counts = counts; known = known; has = has })
        (every_frames slot.version frames 0 no_contents)
    by_area known (inr (at, broken)) =
        damaged_at at (inl (record {
          slot = slot;
          area_is = refl;
          counts = counts;
          known = known;
          broken = broken;
        }))

    known_here : IsKnown newest slot → Outcome
    known_here known = by_area known (every_area (list_of slot.area image))

    worn_here : slot.version < newest → last_generation ≤ slot.generation → Outcome
    worn_here older last =
        inr (inr (
          Root,
          slot_offset slot.which,
          inr
              (record { slot = slot; at_is = refl; counts = counts; older = older; last = last }),
        ))

    newer_here : newest < slot.version → Outcome
    newer_here later =
        inr (inl (
          slot.version,
          record {
            slot = slot;
            version_is = refl;
            counts = counts;
            later = later;
          },
        ))

    older_here : slot.version < newest → Outcome
    older_here older = ⊎_elim
        (λ (low : slot.generation < last_generation). known_here
        (record { known = omega (arith, older); rises = λ _. low }))
        (λ (last : last_generation ≤ slot.generation). worn_here older last)
        (cases_lt slot.generation last_generation)

    by_slot : Outcome
    by_slot = ⊎_elim
        (λ (older : slot.version < newest). older_here older)
        (λ (not_older : newest ≤ slot.version). ⊎_elim
        (λ (later : newest < slot.version). newer_here later)
        (λ (same : slot.version ≤ newest). known_here
        (record { known = same; rises = λ older. omega (arith, older, not_older) }))
        (cases_lt newest slot.version))
        (cases_lt slot.version newest)

  by_root : (says : RootChoice) → IsRoot image.root says → Outcome
  by_root Fresh is =
      inl (
        newest,
        [],
        no_contents,
        inl (record {
          fresh = is;
          version_is = refl;
          told_is = refl;
          contents_is = refl;
        }),
      )
  by_root (Counts slot) is = by_slot slot is
  by_root (Damaged at) is = inr (inr (Root, at, inl is))

  pub every_image : Outcome
  every_image = by_root (every_root image.root).0 (every_root image.root).1

  -- ---- of its frames

  -- it has frames, is broken, or is of a later version
  abbrev OfFrames : Type 0
  OfFrames = ((frames : List (List ℕ)) × HasFrames newest frames image)
      ⊎ (((extent : Extent) × (at : ℕ) × IsBrokenImage newest image extent at)
      ⊎ ((version : ℕ) × IsNewer newest version image))

  of_spoiled : (area : Extent) (at : ℕ) → IsSpoiledArea newest area at image → OfFrames
  of_spoiled area at spoiled = inl (spoiled.frames, inr (spoiled.slot, spoiled.live))

  of_damaged : (extent : Extent) (at : ℕ) → IsDamaged newest image extent at → OfFrames
  of_damaged Root at damaged = inr (inl (Root, at, damaged))
  of_damaged A at (inl broken) = inr (inl (A, at, broken))
  of_damaged A at (inr spoiled) = of_spoiled A at spoiled
  of_damaged B at (inl broken) = inr (inl (B, at, broken))
  of_damaged B at (inr spoiled) = of_spoiled B at spoiled

  of_outcome : Outcome → OfFrames
  of_outcome (inl (version, told, contents, inl fresh)) = inl ([], inl (fresh.fresh, refl))
  of_outcome (inl (version, told, contents, inr live)) = inl (live.frames, inr (live.slot, live.live))
  of_outcome (inr (inl newer)) = inr (inr newer)
  of_outcome (inr (inr (extent, at, damaged))) = of_damaged extent at damaged

  pub every_image_of_frames : OfFrames
  every_image_of_frames = of_outcome every_image
