-- Frames tell changes that lead on, or are spoiled at a place.
use Rattle.std.proofs.Common.{◌≡◌, ◌⊎◌, inl, inr, ⊎_elim, ℕ, zero, suc, ◌+◌, ◌≤◌, arith, List, []}
use Rattle.std.proofs.Common.{◌∷◌, ◌++◌, Option, length, refl, sym, ap, ◌∙◌, length-append}
use Rattle.std.specs.Prelude.{◌≢◌, Some, None, option_and_then}
use Rattle.std.proofs.lemmas.List.{append_assoc}
use Rattle.ax_area.specs.Items.{Item, item_bytes}
use Rattle.ax_area.specs.ItemTexts.{BeginsWithItem}
use Rattle.ax_area.specs.Changes.{Change, change_of}
use Rattle.ax_area.specs.Contents.{Contents, after_change, after_changes}
use Rattle.ax_area.specs.Told.{Told, changes_of, told_bytes, Begins, TellOn, Lead, IsRefused}
use Rattle.ax_area.specs.Told.{IsSpoiled, AreSpoiled}
use Rattle.ax_area.proofs.OneItem.{one_item}
use Rattle.ax_area.proofs.OneMore.{lead_on}
use Rattle.ax_area.proofs.EveryItem.{item_or_none}

module _ (version : ℕ) where
  -- what the bytes tell, and where that leads
  record Tells (bytes : List ℕ) (at : ℕ) (before : Contents) : Type 0 where
    told : List Told
    after : Contents
    begins : Begins version bytes at told []
    lead : Lead told before after

  abbrev Outcome : List ℕ → ℕ → Contents → Type 0
  Outcome bytes at before =
      Tells bytes at before ⊎ ((place : ℕ) × IsSpoiled version bytes at before place)

  nothing : (at : ℕ) (before : Contents) → Outcome [] at before
  nothing at before =
      inl (record {
        told = [];
        after = before;
        begins = record { are = tt; spelled = refl };
        lead = refl;
      })

  spoiled_here : (bytes : List ℕ) (at : ℕ) (before : Contents) → bytes ≢ []
      → IsRefused version bytes before → Outcome bytes at before
  spoiled_here bytes at before some refused = inr (
    at + 0,
    record {
      told = [];
      rest = bytes;
      begins = record { are = tt; spelled = refl };
      reached = before;
      lead = refl;
      some = some;
      refused = refused;
      place_is = refl;
    },
  )

  one_more : (bytes rest : List ℕ) (at : ℕ) (before between : Contents) (item : Item)
      (change : Change) → BeginsWithItem bytes item rest → change_of version item ≡ Some change
      → after_change change before ≡ Some between
      → Outcome rest (at + length (item_bytes item)) between → Outcome bytes at before
  one_more bytes rest at before between item change is says step (inl tells) =
      let one : Told = record { at = at; item = item; change = change } in
      inl (record {
        told = one ∷ tells.told;
        after = tells.after;
        begins = record {
          are = (record { at_is = refl; item = is.is; says = says }, tells.begins.are);
          spelled = is.spelled ∙ ap (λ more. item_bytes item ++ more) tells.begins.spelled
              ∙ sym (append_assoc (item_bytes item) (told_bytes tells.told) []);
        };
        lead = ap (option_and_then (after_changes (changes_of tells.told))) step ∙ tells.lead;
      })
  one_more bytes rest at before between item change is says step (inr (place, spoiled)) =
      let one : Told = record { at = at; item = item; change = change } in
      inr (
        place,
        record {
          told = one ∷ spoiled.told;
          rest = spoiled.rest;
          begins = record {
            are = (record { at_is = refl; item = is.is; says = says }, spoiled.begins.are);
            spelled = is.spelled ∙ ap (λ more. item_bytes item ++ more) spoiled.begins.spelled
                ∙ sym (append_assoc (item_bytes item) (told_bytes spoiled.told) spoiled.rest);
          };
          reached = spoiled.reached;
          lead = ap (option_and_then (after_changes (changes_of spoiled.told))) step ∙ spoiled.lead;
          some = spoiled.some;
          refused = spoiled.refused;
          place_is = omega (
            arith,
            spoiled.place_is,
            length-append (item_bytes item)
                (told_bytes spoiled.told),
          );
        },
      )

  -- an item that is refused stands first
  refused_by : (bytes rest : List ℕ) (before : Contents) (item : Item)
      → BeginsWithItem bytes item rest
      → option_and_then (λ change. after_change change before) (change_of version item) ≡ None
      → IsRefused version bytes before
  refused_by bytes rest before item is none other follows is_other spelled =
      let same = one_item item other rest follows is.is is_other (sym is.spelled ∙ spelled) in
      ap (λ i. option_and_then (λ change. after_change change before) (change_of version i))
      (sym same.0) ∙ none

  by_item : (bytes rest : List ℕ) (at : ℕ) (before : Contents) (item : Item) → bytes ≢ []
      → BeginsWithItem bytes item rest
      → ((between : Contents) → Outcome rest (at + length (item_bytes item)) between)
      → Outcome bytes at before
  by_item bytes rest at before item some is more = by_change (change_of version item) refl
    where
      by_step : (change : Change) → change_of version item ≡ Some change → (step : Option Contents)
          → after_change change before ≡ step → Outcome bytes at before
      by_step change says None e =
          spoiled_here bytes at before some (refused_by bytes rest before item is
          (ap (option_and_then (λ c. after_change c before)) says ∙ e))
      by_step change says (Some between) e =
          one_more bytes rest at before between item change is says e (more between)

      by_change : (change : Option Change) → change_of version item ≡ change
          → Outcome bytes at before
      by_change None e =
          spoiled_here bytes at before some (refused_by bytes rest before item is
          (ap (option_and_then (λ c. after_change c before)) e))
      by_change (Some change) e = by_step change e (after_change change before) refl

  within : (most : ℕ) (bytes : List ℕ) (at : ℕ) (before : Contents) → length bytes ≤ most
      → Outcome bytes at before
  within zero [] at before le = nothing at before
  within zero (b ∷ bytes) at before le = absurd (omega arith)
  within (suc most) [] at before le = nothing at before
  within (suc most) (b ∷ more) at before le =
      let bytes : List ℕ = b ∷ more in
      let some : bytes ≢ [] = λ e. cc e in
      ⊎_elim
      (λ (first : (item : Item) × (rest : List ℕ) × BeginsWithItem bytes item rest).
      by_item bytes first.1 at before first.0 some first.2
      (λ between. within most first.1 (at + length (item_bytes first.0)) between
      (omega (arith, ap length first.2.spelled, length-append (item_bytes first.0) first.1))))
      (λ (none : (item : Item) (rest : List ℕ) → BeginsWithItem bytes item rest → ⊥).
      spoiled_here bytes at before some (λ item follows is spelled. absurd
      (none item follows (record { is = is; spelled = spelled }))))
      (item_or_none bytes)

  -- ---- frames one after another

  pub record TellsOn (frames : List (List ℕ)) (at : ℕ) (before : Contents) : Type 0 where
    pub told : List Told
    pub after : Contents
    pub tell : TellOn version frames at told
    pub lead : Lead told before after

  pub every_frames : (frames : List (List ℕ)) (at : ℕ) (before : Contents)
      → TellsOn frames at before ⊎ ((place : ℕ) × AreSpoiled version frames at before place)
  every_frames [] at before = inl (record { told = []; after = before; tell = refl; lead = refl })
  every_frames (frame ∷ frames) at before =
      by_first (λ between. every_frames frames (at + 9 + length frame) between)
      (within (length frame) frame (at + 9) before (omega arith))
    where
      by_others : (first : Tells frame (at + 9) before)
          → TellsOn frames (at + 9 + length frame) (first.after)
          ⊎ ((place : ℕ) × AreSpoiled version frames (at + 9 + length frame)
          (first.after) place)
          → TellsOn (frame ∷ frames) at before
          ⊎ ((place : ℕ) × AreSpoiled version (frame ∷ frames) at before place)
      by_others first (inl others) = inl (record {
        told = first.told ++ others.told;
        after = others.after;
        tell = (first.told, others.told, refl, first.begins, others.tell);
        lead = lead_on first.told others.told before first.after others.after first.lead
            others.lead;
      })
      by_others first (inr (place, spoiled)) =
          inr (place, inr (first.told, first.after, first.begins, first.lead, spoiled))

      by_first : ((between : Contents) → TellsOn frames (at + 9 + length frame) between
          ⊎ ((place : ℕ) × AreSpoiled version frames (at + 9 + length frame) between place))
          → Outcome frame (at + 9) before → TellsOn (frame ∷ frames) at before
          ⊎ ((place : ℕ) × AreSpoiled version (frame ∷ frames) at before place)
      by_first more (inl first) = by_others first (more first.after)
      by_first more (inr (place, spoiled)) = inr (place, inl spoiled)
