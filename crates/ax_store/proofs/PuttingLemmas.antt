-- Parts are put one after another.
use Rattle.std.proofs.Common.{◌≡◌, ℕ, ◌+◌, ◌≤◌, List, ◌∷◌, length, Some, refl, sym, ap, subst, ◌∙◌, length-append, arith}
use Rattle.std.specs.Prelude.{option_and_then}
use Rattle.ax_frame.specs.Part.{PartValue, part_bytes, parts_bytes}
use Rattle.ax_pages.specs.AfterPart.{after_part, after_parts, kind_of}
use Rattle.ax_pages.proofs.OneContents.{StepsBy, first_step, same_some}
use Rattle.ax_store.specs.Kept.{Kept, offsets_after, offsets_after_parts, deltas_by_kind, deltas_of, room_of}
use Rattle.ax_store.specs.Putting.{AreWithin, IsWithin, CanTake, IsPutTo}

pub none_put : (parts rest : List PartValue) (at : ℕ) (old : Kept) → AreWithin parts old.contents → length parts ≤ old.spare
    → CanTake parts old → rest ≡ parts → IsPutTo parts at old old rest at
none_put parts rest at old within room deltas same =
    subst (λ ps. IsPutTo parts at old old ps at) (sym same) (record { within = within; lead = refl; offsets = refl; room = room; deltas = deltas; len = refl })

module _ (parts : List PartValue) (at : ℕ) (old now : Kept) (rest : List PartValue) (here : ℕ) (put : IsPutTo parts at old now rest here)
    (part : PartValue) (others : List PartValue) (is : rest ≡ part ∷ others) where
  step : StepsBy part others now.contents put.within.0
  step = first_step part others now.contents put.within.0 (ap (λ ps. after_parts ps now.contents) (sym is) ∙ put.within.1)

  pub first_within : IsWithin part now.contents
  first_within = (step.between, step.first)

  pub room_left : 1 ≤ now.spare
  room_left = omega (arith, put.room, ap length is)

  -- so many deltas of a page are left, the first part counted apart
  deltas_left : (page : ℕ) → deltas_by_kind (kind_of part.kind) part.key page + deltas_of page others ≤ room_of page now
  deltas_left page = subst (λ ps. deltas_of page ps ≤ room_of page now) is (put.deltas page)

  pub delta_left : deltas_by_kind (kind_of part.kind) part.key part.key ≤ room_of part.key now
  delta_left = omega (arith, deltas_left part.key)

  pub one_put : (next : Kept) (there : ℕ) → after_part part now.contents ≡ Some next.contents
      → next.offsets ≡ offsets_after (kind_of part.kind) part.key here now.offsets → now.spare ≤ next.spare + 1
      → ((page : ℕ) → room_of page now ≤ room_of page next + deltas_by_kind (kind_of part.kind) part.key page) → there ≡ here + length (part_bytes part)
      → IsPutTo parts at old next others there
  one_put next there lead offsets room rooms place =
      let same : step.between ≡ next.contents = same_some _ _ (sym step.first ∙ lead) in record {
        within = (put.within.0, ap (after_parts others) (sym same) ∙ step.others);
        lead = sym (ap (option_and_then (after_parts others)) lead) ∙ ap (λ ps. after_parts ps now.contents) (sym is) ∙ put.lead;
        offsets = ap (λ n. offsets_after_parts others n next.offsets) place ∙ ap (offsets_after_parts others (here + length (part_bytes part))) offsets
            ∙ ap (λ ps. offsets_after_parts ps here now.offsets) (sym is) ∙ put.offsets;
        room = omega (arith, room, put.room, ap length is);
        deltas = λ page. omega (arith, deltas_left page, rooms page);
        len = omega (arith, place, put.len, ap (λ ps. length (parts_bytes ps)) is, length-append (part_bytes part) (parts_bytes others));
      }
