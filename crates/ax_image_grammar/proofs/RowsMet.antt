-- What is met in the images that were worked out by hand, and what is not.
use Rattle.std.proofs.Common.{◌≡◌, ℕ, zero, suc, inl, inr, ⊎_elim, arith, List, [], ◌∷◌, get_or}
use Rattle.std.proofs.Common.{slice_get, Option, refl, sym, ap, subst, ◌∙◌}
use Rattle.std.specs.Prelude.{Some, None}
use Rattle.std.specs.Ordering.{nat_cmp}
use Rattle.std.specs.FinMap as map
use Rattle.std.proofs.lemmas.Bool.{cases_eq}
use Rattle.ax_disk.specs.declared.extent.Extent.{Extent}
use Rattle.ax_disk.specs.declared.extent.Extent.TheVariants.{A}
use Rattle.ax_pages.proofs.LastPart.{get_inserted, get_not_inserted, get_removed, get_not_removed}
use Rattle.ax_area.specs.Changes.{Policy, Base, Delta}
use Rattle.ax_area.specs.Contents.{Contents, no_contents, with_change}
use Rattle.ax_area.specs.Places.{Place, no_places, places_after}
use Rattle.ax_area.proofs.OneOutcome.{one_told, one_contents}
use Rattle.ax_area.proofs.OneTelling.{same_some, some_or_none}
use Rattle.ax_image_grammar.specs.Met.{BeginAt, IsTakenMet, HasPart, IsMetAt}
use Rattle.ax_image_grammar.specs.Met.{IsTakenMetAt}
use Rattle.ax_image_grammar.specs.Rows.{junk, text_row, text_told, policy_row, policy_told}
use Rattle.ax_image_grammar.specs.Rows.{delta_row, delta_told, superseded_row, superseded_told}
use Rattle.ax_image_grammar.specs.Table.{IsTaken}
use Rattle.ax_image_grammar.proofs.Junk.{no_policy, no_delta}
use Rattle.ax_image_grammar.proofs.MetThere.{met_has_part}
use Rattle.ax_image_grammar.proofs.RowsSay.{text_contents, text_live, policy_live, policy_area}
use Rattle.ax_image_grammar.proofs.RowsSay.{delta_live, delta_area, superseded_live}

none_begins : (places : Option (List Place)) (at : ℕ) → places ≡ None → BeginAt places at → ⊥
none_begins places at none begin =
    some_or_none (begin.front ∷ begin.pieces) (sym none ∙ begin.stand)

-- ---- a policy that no document is indexed by

place_of_policy : Place
place_of_policy = record { at = 9; kind = 2; len = 1 }

pub policy_met : IsMetAt 1 A 9 policy_row
unfolding place_of_policy
policy_met = record {
  version = 1;
  told = policy_told;
  contents = with_change (Policy 1 junk) no_contents;
  live = policy_live;
  area_is = policy_area;
  met = inr (inl (
    1,
    record {
      text = junk;
      held = get_inserted map.empty 1 junk;
      begin = record {
        front = place_of_policy;
        pieces = [];
        stand = get_inserted map.empty 1 (place_of_policy ∷ []);
        place = refl;
      };
      bad = no_policy;
    },
  ));
}

abbrev one_policy : map.FinMap nat_cmp (List ℕ)
one_policy = map.insert map.empty 1 junk

policy_not_needed : (number : ℕ) → IsTaken number (with_change (Policy 1 junk) no_contents)
    → (text : List ℕ) → map.get one_policy number ≡ Some text → ⊥
policy_not_needed number (inl now) text held =
    let apart : number ≡ 1 → ⊥ = λ e. omega (arith, e, now) in
    some_or_none text (sym (get_not_inserted map.empty 1 number junk apart
    ∙ map.get-empty nat_cmp number) ∙ held)
policy_not_needed number (inr used) text held =
    some_or_none used.document (sym (map.get-empty nat_cmp used.number) ∙ used.held)

pub policy_not_taken : (area : Extent) (at : ℕ) → IsTakenMetAt 1 area at policy_row → ⊥
policy_not_taken area at taken =
    let contents : Contents = with_change (Policy 1 junk) no_contents in
    let same : taken.contents ≡ contents = one_contents 1 policy_row taken.version 1 taken.told
    policy_told taken.contents contents (inr taken.live) (inr policy_live) in
    let met : IsTakenMet taken.number taken.told contents at =
    subst (λ c. IsTakenMet taken.number taken.told c at) same taken.met in
    policy_not_needed taken.number met.taken met.met.text met.met.held

-- ---- a delta of no term

pub delta_met : IsMetAt 1 A 9 delta_row
delta_met = record {
  version = 1;
  told = delta_told;
  contents = with_change (Delta 0 (0 ∷ [])) no_contents;
  live = delta_live;
  area_is = delta_area;
  met = inr (inr (
    0,
    0,
    record {
      payload = 0 ∷ [];
      held = refl;
      there = record {
        place = record { at = 9; kind = 6; len = 1 };
        stands = refl;
        place_is = refl;
      };
      bad = no_delta;
    },
  ));
}

-- ---- what was superseded

no_page : (page position : ℕ) (place : Place)
    → slice_get (get_or ([] ∷ []) page []) position ≡ Some place → ⊥
no_page zero position place e = some_or_none place e
no_page (suc page) position place e = some_or_none place e

document_gone : (number : ℕ) → map.get (places_after text_told no_places).documents number ≡ None
document_gone number =
    ⊎_elim
    (λ (same : number ≡ 1).
    subst (λ n. map.get (places_after text_told no_places).documents n ≡ None) (sym same)
    (get_removed _ 1))
    (λ (apart : number ≡ 1 → ⊥).
    get_not_removed _ 1 number apart ∙ get_not_inserted map.empty 1 number _ apart
    ∙ map.get-empty nat_cmp number)
    (cases_eq number 1)

text_has_no_part : (at : ℕ) → HasPart text_told at → ⊥
text_has_no_part at (inl (number, begin)) =
    none_begins (map.get (places_after text_told no_places).documents number) at
    (document_gone number) begin
text_has_no_part at (inr (inl (number, begin))) =
    none_begins (map.get (places_after text_told no_places).policies number) at
    (map.get-empty nat_cmp number) begin
text_has_no_part at (inr (inr (page, position, there))) =
    no_page page position there.place there.stands

pub text_not_met : (area : Extent) (at : ℕ) → IsMetAt 1 area at text_row → ⊥
text_not_met area at met =
    let part = met_has_part 1 area at text_row met in
    text_has_no_part at (subst (λ told. HasPart told at)
    (one_told 1 text_row part.version 1 part.told text_told part.contents text_contents
    (inr part.live) (inr text_live)) part.has)

at_base : (page position : ℕ) (place : Place)
    → slice_get (get_or (places_after superseded_told no_places).terms page []) position ≡ Some place
    → place.at ≡ 9 → ⊥
at_base zero zero place e at =
    let base : Place = record { at = 19; kind = 5; len = 3 } in
    omega (arith, at, ap (λ (p : Place). p.at) (same_some base place e))
at_base zero (suc position) place e at = some_or_none place e
at_base (suc page) position place e at = some_or_none place e

delta_has_no_part : HasPart superseded_told 9 → ⊥
delta_has_no_part (inl (number, begin)) =
    none_begins (map.get (places_after superseded_told no_places).documents number) 9
    (map.get-empty nat_cmp number) begin
delta_has_no_part (inr (inl (number, begin))) =
    none_begins (map.get (places_after superseded_told no_places).policies number) 9
    (map.get-empty nat_cmp number) begin
delta_has_no_part (inr (inr (page, position, there))) =
    at_base page position there.place there.stands there.place_is

pub superseded_not_met : (area : Extent) → IsMetAt 1 area 9 superseded_row → ⊥
superseded_not_met area met =
    let part = met_has_part 1 area 9 superseded_row met in
    delta_has_no_part (subst (λ told. HasPart told 9)
    (one_told 1 superseded_row part.version 1 part.told superseded_told part.contents
    (with_change (Base 0 (0 ∷ 0 ∷ 0 ∷ [])) (with_change (Delta 0 (0 ∷ [])) no_contents))
    (inr part.live) (inr superseded_live)) part.has)
