-- Parts that lead on in the words of the log are told in the words of all versions, and so are
-- frames: what is told leads to contents that agree.
use Rattle.std.proofs.Common.{◌≡◌, ℕ, ◌+◌, List, [], ◌∷◌, ◌++◌, length, refl, sym, ap, subst}
use Rattle.std.proofs.Common.{◌∙◌}
use Rattle.std.specs.Prelude.{Some, option_and_then}
use Rattle.std.specs.Option.{option_map}
use Rattle.std.specs.Ordering.{nat_cmp}
use Rattle.std.specs.FinMap as finite
use Rattle.std.proofs.lemmas.List.{append-nil}
use Rattle.ax_frame.specs.Part.{PartValue, AllFit, part_bytes, parts_bytes}
use Rattle.ax_pages.specs.Contents as log
use Rattle.ax_pages.specs.AfterPart.{after_parts}
use Rattle.ax_pages.specs.Leads.{LeadOn}
use Rattle.ax_pages.proofs.OneContents.{same_some, first_step}
use Rattle.ax_pages.specs.declared.numbers.TheConstants.{NEWEST_VERSION}
use Rattle.ax_area.specs.Items.{item_bytes, single}
use Rattle.ax_area.specs.Contents.{Contents, no_contents, after_changes}
use Rattle.ax_area.specs.Told.{Told, changes_of, told_bytes, AreTold, Begins, TellOn, Lead}
use Rattle.ax_area.proofs.OneMore.{lead_on}
use Rattle.ax_area_laws.specs.Agree.{shown_by, Agree}
use Rattle.ax_area_laws.proofs.Stepping.{step}

-- ---- nothing

pub none_agree : Agree log.no_contents no_contents
none_agree = record {
  next_number = refl;
  next_version = refl;
  policy_now = refl;
  policies = refl;
  documents = λ number. finite.get-empty nat_cmp number
      ∙ sym (ap (option_map (shown_by number)) (finite.get-empty nat_cmp number));
  terms = refl;
  versioned = refl;
}

-- ---- parts one behind another

pub record Tells (list : List PartValue) (at : ℕ) (after : log.Contents) (new : Contents) : Type 0 where
  pub told : List Told
  pub are : AreTold NEWEST_VERSION at told
  pub spelled : parts_bytes list ≡ told_bytes told
  pub reached : Contents
  pub lead : Lead told new reached
  pub agree : Agree after reached

pub tells : (list : List PartValue) (at : ℕ) (old after : log.Contents) (new : Contents) → AllFit list
    → after_parts list old ≡ Some after → Agree old new → Tells list at after new
tells [] at old after new fit leads agree = record {
  told = [];
  are = tt;
  spelled = refl;
  reached = new;
  lead = refl;
  agree = subst (λ c. Agree c new) (same_some old after leads) agree;
}
tells (part ∷ list) at old after new fit leads agree =
    let by = first_step part list old after leads in
    let one = step part old new fit.0 agree by.between by.first in
    let first : Told = record { at = at; item = single part; change = one.change } in
    let others = tells list (at + length (item_bytes (single part))) by.between after one.reached
    fit.1 by.others one.agree in
    record {
      told = first ∷ others.told;
      are = (record { at_is = refl; item = one.item; says = one.says }, others.are);
      spelled = λ i. sym (append-nil (part_bytes part)) i ++ others.spelled i;
      reached = others.reached;
      lead = ap (option_and_then (after_changes (changes_of others.told))) one.leads ∙ others.lead;
      agree = others.agree;
    }

-- ---- frames one behind another

pub record TellsOn (frames : List (List ℕ)) (at : ℕ) (after : log.Contents)
    (new : Contents) : Type 0 where
  pub told : List Told
  pub tell : TellOn NEWEST_VERSION frames at told
  pub reached : Contents
  pub lead : Lead told new reached
  pub agree : Agree after reached

pub tells_on : (frames : List (List ℕ)) (at : ℕ) (old after : log.Contents) (new : Contents)
    → LeadOn frames old after → Agree old new → TellsOn frames at after new
tells_on [] at old after new leads agree = record {
  told = [];
  tell = refl;
  reached = new;
  lead = refl;
  agree = subst (λ c. Agree c new) leads agree;
}
tells_on (frame ∷ frames) at old after new (between, leads, more) agree =
    let one = tells leads.parts (at + 9) old between new leads.fit leads.lead agree in
    let begins : Begins NEWEST_VERSION frame (at + 9) one.told [] = record {
      are = one.are;
      spelled = leads.spelled ∙ one.spelled ∙ sym (append-nil (told_bytes one.told));
    } in
    let others = tells_on frames (at + 9 + length frame) between after one.reached more one.agree in
    record {
      told = one.told ++ others.told;
      tell = (one.told, others.told, refl, begins, others.tell);
      reached = others.reached;
      lead = lead_on one.told others.told new one.reached others.reached one.lead others.lead;
      agree = others.agree;
    }
