-- What is told in the words of all versions, by a program that knows the first alone, is parts that lead
-- on in the words of the store; and so it is with frames.
use Rattle.std.proofs.Common.{◌≡◌, ℕ, ◌+◌, List, [], ◌∷◌, ◌++◌, length, refl, ap, subst}
use Rattle.std.proofs.Common.{◌∙◌}
use Rattle.std.specs.Prelude.{Some, option_and_then}
use Rattle.std.proofs.lemmas.List.{append-nil}
use Rattle.ax_frame.specs.Part.{PartValue, AllFit, part_bytes, parts_bytes}
use Rattle.ax_pages.specs.Contents as log
use Rattle.ax_pages.specs.AfterPart.{after_parts}
use Rattle.ax_pages.specs.Leads.{LeadOn}
use Rattle.ax_pages.specs.declared.numbers.TheConstants.{NEWEST_VERSION}
use Rattle.ax_area.specs.Items.{item_bytes}
use Rattle.ax_area.specs.Contents.{Contents, after_changes}
use Rattle.ax_area.specs.Told.{Told, changes_of, told_bytes, AreTold, TellOn, Lead}
use Rattle.ax_area.proofs.OneTelling.{same_some, first_step}
use Rattle.ax_area_laws.specs.Agree.{Agree}
use Rattle.ax_area_laws.proofs.Refusing.{leads_too}

-- ---- parts one behind another

pub record IsParts (told : List Told) (old : log.Contents) (reached : Contents) : Type 0 where
  pub parts : List PartValue
  pub fit : AllFit parts
  pub spelled : told_bytes told ≡ parts_bytes parts
  pub after : log.Contents
  pub lead : after_parts parts old ≡ Some after
  pub agree : Agree after reached

pub is_parts : (told : List Told) (at : ℕ) (old : log.Contents) (new reached : Contents)
    → AreTold NEWEST_VERSION at told → Lead told new reached → Agree old new → IsParts told old reached
is_parts [] at old new reached are lead agree = record {
  parts = [];
  fit = tt;
  spelled = refl;
  after = old;
  lead = refl;
  agree = subst (Agree old) (same_some new reached lead) agree;
}
is_parts (t ∷ told) at old new reached are lead agree =
    let by = first_step t.change (changes_of told) new reached lead in
    let one = leads_too t.item t.change old new by.between are.0.item agree are.0.says by.first in
    let others = is_parts told (at + length (item_bytes t.item)) one.after by.between reached are.1
    by.others one.agree in
    record {
      parts = t.item.first ∷ others.parts;
      fit = (are.0.item.fit.0, others.fit);
      spelled = (λ i. (ap item_bytes one.single_is ∙ append-nil (part_bytes t.item.first)) i
          ++ others.spelled i);
      after = others.after;
      lead = ap (option_and_then (after_parts others.parts)) one.leads ∙ others.lead;
      agree = others.agree;
    }

-- ---- frames one behind another

-- what was told first leads to contents from which the others lead
record SplitsAt (first others : List Told) (before after : Contents) : Type 0 where
  between : Contents
  front : Lead first before between
  back : Lead others between after

split_lead : (first others : List Told) (before after : Contents)
    → Lead (first ++ others) before after → SplitsAt first others before after
split_lead [] others before after lead = record { between = before; front = refl; back = lead }
split_lead (t ∷ first) others before after lead =
    let step = first_step t.change (changes_of (first ++ others)) before after lead in
    let more = split_lead first others step.between after step.others in
    record {
      between = more.between;
      front = ap (option_and_then (after_changes (changes_of first))) step.first ∙ more.front;
      back = more.back;
    }

pub record LeadsOn (frames : List (List ℕ)) (old : log.Contents) (reached : Contents) : Type 0 where
  pub after : log.Contents
  pub lead : LeadOn frames old after
  pub agree : Agree after reached

pub leads_on : (frames : List (List ℕ)) (at : ℕ) (told : List Told) (old : log.Contents)
    (new reached : Contents) → TellOn NEWEST_VERSION frames at told → Lead told new reached → Agree old new
    → LeadsOn frames old reached
leads_on [] at told old new reached tell lead agree = record {
  after = old;
  lead = refl;
  agree = subst (Agree old) (same_some new reached (subst (λ t. Lead t new reached) tell lead)) agree;
}
leads_on (frame ∷ frames) at told old new reached (first, others, is, begins, more) lead agree =
    let split = split_lead first others new reached (subst (λ t. Lead t new reached) is lead) in
    let one = is_parts first (at + 9) old new split.between begins.are split.front agree in
    let on = leads_on frames (at + 9 + length frame) others one.after split.between reached more
    split.back one.agree in
    record {
      after = on.after;
      lead = (
        one.after,
        record {
          parts = one.parts;
          fit = one.fit;
          spelled = begins.spelled ∙ append-nil (told_bytes first) ∙ one.spelled;
          lead = one.lead;
        },
        on.lead,
      );
      agree = on.agree;
    }
