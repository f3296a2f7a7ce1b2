-- What stands for the contents of a store in the words of all versions agrees with them, alone; it is what frames
-- tell that lead to them; and parts lead where the changes that they say lead from what stands for the contents.
use Rattle.std.proofs.Common.{◌≡◌, ℕ, List, [], ◌∷◌, Option, refl, sym, ap, subst, ◌∙◌}
use Rattle.std.specs.Prelude.{Some, None, option_and_then}
use Rattle.std.specs.Option.{option_map}
use Rattle.ax_frame.specs.Part.{PartValue, AllFit}
use Rattle.ax_pages.specs.Contents as log
use Rattle.ax_pages.specs.AfterPart.{after_parts}
use Rattle.ax_pages.specs.Leads.{LeadOn}
use Rattle.ax_pages.proofs.OneContents as log_steps
use Rattle.ax_pages.specs.declared.numbers.TheConstants.{NEWEST_VERSION}
use Rattle.ax_area.specs.Changes.{Change, change_of}
use Rattle.ax_area.specs.Contents.{Contents, no_contents, after_change, after_changes}
use Rattle.ax_area.specs.Items.{single}
use Rattle.ax_area.specs.Parts.{change_said, changes_said}
use Rattle.ax_area.specs.Parts as said_by
use Rattle.ax_area.specs.Told.{Told, TellOn, Lead}
use Rattle.ax_area.proofs.OneTelling.{same_some, some_or_none, first_step}
use Rattle.ax_area_laws.specs.Agree.{Agree}
use Rattle.ax_area_laws.specs.Risen.{risen}
use Rattle.ax_area_laws.proofs.Backward.{leads_on}
use Rattle.ax_area_laws.proofs.Documents.{risen_shown, are_risen}
use Rattle.ax_area_laws.proofs.Refusing.{leads_too, not_long}
use Rattle.ax_area_laws.proofs.Stepping.{step, alone}
use Rattle.ax_area_laws.proofs.Telling.{none_agree, tells_on}

pub risen_agrees : (old : log.Contents) → Agree old (risen old)
risen_agrees old = record {
  next_number = refl;
  next_version = refl;
  policy_now = refl;
  policies = refl;
  documents = risen_shown old.documents;
  terms = refl;
  versioned = refl;
}

pub is_risen : (old : log.Contents) (new : Contents) → Agree old new → new ≡ risen old
is_risen old new agree = λ i. record {
  next_number = agree.next_number i;
  policy_now = agree.policy_now i;
  next_version = agree.next_version i;
  policies = agree.policies i;
  documents = are_risen old.documents new.documents agree.documents i;
  terms = agree.terms i;
  versioned = agree.versioned i;
}

-- ---- frames

pub told_risen : (frames : List (List ℕ)) (old : log.Contents) → LeadOn frames log.no_contents old
    → (told : List Told) × TellOn NEWEST_VERSION frames 0 told × Lead told no_contents (risen old)
told_risen frames old leads =
    let on = tells_on frames 0 log.no_contents old no_contents leads none_agree in
    (on.told, on.tell, subst (Lead on.told no_contents) (is_risen old on.reached on.agree) on.lead)

pub risen_back : (frames : List (List ℕ)) (told : List Told) (new : Contents) → TellOn NEWEST_VERSION frames 0 told
    → Lead told no_contents new → (old : log.Contents) × LeadOn frames log.no_contents old × (new ≡ risen old)
risen_back frames told new tell lead =
    let on = leads_on frames 0 told log.no_contents no_contents new tell lead none_agree in
    (on.after, on.lead, is_risen on.after new on.agree)

-- ---- parts one behind another

record Said (list : List PartValue) (after : log.Contents) (new : Contents) : Type 0 where
  changes : List Change
  are : changes_said list ≡ Some changes
  reached : Contents
  leads : after_changes changes new ≡ Some reached
  agree : Agree after reached

said : (list : List PartValue) (old after : log.Contents) (new : Contents) → AllFit list
    → after_parts list old ≡ Some after → Agree old new → Said list after new
said [] old after new fit leads agree = record {
  changes = [];
  are = refl;
  reached = new;
  leads = refl;
  agree = subst (λ c. Agree c new) (same_some old after leads) agree;
}
said (part ∷ list) old after new fit leads agree =
    let by = log_steps.first_step part list old after leads in
    let one = step part old new fit.0 agree by.between by.first in
    let others = said list by.between after one.reached fit.1 by.others one.agree in
    record {
      changes = one.change ∷ others.changes;
      are = ap (option_and_then (λ change. option_map (λ changes. change ∷ changes) (changes_said list))) one.says
          ∙ ap (option_map (λ changes. one.change ∷ changes)) others.are;
      reached = others.reached;
      leads = ap (option_and_then (after_changes others.changes)) one.leads ∙ others.leads;
      agree = others.agree;
    }

pub changes_lead : (list : List PartValue) (old after : log.Contents) → AllFit list
    → after_parts list old ≡ Some after
    → (changes : List Change) × (changes_said list ≡ Some changes)
    × (after_changes changes (risen old) ≡ Some (risen after))
changes_lead list old after fit leads =
    let is = said list old after (risen old) fit leads (risen_agrees old) in
    (is.changes, is.are, is.leads ∙ ap Some (is_risen after is.reached is.agree))

-- the changes of parts are that of the first and those of the others
record SaysFirst (part : PartValue) (list : List PartValue) (changes : List Change) : Type 0 where
  first : Change
  says : change_of NEWEST_VERSION (single part) ≡ Some first
  others : List Change
  are : changes_said list ≡ Some others
  all : changes ≡ first ∷ others

says_first : (part : PartValue) (list : List PartValue) (changes : List Change)
    → changes_said (part ∷ list) ≡ Some changes → SaysFirst part list changes
says_first part list changes said = by_first (change_of NEWEST_VERSION (single part)) refl said
  where
    by_others : (first : Change) → change_of NEWEST_VERSION (single part) ≡ Some first
        → (found : Option (List Change)) → changes_said list ≡ found
        → option_map (λ changes. first ∷ changes) found ≡ Some changes → SaysFirst part list changes
    by_others first says None are e = absurd (some_or_none changes e)
    by_others first says (Some others) are e = record {
      first = first;
      says = says;
      others = others;
      are = are;
      all = sym (same_some (first ∷ others) changes e);
    }

    by_first : (found : Option Change) → change_of NEWEST_VERSION (single part) ≡ found
        → option_and_then (λ change. option_map (λ changes. change ∷ changes) (changes_said list)) found
        ≡ Some changes → SaysFirst part list changes
    by_first None none e = absurd (some_or_none changes e)
    by_first (Some first) says e = by_others first says (changes_said list) refl e

record LeadsBack (list : List PartValue) (old : log.Contents) (reached : Contents) : Type 0 where
  after : log.Contents
  leads : after_parts list old ≡ Some after
  agree : Agree after reached

leads_back : (list : List PartValue) (changes : List Change) (old : log.Contents) (new reached : Contents)
    → AllFit list → changes_said list ≡ Some changes → after_changes changes new ≡ Some reached
    → Agree old new → LeadsBack list old reached
leads_back [] changes old new reached fit said leads agree = record {
  after = old;
  leads = refl;
  agree = subst (Agree old) (same_some new reached
      (ap (λ changes. after_changes changes new) (same_some [] changes said) ∙ leads)) agree;
}
leads_back (part ∷ list) changes old new reached fit said leads agree =
    let by = says_first part list changes said in
    let steps = first_step by.first by.others new reached
    (ap (λ changes. after_changes changes new) (sym by.all) ∙ leads) in
    let item = alone part old new fit.0 agree part.kind refl (not_long (single part) by.first by.says) in
    let one = leads_too (single part) by.first old new steps.between item agree by.says steps.first in
    let others = leads_back list by.others one.after steps.between reached fit.1 by.are steps.others
    one.agree in
    record {
      after = others.after;
      leads = ap (option_and_then (after_parts list)) one.leads ∙ others.leads;
      agree = others.agree;
    }

pub parts_lead : (list : List PartValue) (changes : List Change) (old : log.Contents) (reached : Contents)
    → AllFit list → changes_said list ≡ Some changes
    → after_changes changes (risen old) ≡ Some reached
    → (after : log.Contents) × (after_parts list old ≡ Some after) × (reached ≡ risen after)
parts_lead list changes old reached fit said leads =
    let is = leads_back list changes old (risen old) reached fit said leads (risen_agrees old) in
    (is.after, is.leads, is_risen is.after reached is.agree)

-- ---- the same as one function

-- what parts make of contents, by the changes that they say
abbrev ByChanges : List PartValue → Contents → Type 0
ByChanges list contents =
    said_by.after_parts list contents ≡ option_and_then (λ changes. after_changes changes contents) (changes_said list)

abbrev with_first : Change → Option (List Change) → Option (List Change)
with_first first others = option_map (λ changes. first ∷ changes) others

none_of : (first : Change) (others : Option (List Change)) (contents : Contents) → after_change first contents ≡ None
    → None ≡ option_and_then (λ changes. after_changes changes contents) (with_first first others)
none_of first None contents e = refl
none_of first (Some others) contents e = sym (ap (option_and_then (after_changes others)) e)

some_of : (first : Change) (others : Option (List Change)) (contents between : Contents)
    → after_change first contents ≡ Some between
    → option_and_then (λ changes. after_changes changes between) others
    ≡ option_and_then (λ changes. after_changes changes contents) (with_first first others)
some_of first None contents between e = refl
some_of first (Some others) contents between e = sym (ap (option_and_then (after_changes others)) e)

by_between : (list : List PartValue) (first : Change) (contents : Contents) → ((between : Contents) → ByChanges list between)
    → (found : Option Contents) → after_change first contents ≡ found
    → option_and_then (said_by.after_parts list) found
    ≡ option_and_then (λ changes. after_changes changes contents) (with_first first (changes_said list))
by_between list first contents others None e = none_of first (changes_said list) contents e
by_between list first contents others (Some between) e =
    others between ∙ some_of first (changes_said list) contents between e

by_first : (list : List PartValue) (contents : Contents) → ((between : Contents) → ByChanges list between)
    → (found : Option Change)
    → option_and_then (said_by.after_parts list) (option_and_then (λ change. after_change change contents) found)
    ≡ option_and_then (λ changes. after_changes changes contents)
    (option_and_then (λ change. with_first change (changes_said list)) found)
by_first list contents others None = refl
by_first list contents others (Some first) = by_between list first contents others (after_change first contents) refl

pub by_changes : (list : List PartValue) (contents : Contents) → ByChanges list contents
by_changes [] contents = refl
by_changes (part ∷ list) contents = by_first list contents (by_changes list) (change_said part)

-- and parts make of what stands for contents what stands for what they make of these
pub parts_alike : (list : List PartValue) (old : log.Contents) → AllFit list
    → said_by.after_parts list (risen old) ≡ option_map risen (after_parts list old)
parts_alike list old fit = by_changes list (risen old) ∙ by_parts (after_parts list old) refl
  where
    leads : Option Contents
    leads = option_and_then (λ changes. after_changes changes (risen old)) (changes_said list)

    reached_back : (said : Option (List Change)) → changes_said list ≡ said → (found : Option Contents)
        → option_and_then (λ changes. after_changes changes (risen old)) said ≡ found → after_parts list old ≡ None → found ≡ None
    reached_back said are None is none = refl
    reached_back None are (Some reached) is none = absurd (some_or_none reached is)
    reached_back (Some changes) are (Some reached) is none =
        let back = parts_lead list changes old reached fit are is in
        absurd (some_or_none back.0 (sym none ∙ back.1))

    by_parts : (found : Option log.Contents) → after_parts list old ≡ found → leads ≡ option_map risen found
    by_parts None none = reached_back (changes_said list) refl leads refl none
    by_parts (Some after) is =
        let (changes, are, on) = changes_lead list old after fit is in
        ap (option_and_then (λ changes. after_changes changes (risen old))) are ∙ on
