-- What parts of a batch say, one behind another.
use Rattle.std.proofs.Common.{◌≡◌, List, [], ◌∷◌, ◌++◌, Option, Some, None, refl, sym, ap, ◌∙◌}
use Rattle.std.specs.Prelude.{option_and_then}
use Rattle.std.specs.Option.{option_map}
use Rattle.ax_area.proofs.OneTelling.{same_some, some_or_none}
use Rattle.ax_area.specs.Changes.{Change}
use Rattle.ax_area.specs.Contents.{Contents, after_changes}
use Rattle.ax_area.specs.Leading.{LeadTo}
use Rattle.ax_area.specs.Parts.{after_parts, change_said, changes_said}
use Rattle.ax_area_laws.proofs.Rising.{by_changes}
use Rattle.ax_frame.specs.Part.{PartValue}
use Rattle.ax_pages.specs.Contents.{TermPage}
use Rattle.ax_pairs.specs.TermParts as by_parts

-- ---- what parts say

-- where parts that say these changes lead, the changes do
pub said_leads : (parts : List PartValue) (changes : List Change) (contents : Contents) → changes_said parts ≡ Some changes
    → after_parts parts contents ≡ after_changes changes contents
said_leads parts changes contents said =
    by_changes parts contents ∙ ap (option_and_then (λ these. after_changes these contents)) said

pub record AreSaid (parts : List PartValue) (contents new : Contents) : Type 0 where
  pub changes : List Change
  pub said : changes_said parts ≡ Some changes
  pub lead : after_changes changes contents ≡ Some new

-- parts that lead on say changes that do
pub said_of : (parts : List PartValue) (contents new : Contents) → after_parts parts contents ≡ Some new
    → AreSaid parts contents new
said_of parts contents new lead = by_said (changes_said parts) refl (sym (by_changes parts contents) ∙ lead)
  where
    by_said : (found : Option (List Change)) → changes_said parts ≡ found
        → option_and_then (λ changes. after_changes changes contents) found ≡ Some new → AreSaid parts contents new
    by_said None said leads = absurd (some_or_none new leads)
    by_said (Some changes) said leads = record { changes = changes; said = said; lead = leads }

abbrev with_first : Change → Option (List Change) → Option (List Change)
with_first change others = option_map (λ changes. change ∷ changes) others

-- the changes of a part and of those behind it
pub record SaysFirst (part : PartValue) (others : List PartValue) (changes : List Change) : Type 0 where
  pub first : Change
  pub says : change_said part ≡ Some first
  pub behind : List Change
  pub are : changes_said others ≡ Some behind
  pub whole : changes ≡ first ∷ behind

pub says_first : (part : PartValue) (others : List PartValue) (changes : List Change)
    → changes_said (part ∷ others) ≡ Some changes → SaysFirst part others changes
says_first part others changes said = by_first (change_said part) refl said
  where
    by_others : (first : Change) → change_said part ≡ Some first → (found : Option (List Change)) → changes_said others ≡ found
        → with_first first found ≡ Some changes → SaysFirst part others changes
    by_others first says None are e = absurd (some_or_none changes e)
    by_others first says (Some behind) are e =
        record { first = first; says = says; behind = behind; are = are; whole = sym (same_some (first ∷ behind) changes e) }

    by_first : (found : Option Change) → change_said part ≡ found
        → option_and_then (λ change. with_first change (changes_said others)) found ≡ Some changes → SaysFirst part others changes
    by_first None says e = absurd (some_or_none changes e)
    by_first (Some first) says e = by_others first says (changes_said others) refl e

-- parts behind parts say changes behind changes
pub more_said : (first second : List PartValue) (front behind : List Change) → changes_said first ≡ Some front
    → changes_said second ≡ Some behind → changes_said (first ++ second) ≡ Some (front ++ behind)
more_said [] second front behind one other = other ∙ ap (λ list. Some (list ++ behind)) (same_some [] front one)
more_said (part ∷ first) second front behind one other =
    let by = says_first part first front one in
    ap (option_and_then (λ change. with_first change (changes_said (first ++ second)))) by.says
    ∙ ap (with_first by.first) (more_said first second by.behind behind by.are other)
    ∙ ap (λ list. Some (list ++ behind)) (sym by.whole)

pub turns_pages : (parts : List PartValue) (changes : List Change) (before after : List TermPage)
    → changes_said parts ≡ Some changes → by_parts.LeadTo parts before after → LeadTo changes before after
turns_pages parts changes before after said leads =
    record { lead = λ contents same. sym (said_leads parts changes contents said) ∙ leads.lead contents same }
