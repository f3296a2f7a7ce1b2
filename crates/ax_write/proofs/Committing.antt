-- A batch with a plan behind it is committed: where that leads, and what a crash leaves of it.
use Rattle.std.proofs.Common.{◌≡◌, ◌⊎◌, ℕ, Bool, true, List, ◌++◌, Result, Some, refl, sym, ap, subst, ◌∙◌}
use Rattle.std.specs.Prelude.{IsTrue, OnOk}
use Rattle.std.specs.List.{AllByRecursion}
use Rattle.ax_area.proofs.OneOutcome.{one_told, one_version}
use Rattle.ax_area.proofs.OneTelling.{same_some}
use Rattle.ax_area.proofs.Standing.{all_joined}
use Rattle.ax_area.specs.Changes.{Change}
use Rattle.ax_area.specs.Contents.{Contents, after_changes}
use Rattle.ax_area.specs.Image.{Says}
use Rattle.ax_area.specs.Parts.{after_parts, changes_said}
use Rattle.ax_area.specs.Told.{Told}
use Rattle.ax_delta.specs.declared.change.Change.{Change as PairChange}
use Rattle.ax_disk.specs.laws.StaysLaws.{idles_stay, rests_weaken, stays_join, stays_start, stays_turn, turns_weaken}
use Rattle.ax_disk.specs.model.Calls.{Idles}
use Rattle.ax_disk.specs.model.Image.{Image}
use Rattle.ax_disk.specs.model.Moments.{History}
use Rattle.ax_disk.specs.model.Pending.{MayLeave}
use Rattle.ax_disk.specs.model.Stays.{Rests, Stays, Turns}
use Rattle.ax_frame.specs.Part.{PartValue}
use Rattle.ax_image.specs.Readable.{newest, SaysReadable}
use Rattle.ax_image_grammar.specs.Payloads.{IsReadable}
use Rattle.ax_pairs.specs.Index.{IsIndex}
use Rattle.ax_pairs.specs.PairSets.{PairSet}
use Rattle.ax_store.specs.Store.{SaysMore}
use Rattle.ax_write.specs.Committed.{LeadWith, SaysWith}
use Rattle.ax_write.proofs.Calls.{on_ok}
use Rattle.ax_write.proofs.Planned.{IsPlanned, planned_leads}
use Rattle.ax_write.proofs.StayReadable.{readable_by}

-- ---- what images say

-- all say what the one says that reads give
pub says_all : (history : History) (version other : ℕ) (told others : List Told) (contents : Contents)
    → MayLeave history.unsynced history.reads → Rests history (Says newest other others contents)
    → Says newest version told contents history.reads → Rests history (Says newest version told contents)
says_all history version other told others contents may rests says =
    let there = rests.each history.reads may in
    let same_version : other ≡ version = one_version newest history.reads other version others told contents contents there says in
    let same_told : others ≡ told = one_told newest history.reads other version others told contents contents there says in
    rests_weaken history (Says newest other others contents) (Says newest version told contents)
    (λ image is. subst (λ v. Says newest v told contents image) same_version (subst (λ t. Says newest other t contents image) same_told is))
    rests

-- ---- the plan

pub made_by : (honest : Bool) (pairs : List PairChange) (front : List Change) (parts : List PartValue) (before now made : Contents)
    → IsPlanned honest pairs front parts before → now ≡ before → after_parts parts now ≡ Some made
    → LeadWith honest pairs front before made
made_by honest pairs front parts before now made is same done =
    subst (LeadWith honest pairs front before)
    (same_some is.new made (sym (planned_leads honest pairs front parts before now is same) ∙ done)) is.lead

-- a plan over a disk that is honest
pub trusted_plan : (honest : Bool) (pairs : List PairChange) (front : List Change) (parts : List PartValue) (before : Contents)
    → IsTrue honest → IsPlanned honest pairs front parts before → IsPlanned true pairs front parts before
trusted_plan honest pairs front parts before trusted is = subst (λ h. IsPlanned h pairs front parts before) trusted is

module _ (pairs : List PairChange) (front : List Change) (parts : List PartValue) (before now : Contents) (same : now ≡ before)
    (is : IsPlanned true pairs front parts before) (version : ℕ) (told : List Told) (start mid end : History)
    (idles : Idles start mid) (says : Says newest version told before start.reads) where
  abbrev changes : List Change
  changes = front ++ is.lead.behind

  abbrev Was : Image → Type 0
  Was image = Says newest version told before image

  abbrev Is : Image → Type 0
  Is image = SaysMore version told changes is.new image

  abbrev With : Image → Type 0
  With image = SaysWith version told pairs front before image

  with_plan : (image : Image) → Is image → With image
  with_plan image more = record { new = is.new; lead = is.lead; says = more }

  -- what the commit asks for
  there : Says newest version told now mid.reads
  there = subst (λ c. Says newest version told c mid.reads) (sym same) (subst (Says newest version told before) (sym idles.reads) says)

  leads : after_changes changes now ≡ Some is.new
  leads = ap (after_changes changes) same ∙ is.lead.lead

  pub told_with : {T E : Type 0} (result : Result T E)
      → ((changes : List Change) (new : Contents) → Says newest version told now mid.reads → changes_said parts ≡ Some changes
      → after_changes changes now ≡ Some new → OnOk result (Rests end (SaysMore version told changes new)))
      → OnOk result (Rests end With)
  told_with result commit = on_ok result (rests_weaken end Is With with_plan) (commit changes is.new there is.said leads)

  module _ (rests : Rests start Was)
      (commit : (changes : List Change) (new : Contents) → Says newest version told now mid.reads → changes_said parts ≡ Some changes
      → after_changes changes now ≡ Some new
      → Turns mid end (Says newest version told now) (SaysMore version told changes new)) where
    turned : Turns start end Was Is
    turned =
        stays_join start mid end (λ image. Was image ⊎ Is image)
        (stays_turn start mid Was Is (idles_stay start mid Was rests idles))
        (subst (λ c. Turns mid end (Says newest version told c) Is) same (commit changes is.new there is.said leads))

    pub turns_with : Turns start end Was With
    turns_with = turns_weaken start end Was Was Is With (λ image has. has) with_plan turned

    pub readable_with : (set : PairSet) → IsIndex before.terms set → AllByRecursion (IsReadable newest) front
        → MayLeave start.unsynced start.reads → Rests start SaysReadable → Stays start end SaysReadable
    readable_with set index readable may reads =
        readable_by start end version told before is.new changes
        (all_joined (IsReadable newest) front is.lead.behind readable (is.readable refl set index)) reads may says turned

-- nothing was committed
pub unplanned : (start mid : History) (version : ℕ) (told : List Told) (before : Contents) (Q : Image → Type 0)
    → Rests start (Says newest version told before) → Idles start mid → Turns start mid (Says newest version told before) Q
unplanned start mid version told before Q rests idles =
    stays_turn start mid (Says newest version told before) Q (idles_stay start mid (Says newest version told before) rests idles)

-- nothing was begun
pub still_turns : (history : History) (version : ℕ) (told : List Told) (before : Contents) (Q : Image → Type 0)
    → Rests history (Says newest version told before) → Turns history history (Says newest version told before) Q
still_turns history version told before Q rests =
    stays_turn history history (Says newest version told before) Q (stays_start history (Says newest version told before) rests)
