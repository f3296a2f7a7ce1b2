-- A plan behind the parts of a batch: what they say together, where that leads, and that it can be read.
use Rattle.std.proofs.Common.{◌≡◌, ℕ, Bool, List, ◌++◌, Some, sym, ap, ◌∙◌}
use Rattle.std.specs.Prelude.{IsTrue, option_and_then}
use Rattle.std.specs.List.{AllByRecursion}
use Rattle.ax_area.proofs.Leading.{more_changes}
use Rattle.ax_area.specs.Changes.{Change}
use Rattle.ax_area.specs.Contents.{Contents, after_changes}
use Rattle.ax_area.specs.Leading.{LeadTo}
use Rattle.ax_area.specs.Parts.{after_parts, changes_said}
use Rattle.ax_delta.specs.declared.change.Change.{Change as PairChange}
use Rattle.ax_frame.specs.Part.{PartValue}
use Rattle.ax_image.specs.Readable.{newest}
use Rattle.ax_image_grammar.specs.Payloads.{IsReadable}
use Rattle.ax_index.specs.Plans.{IsPlan}
use Rattle.ax_pairs.specs.Index.{IsIndex}
use Rattle.ax_pairs.specs.PairSets.{PairSet}
use Rattle.ax_store.specs.Batch.{AreAllowed}
use Rattle.ax_write.specs.Committed.{LeadWith, LeaveTerms}
use Rattle.ax_write.proofs.PartsSaid.{AreSaid, more_said, said_leads, said_of, turns_pages}
use Rattle.ax_write.proofs.PutReadable.{put_readable}

-- the parts of the batch say the changes in front, and behind them those of the plan
pub record IsPlanned (honest : Bool) (pairs : List PairChange) (front : List Change) (parts : List PartValue) (before : Contents)
    : Type 0 where
  pub new : Contents
  pub lead : LeadWith honest pairs front before new
  pub said : changes_said parts ≡ Some (front ++ lead.behind)
  -- what is put for the index is in its grammar, where the pages hold a set
  pub readable : IsTrue honest → (set : PairSet) → IsIndex before.terms set → AllByRecursion (IsReadable newest) lead.behind

module _ (honest : Bool) (pairs : List PairChange) (merged : ℕ) (old new : List PartValue) (before : Contents)
    (plan : IsPlan honest pairs merged old new before.terms) (beside : LeaveTerms old before) where
  -- what the parts of the plan say
  abbrev then : Contents
  then = record beside.new { terms = plan.after }

  pub plan_said : AreSaid plan.parts beside.new then
  plan_said = said_of plan.parts beside.new then (plan.lead.lead beside.new beside.same)

  pub planned : (front : List Change) → changes_said old ≡ Some front → IsPlanned honest pairs front new before
  planned front said =
      let is = plan_said in
      let turn : LeadTo is.changes before.terms plan.after = turns_pages plan.parts is.changes before.terms plan.after is.said plan.lead in
      let first : after_changes front before ≡ Some beside.new = sym (said_leads old front before said) ∙ beside.lead in
      record {
        new = then;
        lead = record {
          behind = is.changes;
          after = plan.after;
          turn = turn;
          make = λ trusted. record { after = plan.after; lead = turn.lead; holds = plan.holds trusted };
          lead = more_changes front is.changes before ∙ ap (option_and_then (after_changes is.changes)) first ∙ is.lead;
        };
        said = ap changes_said plan.added ∙ more_said old plan.parts front is.changes said is.said;
        readable = λ trusted set index.
            put_readable honest pairs merged old new before.terms plan trusted set index is.changes is.said;
      }

  pub front_said : AreSaid old before beside.new
  front_said = said_of old before beside.new beside.lead

-- such parts may follow what the store has then
module _ (honest : Bool) (pairs : List PairChange) (front : List Change) (parts : List PartValue) (before now : Contents)
    (is : IsPlanned honest pairs front parts before) (same : now ≡ before) where
  pub planned_leads : after_parts parts now ≡ Some is.new
  planned_leads =
      said_leads parts (front ++ is.lead.behind) now is.said ∙ ap (after_changes (front ++ is.lead.behind)) same ∙ is.lead.lead

  pub planned_allowed : AreAllowed parts now
  planned_allowed = (is.new, planned_leads)
