-- Changes of term pages that make changes of pairs: none, one behind another, and a delta of one page.
use Rattle.std.proofs.Common.{ℕ, ◌<◌, List, [], ◌∷◌, ◌++◌, length, sym}
use Rattle.ax_area.specs.Changes.{Change, Delta}
use Rattle.ax_area.proofs.Leading.{lead_delta, lead_nothing, lead_then}
use Rattle.ax_delta.specs.Changes.{changed_pairs, term_changes_of}
use Rattle.ax_delta.specs.Payload.{IsDelta}
use Rattle.ax_delta.specs.declared.change.Change.{Change as PairChange}
use Rattle.ax_image_pairs.specs.Carrying.{MakeChanges}
use Rattle.ax_pages.specs.AfterPart.{after_delta}
use Rattle.ax_pages.specs.Contents.{TermPage}
use Rattle.ax_pair.specs.Order.{Rise}
use Rattle.ax_pairs.proofs.Changed.{delta_set}
use Rattle.ax_pairs.proofs.Sets.{changed_twice, same_set}
use Rattle.ax_pairs.specs.Index.{AllBelong}
use Rattle.ax_pairs.specs.PairSets.{with_changes}

pub none_made : (pages : List TermPage) → MakeChanges [] [] pages
none_made pages = record {
  after = pages;
  lead = (lead_nothing pages).lead;
  holds = λ set is. is;
}

pub made_then : (one other : List PairChange) (first second : List Change) (pages : List TermPage)
    → (made : MakeChanges one first pages) → MakeChanges other second made.after
    → MakeChanges (one ++ other) (first ++ second) pages
made_then one other first second pages made more = record {
  after = more.after;
  lead =
      (lead_then first second pages made.after more.after (record { lead = made.lead }) (record { lead = more.lead })).lead;
  holds = λ set is.
      same_set more.after (with_changes other (with_changes one set)) (with_changes (one ++ other) set)
      (λ pair. sym (changed_twice one other set pair)) (more.holds (with_changes one set) (made.holds set is));
}

pub made_by_delta : (pages : List TermPage) (number : ℕ) (payload : List ℕ) (changes : List PairChange)
    → number < length pages → Rise (changed_pairs changes) → IsDelta payload (term_changes_of changes)
    → AllBelong (changed_pairs changes) number pages → MakeChanges changes (Delta number payload ∷ []) pages
made_by_delta pages number payload changes there rise delta belong = record {
  after = after_delta number payload pages;
  lead = (lead_delta pages number payload there).lead;
  holds = λ set is. delta_set pages set number payload changes is there rise delta belong;
}
