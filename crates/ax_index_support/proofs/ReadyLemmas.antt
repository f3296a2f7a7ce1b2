-- A store stays ready: over calls that read, and those that make room besides.
use Rattle.std.proofs.Common.{◌≡◌, ◌≤◌, Bool, not, List, refl, sym, ap, subst, ◌∙◌}
use Rattle.std.specs.Prelude.{ℕ, [], ◌++◌, Some, IsTrue, count_by}
use Rattle.ax_cache.specs.Pages.{CachedPages}
use Rattle.ax_disk.specs.model.Moments.{History}
use Rattle.ax_delta.specs.declared.change.Change.{Change}
use Rattle.ax_frame.specs.Part.{PartValue}
use Rattle.ax_area.specs.Contents.{Contents}
use Rattle.ax_area.specs.Parts.{after_parts}
use Rattle.ax_pages.specs.Contents.{TermPage}
use Rattle.ax_pairs.specs.TermParts.{LeadTo}
use Rattle.ax_index.specs.Merging.{IsMergePlan}
use Rattle.ax_index.specs.Plans.{IsPlan}
use Rattle.ax_index.specs.Reads.{Reads, Reserves}
use Rattle.ax_store.specs.declared.store.Store.{Store}
use Rattle.ax_store.specs.Batch.{AreAllowed}
use Rattle.ax_index_support.specs.Ready.{IsReady}

module _ {C : Type 0} (pages : C → CachedPages) (old new : Store C) (honest after : Bool) (before history : History) (earlier later : ℕ)
    (ready : IsReady pages old honest before) (alike : after ≡ honest) where
  pub ready_read : Reads pages honest old new before history earlier later → IsReady pages new after history
  ready_read reads = record {
    agrees = λ is works. reads.agrees (subst IsTrue alike is) works;
    free = subst (λ (t : List Bool). 2 ≤ count_by not t) (sym reads.same.taken) ready.free;
  }

  pub ready_reserved : Reserves pages honest old new before history earlier later → IsReady pages new after history
  ready_reserved planned = record {
    agrees = λ is works. planned.agrees (subst IsTrue alike is) works;
    free = subst (λ (t : List Bool). 2 ≤ count_by not t) (sym planned.same.taken) ready.free;
  }

-- parts that lead from the term pages of the contents, behind no others, may follow these
led_within : (parts old new : List PartValue) (before : Contents) (after : List TermPage) → LeadTo parts before.terms after
    → new ≡ old ++ parts → old ≡ [] → AreAllowed new before
led_within parts old new before after leads added none = (
  record before { terms = after },
  subst (λ (all : List PartValue). after_parts all before ≡ Some (record before { terms = after }))
      (sym (added ∙ ap (λ (front : List PartValue). front ++ parts) none)) (leads.lead before refl),
)

pub within_planned : {honest : Bool} (changes : List Change) (merged : ℕ) (old new : List PartValue) (before now : Contents)
    → IsPlan honest changes merged old new before.terms → old ≡ [] → now ≡ before → AreAllowed new now
within_planned changes merged old new before now plan none same =
    subst (AreAllowed new) (sym same) (led_within plan.parts old new before plan.after plan.lead plan.added none)

pub within_merged : {honest : Bool} (asked merged : ℕ) (old new : List PartValue) (before now : Contents)
    → IsMergePlan honest asked merged old new before.terms → old ≡ [] → now ≡ before → AreAllowed new now
within_merged asked merged old new before now plan none same =
    subst (AreAllowed new) (sym same) (led_within plan.parts old new before plan.after plan.lead plan.added none)
