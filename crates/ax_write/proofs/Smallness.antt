-- What a write puts into the index in its one batch: a plan of the changes of its pairs, behind the parts of the document.
use Rattle.std.proofs.Common.{◌≡◌, ℕ, Bool, List, Option, Some, None, Result, sym, ap, subst, ◌∙◌}
use Rattle.std.specs.Prelude.{IsTrue, OnOk}
use Rattle.ax_area.specs.Contents.{Contents, Stored}
use Rattle.ax_delta.specs.declared.change.Change.{Change}
use Rattle.ax_frame.specs.Part.{PartValue}
use Rattle.ax_policy.specs.Table.{Table}
use Rattle.ax_tree.specs.declared.tree.Tree.{Tree}
use Rattle.ax_write.specs.Exchanged.{IsExchanged}
use Rattle.ax_write.specs.Held.{IsHeld}
use Rattle.ax_write.specs.Small.{IsFound, IsNew, IsNewOrTold, IsPlanned, IsSmallBatch, IsToldHeld, IsWas, front_parts}
use Rattle.ax_write.specs.Writes.{FindsNone, IsHeldAs, IsLookedUp, IsTextHeld}
use Rattle.ax_write.specs.declared.finding.FoundDocument.{FoundDocument}
use Rattle.ax_write.proofs.Calls.{on_ok}

-- the document that was found is what it was
pub was_held : (honest : Bool) (before : Contents) (found : FoundDocument) → IsHeldAs before found
    → (IsTrue honest → IsTextHeld before found) → IsWas honest before found.number found.document.policy (Some found.document.tree)
was_held honest before found held text = (
  held.stored,
  held.held,
  held.policy,
  λ trusted. (subst (λ (o : Option Stored). IsHeld o (Some found.document)) held.held (text trusted)).document,
)

pub small_batch : (Was : ℕ → Option Tree → Type 0) (honest : Bool) (table : Table) (number policy now : ℕ) (old new : Option Tree)
    (made changes : List Change) (parts : List PartValue) (before after : Contents) → Was number old → IsWas honest before number policy old
    → IsExchanged table number policy old table.current new made → changes ≡ made → now ≡ table.current
    → parts ≡ front_parts number now old new → IsPlanned honest changes parts before after → IsSmallBatch Was honest table new before after
small_batch Was honest table number policy now old new made changes parts before after one was exchanged same current is planned = record {
  number = number;
  policy = policy;
  old = old;
  one = one;
  was = was;
  changes = changes;
  exchanged = subst (IsExchanged table number policy old table.current new) (sym same) exchanged;
  planned = subst (λ (p : List PartValue). IsPlanned honest changes p before after) (is ∙ ap (λ n. front_parts number n old new) current)
      planned;
}

-- ---- a write behind a look-up that changes no contents

-- the batch is of one document, and so of any that it follows to be
small_of : (Was Other : ℕ → Option Tree → Type 0) → ((number : ℕ) (old : Option Tree) → Was number old → Other number old)
    → (honest then : Bool) → then ≡ honest → (table : Table) (new : Option Tree) (before mid after : Contents) → mid ≡ before
    → IsSmallBatch Was then table new mid after → IsSmallBatch Other honest table new before after
small_of Was Other follows honest then same table new before mid after still small =
    let over : IsSmallBatch Was honest table new mid after = subst (λ (h : Bool). IsSmallBatch Was h table new mid after) same small in
    let batch : IsSmallBatch Was honest table new before after =
    subst (λ (c : Contents). IsSmallBatch Was honest table new c after) still over in
    record {
      number = batch.number;
      policy = batch.policy;
      old = batch.old;
      one = follows batch.number batch.old batch.one;
      was = batch.was;
      changes = batch.changes;
      exchanged = batch.exchanged;
      planned = batch.planned;
    }

module _ {T E : Type 0} (result : Result T E) (honest then : Bool) (same : then ≡ honest) (table : Table) (new : Option Tree)
    (before mid after : Contents) (still : mid ≡ before) where
  made_of : (Was Other : ℕ → Option Tree → Type 0) → ((number : ℕ) (old : Option Tree) → Was number old → Other number old)
      → OnOk result (IsSmallBatch Was then table new mid after) → OnOk result (IsSmallBatch Other honest table new before after)
  made_of Was Other follows = on_ok result (small_of Was Other follows honest then same table new before mid after still)

  -- of a creation
  pub small_created : OnOk result (IsSmallBatch (IsNew mid) then table new mid after)
      → OnOk result (IsSmallBatch (IsNew before) honest table new before after)
  small_created = made_of (IsNew mid) (IsNew before) (λ number old is. subst (λ (c : Contents). IsNew c number old) still is)

  module _ (ids : List (List ℕ × ℕ)) (id : List ℕ) where
    is_new : (IsTrue honest → FindsNone ids id before) → (number : ℕ) (old : Option Tree) → IsNew mid number old
        → IsNewOrTold honest ids id before number old
    is_new none number None is = (is ∙ ap (λ (c : Contents). c.next_number) still, none)
    is_new none number (Some old) is = absurd is

    -- of an upsert by which one is created
    pub small_new : (IsTrue honest → FindsNone ids id before) → OnOk result (IsSmallBatch (IsNew mid) then table new mid after)
        → OnOk result (IsSmallBatch (IsNewOrTold honest ids id before) honest table new before after)
    small_new none = made_of (IsNew mid) (IsNewOrTold honest ids id before) (is_new none)

    -- of one that was found
    module _ (found : FoundDocument) (told : IsTrue honest → IsLookedUp ids id before (Some found.number)) where
      is_told : (number : ℕ) (old : Option Tree) → IsFound found number old → IsToldHeld honest ids id before number old
      is_told number None is = absurd is
      is_told number (Some old) is = λ trusted. subst (λ (n : ℕ). IsLookedUp ids id before (Some n)) (sym is.0) (told trusted)

      is_either : (number : ℕ) (old : Option Tree) → IsFound found number old → IsNewOrTold honest ids id before number old
      is_either number None is = absurd is
      is_either number (Some old) is = is_told number (Some old) is

      pub small_told : OnOk result (IsSmallBatch (IsFound found) then table new mid after)
          → OnOk result (IsSmallBatch (IsToldHeld honest ids id before) honest table new before after)
      small_told = made_of (IsFound found) (IsToldHeld honest ids id before) is_told

      pub small_upserted : OnOk result (IsSmallBatch (IsFound found) then table new mid after)
          → OnOk result (IsSmallBatch (IsNewOrTold honest ids id before) honest table new before after)
      small_upserted = made_of (IsFound found) (IsNewOrTold honest ids id before) is_either
