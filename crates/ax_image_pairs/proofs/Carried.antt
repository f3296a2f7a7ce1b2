-- The changes of a write of a document, and behind them those that make the changes of the index, lead from what holds a
-- container with its index to what holds the container after the write, with its index.
use Rattle.std.proofs.Common.{◌≡◌, ℕ, List, true, false, Some, None, sym, ap, ◌∙◌, inl, inr, ⊎_elim, ◌++◌}
use Rattle.std.specs.Prelude.{option_and_then}
use Rattle.std.specs.List.{AllByRecursion}
use Rattle.ax_tree.specs.declared.tree.Tree.{Tree}
use Rattle.ax_tree.specs.Document.{document_id}
use Rattle.ax_pair.specs.declared.pair.Pair.{Pair}
use Rattle.ax_delta.specs.declared.change.Change.{Change as PairChange}
use Rattle.ax_area.specs.Changes.{Change}
use Rattle.ax_area.specs.Contents.{Contents, after_changes}
use Rattle.ax_area.proofs.Leading.{more_changes}
use Rattle.ax_storable.specs.Storable.{IsStorable}
use Rattle.ax_policy.specs.declared.policy.Policy.{Policy}
use Rattle.ax_pages.specs.Contents.{TermPage}
use Rattle.ax_pairs.specs.Index.{IsIndex}
use Rattle.ax_pairs.specs.PairSets.{PairSet, with_changes}
use Rattle.ax_pairs.proofs.Sets.{changes_say}
use Rattle.ax_container.specs.Container.{Container, Entry, contains, entry_of}
use Rattle.ax_container.specs.Writes.{created, deleted, is_full, replaced}
use Rattle.ax_container.proofs.Soundness.{MayBe}
use Rattle.ax_keep.specs.Exchanges.{Exchanges, is_there_after}
use Rattle.ax_keep.specs.Owned.{Owns}
use Rattle.ax_image.specs.Documents.{LeadsTo}
use Rattle.ax_image.specs.WriteChanges.{creating_changes, deleting_changes, replacing_changes}
use Rattle.ax_image.proofs.Writing.{created_by, deleted_by, replaced_by}
use Rattle.ax_image_pairs.specs.Pairs.{HasPair}
use Rattle.ax_image_pairs.specs.Indexed.{ContentsHoldAll, HoldPairs, LeadsToAll}
use Rattle.ax_image_pairs.specs.Carrying.{Carries}
use Rattle.ax_image_pairs.proofs.Beside.{IsBeside, creating_beside, deleting_beside, held_beside, kept_beside, replacing_beside}
use Rattle.ax_image_pairs.proofs.Exchanged.{ArePairsExchanged, exchanged_created, exchanged_deleted, exchanged_replaced}

-- Changes that exchange the pairs of one container for those of another make the set of this one.
pub hold_after : (before after : Container) (Old New : Pair → Type 0) (changes : List PairChange) (pages made : List TermPage)
    → HoldPairs pages before → ArePairsExchanged before after Old New → Exchanges Old New changes
    → ((set : PairSet) → IsIndex pages set → IsIndex made (with_changes changes set)) → HoldPairs made after
hold_after before after Old New changes pages made holds exchanged changed makes = record {
  set = with_changes changes holds.set;
  is = makes holds.set holds.is;
  exact = λ pair.
      let say : with_changes changes holds.set pair ≡ is_there_after changes holds.set pair =
      changes_say changes holds.set pair changed.rise in
      let by = changed.made holds.set (λ other old. (holds.exact other).1 (exchanged.old other old)) pair in
      let to = exchanged.made pair in (
        (λ h.
            to.1 (⊎_elim
            (λ (new : New pair). inl new)
            (λ (kept : (holds.set pair ≡ true) × (Old pair → ⊥)). inr ((holds.exact pair).0 kept.0, kept.1))
            (by.0 (sym say ∙ h)))),
        (λ h.
            say ∙ by.1 (⊎_elim
            (λ (new : New pair). inl new)
            (λ (kept : HasPair before pair × (Old pair → ⊥)). inr ((holds.exact pair).1 kept.0, kept.1))
            (to.0 h))),
      );
}

joined : (contents : Contents) (after : Container) (front behind : List Change) (pages : List TermPage)
    → (documents : LeadsTo contents front after) → documents.new.terms ≡ contents.terms
    → ((with : Contents) → with.terms ≡ contents.terms → after_changes behind with ≡ Some (record with { terms = pages }))
    → HoldPairs pages after → LeadsToAll contents (front ++ behind) after
joined contents after front behind pages documents same lead holds = record {
  new = record documents.new { terms = pages };
  lead =
      more_changes front behind contents ∙ ap (option_and_then (after_changes behind)) documents.lead
      ∙ lead documents.new same;
  hold = record { documents = held_beside documents.new pages after documents.hold; pairs = holds };
}

pub carried : (contents : Contents) (before after : Container) (Old New : Pair → Type 0) (changes : List PairChange)
    (front : List Change) → HoldPairs contents.terms before → LeadsTo contents front after → AllByRecursion IsBeside front
    → ArePairsExchanged before after Old New → Exchanges Old New changes → Carries contents front changes after
carried contents before after Old New changes front pairs documents beside exchanged changed = record {
  carry = λ behind makes.
      joined contents after front behind makes.after documents
      (kept_beside front beside contents documents.new documents.lead) makes.lead
      (hold_after before after Old New changes contents.terms makes.after pairs exchanged changed makes.holds);
}

-- ---- the writes

may_be : (id : List ℕ) (tree : Tree) (policy : Policy) → document_id tree ≡ Some id → IsStorable tree
    → MayBe id tree policy
may_be id tree policy own storable = λ number named same. record { own_id = own ∙ ap Some (sym same); storable = storable }

module _ (contents : Contents) (before : Container) (hold : ContentsHoldAll contents before) where
  pub creation : (tree : Tree) (id : List ℕ) (changes : List PairChange) → contents.versioned ≡ false
      → document_id tree ≡ Some id → IsStorable tree → contains id before ≡ false → is_full before ≡ false
      → Exchanges (Owns before.next_number before.policy None) (Owns before.next_number before.policy (Some tree)) changes
      → Carries contents (creating_changes before.next_number contents.policy_now tree) changes (created id tree before)
  creation tree id changes plain own storable absent space changed =
      carried contents before (created id tree before)
      (Owns before.next_number before.policy None) (Owns before.next_number before.policy (Some tree)) changes
      (creating_changes before.next_number contents.policy_now tree) hold.pairs
      (created_by contents before hold.documents id tree plain (may_be id tree before.policy own storable) absent space)
      (creating_beside before.next_number contents.policy_now tree)
      (exchanged_created before hold.documents.show.sound id tree) changed

  module _ (id : List ℕ) (found : Entry) (is : entry_of id before ≡ Some found) where
    pub replacement : (tree : Tree) (changes : List PairChange) → contents.versioned ≡ false
        → document_id tree ≡ Some id → IsStorable tree
        → Exchanges (Owns found.number found.indexed_by (Some found.tree)) (Owns found.number before.policy (Some tree)) changes
        → Carries contents (replacing_changes found.number contents.policy_now tree) changes (replaced id tree before)
    replacement tree changes plain own storable changed =
        carried contents before (replaced id tree before)
        (Owns found.number found.indexed_by (Some found.tree)) (Owns found.number before.policy (Some tree)) changes
        (replacing_changes found.number contents.policy_now tree) hold.pairs
        (replaced_by contents before hold.documents id tree plain (may_be id tree before.policy own storable) found is)
        (replacing_beside found.number contents.policy_now tree)
        (exchanged_replaced before hold.documents.show.sound id found is tree) changed

    pub deletion : (changes : List PairChange)
        → Exchanges (Owns found.number found.indexed_by (Some found.tree)) (Owns found.number before.policy None) changes
        → Carries contents (deleting_changes found.number) changes (deleted id before)
    deletion changes changed =
        carried contents before (deleted id before)
        (Owns found.number found.indexed_by (Some found.tree)) (Owns found.number before.policy None) changes
        (deleting_changes found.number) hold.pairs
        (deleted_by contents before hold.documents id found is)
        (deleting_beside found.number)
        (exchanged_deleted before hold.documents.show.sound id found is) changed
