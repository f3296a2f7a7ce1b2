-- The policies under which a write of a document exchanges pairs are those of the container, so its changes carry their
-- pairs.
use Rattle.std.proofs.Common.{◌≡◌, ℕ, ◌<◌, Bool, true, false, List, [], ◌∷◌, find, Option, Some, None, is_eq, sym, ap, subst, ◌∙◌, arith}
use Rattle.std.specs.Prelude.{IsTrue, if◌then◌else◌}
use Rattle.std.specs.FinMap as finite
use Rattle.std.specs.Ordering.{eq_by_cmp, nat_cmp}
use Rattle.std.specs.Cmp.{nat_cmp_is}
use Rattle.std.specs.declared.cmp.Ordering.TheVariants.{Greater}
use Rattle.ax_area.specs.Contents.{Contents, Stored}
use Rattle.ax_container.specs.Container.{Container, Entry, NumbersRise, entry_of, has_id}
use Rattle.ax_container.specs.Writes.{created, deleted, is_full, replaced}
use Rattle.ax_delta.specs.declared.change.Change.{Change}
use Rattle.ax_image.specs.StandsFor.{AreUnder, ShowEntries}
use Rattle.ax_image.specs.WriteChanges.{creating_changes, deleting_changes, replacing_changes}
use Rattle.ax_image.proofs.Shown.{found_above, same_some}
use Rattle.ax_image_grammar.specs.Payloads.{IsTextOf}
use Rattle.ax_image_grammar.specs.Table.{policy_text}
use Rattle.ax_image_grammar.proofs.OneContainer.{same_policy}
use Rattle.ax_image_pairs.specs.Carrying.{Carries}
use Rattle.ax_image_pairs.specs.Indexed.{ContentsHoldAll}
use Rattle.ax_image_pairs.proofs.Carried.{creation, deletion, replacement}
use Rattle.ax_keep.specs.Exchanges.{Exchanges}
use Rattle.ax_keep.specs.Owned.{Owns}
use Rattle.ax_storable.specs.Storable.{IsStorable}
use Rattle.ax_pages.proofs.LastPart.{same_number}
use Rattle.ax_policy.specs.Table.{Table, policy_at}
use Rattle.ax_policy.specs.declared.policy.Policy.{Policy}
use Rattle.ax_table.specs.TableAgrees.{TableAgrees}
use Rattle.ax_tree.specs.Document.{document_id}
use Rattle.ax_tree.specs.declared.tree.Tree.{Tree}
use Rattle.ax_write.specs.Exchanged.{IsExchanged}
use Rattle.ax_write.specs.Writes.{IsFoundIn, IsHeldAs}
use Rattle.ax_write.specs.declared.finding.FoundDocument.{FoundDocument}
use Rattle.ax_write.proofs.Numbered.{is_absent}

-- ---- the policy of the document of an entry

under_first : (texts : ℕ → List ℕ) (p : ℕ × Stored) (ps : List (ℕ × Stored)) (e found : Entry) (document : Stored) → p.0 ≡ e.number
    → IsTextOf (texts p.1.policy) e.indexed_by → e ≡ found
    → (if eq_by_cmp nat_cmp found.number p.0 then Some p.1 else finite.find nat_cmp found.number ps) ≡ Some document
    → IsTextOf (texts document.policy) found.indexed_by
under_first texts p ps e found document number under same is =
    let at : found.number ≡ p.0 = ap (λ (x : Entry). x.number) (sym same) ∙ sym number in
    let here : eq_by_cmp nat_cmp found.number p.0 ≡ true = ap (eq_by_cmp nat_cmp found.number) (sym at) ∙ same_number found.number in
    let own : p.1 ≡ document =
    same_some p.1 document (sym (ap (λ b. if b then Some p.1 else finite.find nat_cmp found.number ps) here) ∙ is) in
    subst (λ (x : Entry). IsTextOf (texts document.policy) x.indexed_by) same
    (subst (λ (d : Stored). IsTextOf (texts d.policy) e.indexed_by) own under)

found_under : (texts : ℕ → List ℕ) (pages : List (ℕ × Stored)) (entries : List Entry) (before next : ℕ) (id : List ℕ) (found : Entry)
    (document : Stored) → NumbersRise before entries next → ShowEntries pages entries → AreUnder texts pages entries
    → find (has_id id) entries ≡ Some found → finite.find nat_cmp found.number pages ≡ Some document
    → IsTextOf (texts document.policy) found.indexed_by
found_under texts [] [] before next id found document rise shown under is held = absurd cc
found_under texts [] (e ∷ es) before next id found document rise shown under is held = absurd shown
found_under texts (p ∷ ps) [] before next id found document rise shown under is held = absurd shown
found_under texts (p ∷ ps) (e ∷ es) before next id found document rise shown under is held =
    elim (has_id id e) as (λ b. (if b then Some e else find (has_id id) es) ≡ Some found → IsTextOf (texts document.policy) found.indexed_by) [
      | true ↦ λ at. under_first texts p ps e found document shown.0.number_is under.0 (same_some e found at) held
      | false ↦ λ at.
          let below : p.0 < found.number = omega (arith, found_above id e.number next es found rise.1 at, shown.0.number_is) in
          let apart : eq_by_cmp nat_cmp found.number p.0 ≡ false = ap is_eq (sym (nat_cmp_is found.number p.0 Greater below)) in
          found_under texts ps es e.number next id found document rise.1 shown.1 under.1 at
          (sym (ap (λ b. if b then Some p.1 else finite.find nat_cmp found.number ps) apart) ∙ held)
    ] is

-- ---- what is carried

module _ (honest : Bool) (table : Table) (contents : Contents) (agrees : TableAgrees honest table contents) (trusted : IsTrue honest)
    (before : Container) (hold : ContentsHoldAll contents before) (plain : contents.versioned ≡ false) where
  now_is : (number : ℕ) (policy : Policy) → number ≡ contents.policy_now → policy_at table number ≡ Some policy → policy ≡ before.policy
  now_is number policy now is =
      same_policy (policy_text contents.policy_now contents) policy before.policy
      (subst (λ n. IsTextOf (policy_text n contents) policy) now (agrees.texts trusted number policy is)) hold.documents.show.policy

  was_is : (id : List ℕ) (found : Entry) (document : Stored) (number policy_number : ℕ) (policy : Policy) → entry_of id before ≡ Some found
      → number ≡ found.number → finite.get contents.documents number ≡ Some document → policy_number ≡ document.policy
      → policy_at table policy_number ≡ Some policy → policy ≡ found.indexed_by
  was_is id found document number policy_number policy there at held own is =
      let here : finite.find nat_cmp found.number (finite.entries contents.documents) ≡ Some document =
      sym (finite.get-entries contents.documents found.number) ∙ ap (finite.get contents.documents) (sym at) ∙ held in
      same_policy (policy_text document.policy contents) policy found.indexed_by
      (subst (λ n. IsTextOf (policy_text n contents) policy) own (agrees.texts trusted policy_number policy is))
      (found_under (λ n. policy_text n contents) (finite.entries contents.documents) before.entries 0 before.next_number id found document
      hold.documents.show.sound.numbers hold.documents.show.shown hold.documents.show.under there here)

  pub created_carries : (id : List ℕ) (tree : Tree) (number now : ℕ) (changes : List Change) → number ≡ contents.next_number
      → now ≡ table.current → document_id tree ≡ Some id → IsStorable tree → entry_of id before ≡ None → is_full before ≡ false
      → IsExchanged table number table.current None table.current (Some tree) changes
      → Carries contents (creating_changes number now tree) changes (created id tree before)
  created_carries id tree number now changes next current own storable none space is =
      let at : number ≡ before.next_number = next ∙ hold.documents.show.next in
      let old : is.old_under ≡ before.policy = now_is table.current is.old_under agrees.now is.before_is in
      let new : is.new_under ≡ before.policy = now_is table.current is.new_under agrees.now is.after_is in
      let by : Exchanges (Owns before.next_number before.policy None) (Owns before.next_number before.policy (Some tree)) changes =
      subst (λ n. Exchanges (Owns n before.policy None) (Owns n before.policy (Some tree)) changes) at
      (subst (λ p. Exchanges (Owns number p None) (Owns number before.policy (Some tree)) changes) old
      (subst (λ p. Exchanges (Owns number is.old_under None) (Owns number p (Some tree)) changes) new is.exchanges)) in
      subst (λ n. Carries contents (creating_changes n now tree) changes (created id tree before)) (sym at)
      (subst (λ p. Carries contents (creating_changes before.next_number p tree) changes (created id tree before)) (sym (current ∙ agrees.now))
      (creation contents before hold tree id changes plain own storable (is_absent id before none) space by))

  -- a document that was found
  module _ (id : List ℕ) (found : FoundDocument) (held : IsHeldAs contents found) (is : IsFoundIn id before (Some found))
      (changes : List Change) where
    abbrev entry : Entry
    entry = is.0

    exchanged : (new : Option Tree)
        → IsExchanged table found.number found.document.policy (Some found.document.tree) table.current new changes
        → Exchanges (Owns entry.number entry.indexed_by (Some entry.tree)) (Owns entry.number before.policy new) changes
    exchanged new exchange =
        let old_is : exchange.old_under ≡ entry.indexed_by =
        was_is id entry held.stored found.number found.document.policy exchange.old_under is.1 is.2 held.held held.policy exchange.before_is in
        let new_is : exchange.new_under ≡ before.policy = now_is table.current exchange.new_under agrees.now exchange.after_is in
        subst (λ n. Exchanges (Owns n entry.indexed_by (Some entry.tree)) (Owns n before.policy new) changes) is.2
        (subst (λ t. Exchanges (Owns found.number entry.indexed_by (Some t)) (Owns found.number before.policy new) changes) is.3
        (subst (λ p. Exchanges (Owns found.number p (Some found.document.tree)) (Owns found.number before.policy new) changes) old_is
        (subst (λ p. Exchanges (Owns found.number exchange.old_under (Some found.document.tree)) (Owns found.number p new) changes) new_is
        exchange.exchanges)))

    pub replaced_carries : (tree : Tree) (now : ℕ) → now ≡ table.current → document_id tree ≡ Some id → IsStorable tree
        → IsExchanged table found.number found.document.policy (Some found.document.tree) table.current (Some tree) changes
        → Carries contents (replacing_changes found.number now tree) changes (replaced id tree before)
    replaced_carries tree now current own storable exchange =
        subst (λ n. Carries contents (replacing_changes n now tree) changes (replaced id tree before)) (sym is.2)
        (subst (λ p. Carries contents (replacing_changes entry.number p tree) changes (replaced id tree before)) (sym (current ∙ agrees.now))
        (replacement contents before hold id entry is.1 tree changes plain own storable (exchanged (Some tree) exchange)))

    pub deleted_carries : IsExchanged table found.number found.document.policy (Some found.document.tree) table.current None changes
        → Carries contents (deleting_changes found.number) changes (deleted id before)
    deleted_carries exchange =
        subst (λ n. Carries contents (deleting_changes n) changes (deleted id before)) (sym is.2)
        (deletion contents before hold id entry is.1 changes (exchanged None exchange))
