-- The table of policies agrees with the contents after a write of a document, where its counts follow.
use Rattle.std.proofs.Common.{◌≡◌, ℕ, ◌+◌, ◌-◌, ◌<◌, Bool, true, false, List, Some, None, refl, sym, ap, subst, ◌∙◌}
use Rattle.std.proofs.Common.{◌^◌, arith}
use Rattle.std.specs.Prelude.{IsSome, option_and_then, is_some}
use Rattle.std.specs.FinMap as finite
use Rattle.ax_area.proofs.Leading.{more_changes}
use Rattle.ax_area.proofs.OneTelling.{same_some}
use Rattle.ax_area.specs.Changes.{Change}
use Rattle.ax_area.specs.Changes as change
use Rattle.ax_area.specs.Contents.{Contents, Stored, after_changes, is_given, stored, with_change}
use Rattle.ax_delta.specs.declared.change.Change.{Change as PairChange}
use Rattle.ax_image_grammar.specs.Table.{IsTaken}
use Rattle.ax_image.specs.WriteChanges.{creating_changes, deleting_changes, document_change, meta_change, replacing_changes}
use Rattle.ax_pages.specs.AfterPart.{most_documents}
use Rattle.ax_policy.specs.Table.{SetsCount, Table, count_at, policy_at}
use Rattle.ax_table.specs.TableAgrees.{TableAgrees}
use Rattle.ax_table.proofs.Agreeing.{agrees_created, agrees_deleted, agrees_replaced, is_counted, is_taken, room_replaced}
use Rattle.ax_tree.specs.CanonicalText.{canonical_text}
use Rattle.ax_tree.specs.declared.tree.Tree.{Tree}
use Rattle.ax_write.specs.Batches.{creating_parts, replacing_parts}
use Rattle.ax_write.specs.Committed.{LeadWith, LeaveTerms}
use Rattle.ax_write.specs.Writes.{IsHeldAs}
use Rattle.ax_write.specs.declared.finding.FoundDocument.{FoundDocument}
use Rattle.ax_write.proofs.Fronts.{create_leads, creating_beside, first_or, put_leads, replacing_beside}
use Rattle.ax_write.proofs.Fullness.{CanCreate}

-- the contents after changes of documents, with other term pages
behind : (honest : Bool) (pairs : List PairChange) (front : List Change) (old mid new : Contents) → after_changes front old ≡ Some mid
    → mid.terms ≡ old.terms → (lead : LeadWith honest pairs front old new) → new ≡ record mid { terms = lead.after }
behind honest pairs front old mid new first same lead =
    same_some new (record mid { terms = lead.after })
    (sym lead.lead ∙ more_changes front lead.behind old ∙ ap (option_and_then (after_changes lead.behind)) first ∙ lead.turn.lead mid same)

-- the document that is written
abbrev made_of : ℕ → ℕ → Tree → Stored
made_of number policy tree = stored number (record { policy = policy; version = None; text = canonical_text tree })

out_of : (table : Table) (old : Contents) (found : FoundDocument) → (held : IsHeldAs old found) → (mid : Table)
    → SetsCount found.document.policy (count_at table found.document.policy - 1) table mid
    → SetsCount held.stored.policy (count_at table held.stored.policy - 1) table mid
out_of table old found held mid out = subst (λ n. SetsCount n (count_at table n - 1) table mid) held.policy out

module _ (honest : Bool) (table : Table) (old : Contents) (agrees : TableAgrees honest table old) (plain : old.versioned ≡ false)
    (now : ℕ) (current : now ≡ table.current) where
  same_now : now ≡ old.policy_now
  same_now = current ∙ agrees.now

  given : is_given now old ≡ true
  given = ap (λ n. is_given n old) same_now ∙ agrees.given

  -- ---- a document is created

  pub create_beside : (number : ℕ) (tree : Tree) → CanCreate old → number ≡ old.next_number → now < 2 ^ 32
      → LeaveTerms (creating_parts number now tree) old
  create_beside number tree can next small =
      creating_beside number now tree old (omega (arith, can.some, next)) (omega (arith, can.left, next)) small plain given can.few

  pub table_created : (honest_pairs : Bool) (pairs : List PairChange) (new : Contents) (after : Table) (number : ℕ) (tree : Tree)
      → CanCreate old → number ≡ old.next_number → LeadWith honest_pairs pairs (creating_changes number now tree) old new
      → SetsCount table.current (count_at table table.current + 1) table after → TableAgrees honest after new
  table_created honest_pairs pairs new after number tree can next lead into =
      let written : Contents = with_change (document_change number now tree) (with_change (meta_change (number + 1) now) old) in
      let first : after_changes (creating_changes number now tree) old ≡ Some written = create_leads number now tree old plain given can.few in
      let at : new ≡ record written { terms = lead.after } =
      behind honest_pairs pairs (creating_changes number now tree) old written new first refl lead in
      subst (TableAgrees honest after) (sym at)
      (agrees_created honest table old (record written { terms = lead.after }) agrees same_now refl after number
      (made_of number now tree) (ap (finite.get old.documents) next ∙ can.none) can.few refl same_now into)

  -- ---- one that was found gets another tree

  module _ (found : FoundDocument) (held : IsHeldAs old found) where
    pub replace_beside : (tree : Tree) → 0 < found.number → LeaveTerms (replacing_parts found.number now tree) old
    replace_beside tree some = replacing_beside found.number now tree old some plain given (ap is_some held.held)

    pub table_replaced : (honest_pairs : Bool) (pairs : List PairChange) (new : Contents) (mid after : Table) (tree : Tree)
        → LeadWith honest_pairs pairs (replacing_changes found.number now tree) old new
        → SetsCount found.document.policy (count_at table found.document.policy - 1) table mid
        → SetsCount now (count_at mid now + 1) mid after → TableAgrees honest after new
    table_replaced honest_pairs pairs new mid after tree lead out into =
        let number : ℕ = found.number in
        let written : Contents = with_change (document_change number now tree) old in
        let first : after_changes (replacing_changes number now tree) old ≡ Some written =
        put_leads number now tree old plain given (first_or _ _ (ap is_some held.held)) in
        let at : new ≡ record written { terms = lead.after } =
        behind honest_pairs pairs (replacing_changes number now tree) old written new first refl lead in
        subst (TableAgrees honest after) (sym at)
        (agrees_replaced honest table old (record written { terms = lead.after }) agrees refl refl mid after number held.stored
        (made_of number now tree) held.held refl same_now (out_of table old found held mid out)
        (subst (λ n. SetsCount n (count_at mid n + 1) mid after) current into))

-- ---- one that was found is counted out

module _ (honest : Bool) (table : Table) (old : Contents) (agrees : TableAgrees honest table old) (found : FoundDocument)
    (held : IsHeldAs old found) where
  pub is_known : IsSome (policy_at table found.document.policy)
  is_known =
      agrees.known found.document.policy
      (subst (λ n. IsTaken n old) (sym held.policy) (is_taken honest table old agrees found.number held.stored held.held))

  pub is_used : 0 < count_at table found.document.policy
  is_used = subst (λ n. 0 < count_at table n) (sym held.policy) (is_counted honest table old agrees found.number held.stored held.held)

  pub room_for : (mid : Table) → SetsCount found.document.policy (count_at table found.document.policy - 1) table mid
      → (n : ℕ) → count_at mid n < most_documents
  room_for mid out n = room_replaced honest table old agrees mid found.number held.stored held.held (out_of table old found held mid out) n

  pub table_deleted : (honest_pairs : Bool) (pairs : List PairChange) (new : Contents) (after : Table)
      → LeadWith honest_pairs pairs (deleting_changes found.number) old new
      → SetsCount found.document.policy (count_at table found.document.policy - 1) table after → TableAgrees honest after new
  table_deleted honest_pairs pairs new after lead out =
      let number : ℕ = found.number in
      let written : Contents = with_change (change.Gone number) old in
      let at : new ≡ record written { terms = lead.after } =
      behind honest_pairs pairs (deleting_changes number) old written new refl refl lead in
      subst (TableAgrees honest after) (sym at)
      (agrees_deleted honest table old (record written { terms = lead.after }) agrees refl refl after number held.stored held.held refl
      (out_of table old found held after out))
