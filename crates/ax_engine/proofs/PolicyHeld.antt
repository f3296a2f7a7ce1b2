-- The policy that the table of open documents has now is the one of the container that they hold.
use Rattle.std.proofs.Common.{◌≡◌, Bool, Option, Some, None, inl, refl, subst, ap, sym, ◌∙◌}
use Rattle.std.specs.Option.{unwrap_or}
use Rattle.std.specs.Prelude.{IsSome, IsTrue}
use Rattle.ax_area.specs.Contents.{Contents}
use Rattle.ax_cache.specs.Pages.{CachedPages}
use Rattle.ax_container.specs.Container.{Container}
use Rattle.ax_disk.specs.model.Moments.{History}
use Rattle.ax_image_grammar.specs.Payloads.{IsTextOf}
use Rattle.ax_image_grammar.specs.Table.{policy_text}
use Rattle.ax_image_grammar.proofs.OneContainer.{same_policy}
use Rattle.ax_policy.specs.Default.{default_policy}
use Rattle.ax_policy.specs.Table.{Table, policy_at}
use Rattle.ax_policy.specs.declared.policy.Policy.{Policy}
use Rattle.ax_store.specs.Store.{store_contents}
use Rattle.ax_table.specs.TableAgrees.{TableAgrees}
use Rattle.ax_needs_laws.proofs.Just.{just_in_use, now_taken}
use Rattle.ax_skips.proofs.FewNumbers.{few_numbers}
use Rattle.ax_skips.proofs.InUse.{all_in_use}
use Rattle.ax_skips.specs.Planned.{AreInUse, HasFewNumbers}
use Rattle.ax_write.specs.Writes.{SamePolicies}
use Rattle.ax_documents.specs.Documents.{DocumentsHold, DocumentsWork}
use Rattle.ax_documents.specs.declared.documents.Documents.{Documents}
use Rattle.ax_engine.specs.Candidates.{HasJustPolicies}
use Rattle.ax_engine.specs.PolicyNow.{policy_now}

found_is : (found : Option Policy) (policy : Policy) → IsSome found → ((there : Policy) → found ≡ Some there → there ≡ policy)
    → unwrap_or found default_policy ≡ policy
found_is (Some there) policy some is = is there refl
found_is None policy some is = absurd cc

agrees_now : (honest : Bool) (table : Table) (contents : Contents) (policy : Policy) → TableAgrees honest table contents → IsTrue honest
    → IsTextOf (policy_text contents.policy_now contents) policy → policy_now table ≡ policy
agrees_now honest table contents policy agrees trusted text =
    found_is (policy_at table table.current) policy (agrees.known table.current (inl agrees.now))
    (λ there is. same_policy (policy_text contents.policy_now contents) there policy
    (subst (λ n. IsTextOf (policy_text n contents) there) agrees.now (agrees.texts trusted table.current there is)) text)

pub policy_held : {C : Type 0} (pages : C → CachedPages) (honest : Bool) (documents : Documents C) (history : History)
    (container : Container) → DocumentsWork pages honest documents history → DocumentsHold documents container → IsTrue honest
    → policy_now documents.table ≡ container.policy
policy_held pages honest documents history container works holds trusted =
    agrees_now honest documents.table (store_contents documents.store) container.policy works.table trusted
    holds.contents.documents.show.policy

-- ---- the policies in use

module _ {C : Type 0} (pages : C → CachedPages) (honest : Bool) (documents : Documents C) (history : History)
    (container : Container) (works : DocumentsWork pages honest documents history) (holds : DocumentsHold documents container)
    (trusted : IsTrue honest) where
  few : HasFewNumbers documents.table
  few = few_numbers pages documents.store history honest documents.table (works.agrees trusted) works.table

  -- those of all documents are in use in the table
  pub all_used : AreInUse documents.table container
  all_used = all_in_use honest trusted documents.table (store_contents documents.store) few works.table container holds.contents.documents

  -- and these alone, with the one now
  pub just_policies : HasJustPolicies documents.table container
  just_policies = record {
    used = all_used;
    just = just_in_use honest trusted documents.table (store_contents documents.store) container works.table holds.contents.documents;
    now = now_taken honest trusted documents.table (store_contents documents.store) container works.table holds.contents.documents few;
    policies = works.table.policies;
  }

-- ---- tables with the same policies

pub same_policies : (table : Table) → SamePolicies table table
same_policies table = record { policies = λ number. refl; current = refl; moved = refl }

pub unchanged : (old new : Table) → new ≡ old → SamePolicies old new
unchanged old new same = subst (SamePolicies old) (sym same) (same_policies old)

pub same_now : (old new : Table) → SamePolicies old new → policy_now new ≡ policy_now old
same_now old new same =
    ap (λ found. unwrap_or found default_policy) (same.policies new.current ∙ ap (policy_at old) same.current)
