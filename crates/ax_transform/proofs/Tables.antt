-- The table of policies agrees with the contents after a policy was made the one now.
use Rattle.std.proofs.Common.{◌≡◌, ◌⊎◌, inl, inr, ⊎_elim, ℕ, ◌≤◌, Bool, true, false, List, Option, Some, refl, sym, ap, subst, ◌∙◌, arith}
use Rattle.std.specs.Prelude.{◌≢◌, ◌||◌, ◌==◌, IsSome, IsTrue, is_some}
use Rattle.std.specs.FinMap as map
use Rattle.std.specs.Option.{unwrap_or}
use Rattle.std.specs.Ordering.{nat_cmp}
use Rattle.std.proofs.lemmas.Bool.{cases_eq}
use Rattle.ax_area.proofs.OneTelling.{same_some}
use Rattle.ax_area.specs.Contents.{Contents, Stored, is_given}
use Rattle.ax_image_grammar.specs.Payloads.{IsTextOf}
use Rattle.ax_image_grammar.specs.Table.{IsTaken, policy_text}
use Rattle.ax_pages.proofs.LastPart.{get_inserted, get_not_inserted}
use Rattle.ax_pages.specs.AfterPart.{most_documents}
use Rattle.ax_policy.specs.Default.{default_policy}
use Rattle.ax_policy.specs.Normal.{normal_text, normal_tree}
use Rattle.ax_policy.specs.Policies.{policy_of}
use Rattle.ax_policy.specs.Table.{AreApart, SetsNow, Table, number_for, policy_at}
use Rattle.ax_policy.specs.declared.policy.Policy.{Policy}
use Rattle.ax_table.specs.TableAgrees.{TableAgrees, documents_under}
use Rattle.ax_transform.specs.Parts.{is_written}
use Rattle.ax_transform.proofs.Numbers.{written_has}
use Rattle.ax_transform.proofs.Said.{given_by, set_in}

module _ (honest : Bool) (table : Table) (contents : Contents) (agrees : TableAgrees honest table contents) (policy : Policy)
    (of : IsTextOf (normal_text policy) policy) (number next : ℕ) where
  -- a number whose text stands in the table was given
  pub written_given : is_written policy table number ≡ true → is_given number contents ≡ true
  written_given written =
      let own = written_has policy (policy_at table number) written in
      agrees.only_given number own.0 own.1

  -- ---- what is given, and texts

  pub now_given : (has : Bool) → is_written policy table number ≡ has → is_given number (set_in has next number policy contents) ≡ true
  now_given true written = written_given written
  now_given false written = given_by number (normal_text policy) contents

  others_given : (has : Bool) (n : ℕ) → n ≢ number → is_given n (set_in has next number policy contents) ≡ is_given n contents
  others_given true n apart = refl
  others_given false n apart =
      ap (λ (found : Option (List ℕ)). (n == 0) || is_some found) (get_not_inserted contents.policies number n (normal_text policy) apart)

  pub others_text : (has : Bool) (n : ℕ) → n ≢ number → policy_text n (set_in has next number policy contents) ≡ policy_text n contents
  others_text true n apart = refl
  others_text false n apart =
      ap (λ found. unwrap_or found (normal_text default_policy)) (get_not_inserted contents.policies number n (normal_text policy) apart)

  pub now_text : IsTrue honest → (has : Bool) → is_written policy table number ≡ has
      → IsTextOf (policy_text number (set_in has next number policy contents)) policy
  now_text trusted true written =
      let own = written_has policy (policy_at table number) written in
      let there = agrees.texts trusted number own.0 own.1 in
      let same : policy_text number contents ≡ normal_text policy = there.spelled ∙ own.2 in
      subst (λ text. IsTextOf text policy) (sym same) of
  now_text trusted false written =
      subst (λ text. IsTextOf text policy)
      (sym (ap (λ found. unwrap_or found (normal_text default_policy)) (get_inserted contents.policies number (normal_text policy)))) of

  -- ---- the table

  module _ (has : Bool) (written : is_written policy table number ≡ has) (after : Table) (sets : SetsNow policy table after)
      (given : number_for policy table ≡ Some number) (apart : AreApart after) where
    abbrev new : Contents
    new = set_in has next number policy contents

    now_is : after.current ≡ number
    now_is = same_some after.current number (sym sets.number ∙ given)

    documents_are : (c : Bool) → (set_in c next number policy contents).documents ≡ contents.documents
    documents_are true = refl
    documents_are false = refl

    policy_now_is : (c : Bool) → (set_in c next number policy contents).policy_now ≡ number
    policy_now_is true = refl
    policy_now_is false = refl

    stands : policy_at after number ≡ Some policy
    stands = ap (policy_at after) (sym now_is) ∙ sets.stands

    others : (n : ℕ) → n ≢ number → policy_at after n ≡ policy_at table n
    others n different = sets.others n (λ same. different (same ∙ now_is))

    one_policy : (n : ℕ) (own : Policy) → n ≡ number → policy_at after n ≡ Some own → policy ≡ own
    one_policy n own same is = same_some policy own (sym stands ∙ ap (policy_at after) (sym same) ∙ is)

    used_before : (n : ℕ) → IsTaken n new → (n ≡ number) ⊎ IsTaken n contents
    used_before n (inl is) = inl (is ∙ policy_now_is has)
    used_before n (inr used) = inr (inr (record {
      number = used.number;
      document = used.document;
      held = sym (ap (λ documents. map.get documents used.number) (documents_are has)) ∙ used.held;
      indexed_by = used.indexed_by;
    }))

    is_there : (found : Option Policy) (own : Policy) → found ≡ Some own → IsSome found
    is_there found own is = subst IsSome (sym is) refl

    known : (n : ℕ) → IsTaken n new → IsSome (policy_at after n)
    known n taken =
        ⊎_elim
        (λ (same : n ≡ number). is_there (policy_at after n) policy (ap (policy_at after) same ∙ stands))
        (λ (different : n ≡ number → ⊥).
        ⊎_elim (λ (same : n ≡ number). absurd (different same))
        (λ (before : IsTaken n contents). subst IsSome (sym (others n different)) (agrees.known n before))
        (used_before n taken))
        (cases_eq n number)

    policies : (n : ℕ) (own : Policy) → policy_at after n ≡ Some own → policy_of (normal_tree own) ≡ Some own
    policies n own is =
        ⊎_elim
        (λ (same : n ≡ number). subst (λ (p : Policy). policy_of (normal_tree p) ≡ Some p) (one_policy n own same is) of.is_policy)
        (λ (different : n ≡ number → ⊥). agrees.policies n own (sym (others n different) ∙ is))
        (cases_eq n number)

    only_given : (n : ℕ) (own : Policy) → policy_at after n ≡ Some own → is_given n new ≡ true
    only_given n own is =
        ⊎_elim
        (λ (same : n ≡ number). ap (λ m. is_given m new) same ∙ now_given has written)
        (λ (different : n ≡ number → ⊥). others_given has n different ∙ agrees.only_given n own (sym (others n different) ∙ is))
        (cases_eq n number)

    texts : IsTrue honest → (n : ℕ) (own : Policy) → policy_at after n ≡ Some own → IsTextOf (policy_text n new) own
    texts trusted n own is =
        ⊎_elim
        (λ (same : n ≡ number).
        subst (IsTextOf (policy_text n new)) (one_policy n own same is)
        (subst (λ m. IsTextOf (policy_text m new) policy) (sym same) (now_text trusted has written)))
        (λ (different : n ≡ number → ⊥).
        subst (λ text. IsTextOf text own) (sym (others_text has n different)) (agrees.texts trusted n own (sym (others n different) ∙ is)))
        (cases_eq n number)

    pub table_set : TableAgrees honest after new
    table_set = record {
      now = now_is ∙ sym (policy_now_is has);
      given = ap (λ n. is_given n new) (policy_now_is has) ∙ now_given has written;
      known = known;
      policies = policies;
      apart = apart;
      only_given = only_given;
      texts = texts;
      counts = λ n. sets.counts n ∙ agrees.counts n ∙ sym (counted n has);
      moved = λ n document below held. absurd (omega (arith, below, sets.moved));
      few = subst (λ (documents : map.FinMap nat_cmp Stored). map.len documents ≤ most_documents) (sym (documents_are has)) agrees.few;
    }
      where
        counted : (n : ℕ) (c : Bool) → documents_under n (set_in c next number policy contents) ≡ documents_under n contents
        counted n true = refl
        counted n false = refl
