-- A table that agrees with the contents of a store has just those policies in use or now that their container has.
use Rattle.std.proofs.Common.{◌≡◌, ℕ, ◌+◌, ◌<◌, List, [], ◌∷◌, map, Bool, true, false, cond, Option, Some, None}
use Rattle.std.proofs.Common.{inl, ⊎_elim, nat_eq, refl, sym, ap, subst, ◌∙◌, arith}
use Rattle.std.specs.Prelude.{IsSome, IsTrue, ◌==◌, count_by, nat_lt}
use Rattle.std.proofs.lemmas.Bool.{eq-eqb, eqb-true, ltb-true, or_cases, or_right}
use Rattle.std.proofs.lemmas.List.Sums.{sum_by-cons}
use Rattle.std.specs.FinMap as finite
use Rattle.std.specs.List.{Contains}
use Rattle.ax_area.specs.Contents.{Contents, Stored}
use Rattle.ax_container.specs.Container.{Container, Entry}
use Rattle.ax_image.specs.Documents.{ContentsHold}
use Rattle.ax_image.specs.StandsFor.{AreUnder}
use Rattle.ax_image_grammar.specs.Payloads.{IsTextOf}
use Rattle.ax_image_grammar.specs.Table.{policy_text}
use Rattle.ax_image_grammar.proofs.OneContainer.{same_policy}
use Rattle.ax_policy.specs.Table.{Table, count_at, policy_at}
use Rattle.ax_policy.specs.declared.policy.Policy.{Policy}
use Rattle.ax_table.specs.TableAgrees.{TableAgrees, is_under}
use Rattle.ax_terms.proofs.Sequences.{contains_first, contains_later, contains_map}
use Rattle.ax_plan.specs.Taken.{IsTaken}
use Rattle.ax_skips.specs.Planned.{HasFewNumbers}
use Rattle.ax_needs.specs.Needs.{policies_of}
use Rattle.ax_needs_laws.specs.Just.{AreJustInUse}

-- ---- a number that documents are under

-- an entry whose policy is that of the text of the number
abbrev OfNumber : (ℕ → List ℕ) → ℕ → List Entry → Type 0
OfNumber texts number es = (e : Entry) × Contains es e × IsTextOf (texts number) e.indexed_by

entry_of_number : (texts : ℕ → List ℕ) (number : ℕ) (documents : List (ℕ × Stored)) (es : List Entry)
    → AreUnder texts documents es → 0 < count_by (is_under number) documents → OfNumber texts number es
entry_of_number texts number [] [] under some = absurd (omega (arith, some))
entry_of_number texts number [] (e ∷ es) under some = absurd under
entry_of_number texts number (d ∷ ds) [] under some = absurd under
entry_of_number texts number (d ∷ ds) (e ∷ es) under some =
    elim (d.1.policy == number) as
    (λ b. (d.1.policy == number) ≡ b → OfNumber texts number (e ∷ es)) [
      | true ↦ λ is. (
        e,
        contains_first e es,
        subst (λ n. IsTextOf (texts n) e.indexed_by) (eqb-true d.1.policy number is) under.0,
      )
      | false ↦ λ is.
          let split : count_by (is_under number) (d ∷ ds) ≡ cond (d.1.policy == number) 1 0 + count_by (is_under number) ds =
          sum_by-cons (λ (x : ℕ × Stored). cond (is_under number x) 1 0) d ds in
          let none : cond {A = ℕ} (d.1.policy == number) 1 0 ≡ 0 = ap (λ b. cond {A = ℕ} b 1 0) is in
          let more = entry_of_number texts number ds es under.1 (omega (arith, some, split, none)) in
          (more.0, contains_later e es more.0 more.1, more.2)
    ] refl

module _ (honest : Bool) (trusted : IsTrue honest) (table : Table) (contents : Contents) (container : Container)
    (agrees : TableAgrees honest table contents) (hold : ContentsHold contents container) where
  abbrev texts : ℕ → List ℕ
  texts number = policy_text number contents

  -- the policy of the text of the number is the one that the table has there
  of_text : (number : ℕ) (policy own : Policy) → policy_at table number ≡ Some policy → IsTextOf (texts number) own
      → own ≡ policy
  of_text number policy own at text =
      same_policy (texts number) own policy text (agrees.texts trusted number policy at)

  in_use : (number : ℕ) (policy : Policy) → policy_at table number ≡ Some policy → nat_lt 0 (count_at table number) ≡ true
      → Contains (policies_of container) policy
  in_use number policy at some =
      let counted : 0 < count_at table number = ltb-true 0 (count_at table number) some in
      let of = entry_of_number texts number (finite.entries contents.documents) container.entries hold.show.under
      (subst (λ n. 0 < n) (agrees.counts number) counted) in
      subst (Contains (policies_of container)) (of_text number policy of.0.indexed_by at of.2)
      (contains_later container.policy (map (λ (entry : Entry). entry.indexed_by) container.entries) of.0.indexed_by
      (contains_map (λ (entry : Entry). entry.indexed_by) container.entries of.0 of.1))

  now : (number : ℕ) (policy : Policy) → policy_at table number ≡ Some policy → number ≡ table.current
      → Contains (policies_of container) policy
  now number policy at is =
      let text : IsTextOf (texts number) container.policy =
      subst (λ n. IsTextOf (texts n) container.policy) (sym (is ∙ agrees.now)) hold.show.policy in
      subst (Contains (policies_of container)) (of_text number policy container.policy at text)
      (contains_first container.policy (map (λ (entry : Entry). entry.indexed_by) container.entries))

  pub just_in_use : AreJustInUse table container
  just_in_use policy own =
      ⊎_elim {C = Contains (policies_of container) policy}
      (λ (some : nat_lt 0 (count_at table own.number) ≡ true). in_use own.number policy own.stands some)
      (λ (is : (own.number == table.current) ≡ true).
      now own.number policy own.stands (eqb-true own.number table.current is))
      (or_cases (nat_lt 0 (count_at table own.number)) (own.number == table.current) own.taken)

  stands : (o : Option Policy) → policy_at table table.current ≡ o → IsSome o
      → policy_at table table.current ≡ Some container.policy
  stands None at some = absurd (let e : ⊥ = cc in e)
  stands (Some policy) at some =
      let text : IsTextOf (texts table.current) container.policy =
      subst (λ n. IsTextOf (texts n) container.policy) (sym agrees.now) hold.show.policy in
      at ∙ ap (λ (p : Policy). Some p) (sym (of_text table.current policy container.policy at text))

  pub now_taken : HasFewNumbers table → IsTaken table container.policy
  now_taken few =
      let at : policy_at table table.current ≡ Some container.policy =
      stands (policy_at table table.current) refl (agrees.known table.current (inl agrees.now)) in
      record {
        number = table.current;
        last = few table.current container.policy at;
        taken =
            or_right (nat_lt 0 (count_at table table.current)) (table.current == table.current)
            (eq-eqb table.current table.current refl);
        stands = at;
      }
