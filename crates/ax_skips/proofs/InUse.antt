-- A table that agrees with the contents of a store has all policies in use under which documents have their terms.
use Rattle.std.proofs.Common.{◌≡◌, ℕ, zero, suc, ◌<◌, ◌≤◌, List, [], ◌∷◌, Bool, Option, Some, None}
use Rattle.std.proofs.Common.{inl, inr, refl, sym, ap, subst, ◌∙◌, arith}
use Rattle.std.specs.Prelude.{◌≢◌, IsSome, IsTrue, nat_lt, if◌then◌else◌}
use Rattle.std.proofs.lemmas.Bool.{cases_lt, lt-ltb, or_left}
use Rattle.std.proofs.lemmas.List.{get_or_past}
use Rattle.std.specs.FinMap as finite
use Rattle.std.specs.List.{Contains}
use Rattle.std.specs.Ordering.{eq_by_cmp, nat_cmp}
use Rattle.ax_area.specs.Contents.{Contents, Stored}
use Rattle.ax_container.specs.Container.{Container, Entry, NumbersRise}
use Rattle.ax_image.specs.Documents.{ContentsHold}
use Rattle.ax_image.specs.StandsFor.{AreUnder, ShowEntries}
use Rattle.ax_image_grammar.specs.Payloads.{IsTextOf}
use Rattle.ax_image_grammar.specs.Table.{policy_text}
use Rattle.ax_image_grammar.proofs.OneContainer.{same_policy}
use Rattle.ax_pages.proofs.LastPart.{other_number, same_number}
use Rattle.ax_policy.specs.Table.{IsTable, Table, count_at, no_slot, policy_at}
use Rattle.ax_policy.specs.declared.policy.Policy.{Policy}
use Rattle.ax_policy.specs.declared.slot.Slot.{Slot}
use Rattle.ax_table.specs.TableAgrees.{TableAgrees}
use Rattle.ax_table.proofs.Agreeing as agreeing
use Rattle.ax_plan.specs.Taken.{IsTaken}
use Rattle.ax_skips.specs.Planned.{AreInUse, HasFewNumbers}

-- ---- the document of an entry

above : (es : List Entry) (before next : ℕ) (e : Entry) → NumbersRise before es next → Contains es e → before < e.number
above [] before next e rise (k, less, is) = absurd (omega (arith, less))
above (x ∷ es) before next e rise (zero, less, is) = subst (λ (y : Entry). before < y.number) is rise.0
above (x ∷ es) before next e rise (suc k, less, is) =
    let more : x.number < e.number = above es x.number next e rise.1 (k, omega (arith, less), is) in
    omega (arith, rise.0)

-- the document of the entry's number is under a number whose text is that of the entry's policy
record Under (texts : ℕ → List ℕ) (documents : List (ℕ × Stored)) (e : Entry) : Type 0 where
  document : Stored
  held : finite.find nat_cmp e.number documents ≡ Some document
  under : IsTextOf (texts document.policy) e.indexed_by

under_of : (texts : ℕ → List ℕ) (documents : List (ℕ × Stored)) (es : List Entry) (before next : ℕ) (e : Entry)
    → NumbersRise before es next → ShowEntries documents es → AreUnder texts documents es → Contains es e
    → Under texts documents e
under_of texts [] [] before next e rise shown under (k, less, is) = absurd (omega (arith, less))
under_of texts [] (x ∷ es) before next e rise shown under there = absurd shown
under_of texts (p ∷ ps) [] before next e rise shown under there = absurd shown
under_of texts (p ∷ ps) (x ∷ es) before next e rise shown under (zero, less, is) =
    let at : e.number ≡ p.0 = ap (λ (y : Entry). y.number) (sym is) ∙ sym shown.0.number_is in
    record {
      document = p.1;
      held =
          ap (λ b. if b then Some p.1 else finite.find nat_cmp e.number ps)
          (ap (eq_by_cmp nat_cmp e.number) (sym at) ∙ same_number e.number);
      under = subst (λ (y : Entry). IsTextOf (texts p.1.policy) y.indexed_by) is under.0;
    }
under_of texts (p ∷ ps) (x ∷ es) before next e rise shown under (suc k, less, is) =
    let later : Contains es e = (k, omega (arith, less), is) in
    let more : Under texts ps e = under_of texts ps es x.number next e rise.1 shown.1 under.1 later in
    let low : x.number < e.number = above es x.number next e rise.1 later in
    let apart : e.number ≢ p.0 = omega (arith, low, shown.0.number_is) in
    record {
      document = more.document;
      held =
          ap (λ b. if b then Some p.1 else finite.find nat_cmp e.number ps) (other_number e.number p.0 apart) ∙ more.held;
      under = more.under;
    }

-- ---- numbers of policies

pub none_past : (table : Table) → IsTable table → HasFewNumbers table
none_past table is number policy at =
    elim (cases_lt number 9) as (λ _. number ≤ 8) [
      | inl low ↦ omega (arith, low)
      | inr high ↦
          let none : policy_at table number ≡ None =
          ap (λ (slot : Slot). slot.policy) (get_or_past table.slots number no_slot (omega (arith, is.nine, high))) in
          absurd (let e : ⊥ = cc in e)
    ]

module _ (honest : Bool) (trusted : IsTrue honest) (table : Table) (contents : Contents) (few : HasFewNumbers table)
    (agrees : TableAgrees honest table contents) where
  stands : (number : ℕ) (own : Policy) → IsTextOf (policy_text number contents) own → (o : Option Policy)
      → policy_at table number ≡ o → IsSome o → policy_at table number ≡ Some own
  stands number own text None at some = absurd (let e : ⊥ = cc in e)
  stands number own text (Some policy) at some =
      at ∙ ap (λ (p : Policy). Some p) (same_policy (policy_text number contents) policy own (agrees.texts trusted number policy at) text)

  taken : (e : Entry) → Under (λ number. policy_text number contents) (finite.entries contents.documents) e
      → IsTaken table e.indexed_by
  taken e own =
      let number : ℕ = own.document.policy in
      let held : finite.get contents.documents e.number ≡ Some own.document =
      finite.get-entries contents.documents e.number ∙ own.held in
      let at : policy_at table number ≡ Some e.indexed_by =
      stands number e.indexed_by own.under (policy_at table number) refl
      (agrees.known number (agreeing.is_taken honest table contents agrees e.number own.document held)) in
      record {
        number = number;
        last = few number e.indexed_by at;
        taken =
            or_left (nat_lt 0 (count_at table number)) _
            (lt-ltb 0 (count_at table number) (agreeing.is_counted honest table contents agrees e.number own.document held));
        stands = at;
      }

  pub all_in_use : (container : Container) → ContentsHold contents container → AreInUse table container
  all_in_use container hold entry there =
      taken entry (under_of (λ number. policy_text number contents) (finite.entries contents.documents) container.entries 0
      container.next_number entry hold.show.sound.numbers hold.show.shown hold.show.under there)
