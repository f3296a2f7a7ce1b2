-- What a look-up has met, and what a write has behind it: the number that was told for an id, and the text under it.
use Rattle.std.proofs.Common.{◌≡◌, ℕ, List, ◌∷◌, [], Option, Some, None, Result, Ok, Err, inl, inr, refl, subst}
use Rattle.std.specs.Prelude.{IfErr, IfSome, OnOk, true, false}
use Rattle.std.specs.FinMap as finite
use Rattle.ax_area.specs.Contents.{Contents, Stored}
use Rattle.ax_index.specs.ById.{IsNumberOf, id_range}
use Rattle.ax_index.specs.Grammar.{AreInGrammar}
use Rattle.ax_pairs.specs.Index.{IsIndex}
use Rattle.ax_pairs.specs.PairSets.{PairSet}
use Rattle.ax_write.specs.Full.{is_full_of}
use Rattle.ax_write.specs.Held.{IsHeld}
use Rattle.ax_write.specs.LookedUp.{TellsIndex}
use Rattle.ax_write.specs.Writes.{Finds, FindsHeld, FindsNone, FullOnly, HasDocument, IsFullExactly, IsLookedUp, IsOfStore, MeetsCreation}
use Rattle.ax_write.specs.Writes.{MeetsHeld, MeetsUpsert}
use Rattle.ax_write.specs.declared.fault.WriteFault.{WriteFault}
use Rattle.ax_write.specs.declared.fault.WriteFault.TheVariants as fault
use Rattle.ax_write.specs.declared.finding.FoundDocument.{FoundDocument}
use Rattle.ax_write.specs.declared.held.HeldDocument.{HeldDocument}

-- what the index answers it tells
pub tells_index : (id : List ℕ) (contents : Contents) (answer found : Option ℕ) → answer ≡ found
    → AreInGrammar (id_range id ∷ []) contents.terms → ((set : PairSet) → IsIndex contents.terms set → IsNumberOf id set answer)
    → TellsIndex id contents found
tells_index id contents answer found same met numbers = record {
  met = met;
  number = λ set index. subst (IsNumberOf id set) same (numbers set index);
}

-- ---- what is under the number

has_document : (stored : Option Stored) (held : HeldDocument) → IsHeld stored (Some held) → HasDocument stored
has_document None held read = absurd read
has_document (Some stored) held read = (held.tree, read.document)

not_there : (stored : Option Stored) → IsHeld stored None → stored ≡ None
not_there None read = refl
not_there (Some stored) read = absurd read

module _ (ids : List (List ℕ × ℕ)) (id : List ℕ) (contents : Contents) (answer : Option ℕ) (told : IsLookedUp ids id contents answer) where
  -- no number was told
  pub finds_none : answer ≡ None → FindsNone ids id contents
  finds_none same = inl (subst (IsLookedUp ids id contents) same told)

  module _ (number : ℕ) (same : answer ≡ Some number) where
    its : IsLookedUp ids id contents (Some number)
    its = subst (IsLookedUp ids id contents) same told

    -- no document has the number 0
    pub finds_zero : number ≡ 0 → FindsNone ids id contents
    finds_zero zero_is = inr (record { number = number; told = its; none = inl zero_is })

    -- the store in which it is read has the same contents
    module _ (mid : Contents) (still : mid ≡ contents) (read : Option HeldDocument)
        (is : IsHeld (finite.get mid.documents number) read) where
      pub finds_held : (held : HeldDocument) → read ≡ Some held → FindsHeld ids id contents
      finds_held held there = record {
        number = number;
        told = its;
        read = subst (λ (c : Contents). HasDocument (finite.get c.documents number)) still
            (has_document (finite.get mid.documents number) held (subst (IsHeld (finite.get mid.documents number)) there is));
      }

      pub finds_unheld : read ≡ None → FindsNone ids id contents
      finds_unheld none = inr (record {
        number = number;
        told = its;
        none = inr (subst (λ (c : Contents). finite.get c.documents number ≡ None) still
            (not_there (finite.get mid.documents number) (subst (IsHeld (finite.get mid.documents number)) none is)));
      })

-- what is read over the same contents is held in them
pub held_still : (contents mid : Contents) (number : ℕ) → mid ≡ contents → (read : Option HeldDocument)
    → IsHeld (finite.get mid.documents number) read → (held : HeldDocument) → read ≡ Some held
    → IsHeld (finite.get contents.documents number) (Some held)
held_still contents mid number still read is held there =
    subst (λ (c : Contents). IsHeld (finite.get c.documents number) (Some held)) still
    (subst (IsHeld (finite.get mid.documents number)) there is)

-- ---- what a write has met

module _ (ids : List (List ℕ × ℕ)) (own id : List ℕ) (contents : Contents) (same : own ≡ id) where
  -- of the number that is told for the bytes of an id
  module _ (answer : Option ℕ) (told : IsLookedUp ids own contents answer) where
    pub meets_conflict : (number : ℕ) → answer ≡ Some number → (n : ℕ) × IsLookedUp ids id contents (Some n)
    meets_conflict number is =
        (number, subst (λ i. IsLookedUp ids i contents (Some number)) same (subst (IsLookedUp ids own contents) is told))

    its_none : answer ≡ None → IsLookedUp ids id contents None
    its_none is = subst (λ i. IsLookedUp ids i contents None) same (subst (IsLookedUp ids own contents) is told)

    pub meets_creation : answer ≡ None → (result : Result (Unit {0}) WriteFault) → IsFullExactly result contents
        → MeetsCreation result ids id contents
    meets_creation is (Ok done) full = (its_none is, full)
    meets_creation is (Err fault.Conflict) full = absurd full
    meets_creation is (Err fault.Absent) full = absurd full
    meets_creation is (Err fault.Full) full = (its_none is, full)
    meets_creation is (Err (fault.Store why)) full = tt

  -- of what is found under it
  module _ (answer : Option FoundDocument) (finds : Finds ids own contents answer) where
    pub found_own : (found : FoundDocument) → answer ≡ Some found → FindsHeld ids id contents
    found_own found is = subst (λ i. FindsHeld ids i contents) same (subst (Finds ids own contents) is finds)

    pub meets_absent : answer ≡ None → FindsNone ids id contents
    meets_absent is = subst (λ i. FindsNone ids i contents) same (subst (Finds ids own contents) is finds)

    pub meets_new : answer ≡ None → (result : Result (Unit {0}) WriteFault) → IsFullExactly result contents → MeetsUpsert result ids id contents
    meets_new is (Ok done) full = inr (meets_absent is, full)
    meets_new is (Err fault.Conflict) full = absurd full
    meets_new is (Err fault.Absent) full = absurd full
    meets_new is (Err fault.Full) full = (meets_absent is, full)
    meets_new is (Err (fault.Store why)) full = tt

    pub meets_exchanged : (found : FoundDocument) → answer ≡ Some found → (result : Result (Unit {0}) WriteFault) → IfErr result IsOfStore
        → MeetsUpsert result ids id contents
    meets_exchanged found is (Ok done) only = inl (found_own found is)
    meets_exchanged found is (Err fault.Conflict) only = absurd only
    meets_exchanged found is (Err fault.Absent) only = absurd only
    meets_exchanged found is (Err fault.Full) only = absurd only
    meets_exchanged found is (Err (fault.Store why)) only = tt

    pub meets_held : (found : FoundDocument) → answer ≡ Some found → (result : Result (Unit {0}) WriteFault) → IfErr result IsOfStore
        → MeetsHeld result ids id contents
    meets_held found is (Ok done) only = found_own found is
    meets_held found is (Err fault.Conflict) only = absurd only
    meets_held found is (Err fault.Absent) only = absurd only
    meets_held found is (Err fault.Full) only = absurd only
    meets_held found is (Err (fault.Store why)) only = tt

-- ---- what is known of the number, and of the contents, behind a look-up

-- the number of what was found was told
pub told_found : (ids : List (List ℕ × ℕ)) (own id : List ℕ) (contents : Contents) → own ≡ id → (answer : Option FoundDocument) (found : FoundDocument)
    → answer ≡ Some found → IfSome answer (λ (f : FoundDocument). IsLookedUp ids own contents (Some f.number))
    → IsLookedUp ids id contents (Some found.number)
told_found ids own id contents same answer found is told =
    subst (λ (i : List ℕ). IsLookedUp ids i contents (Some found.number)) same
    (subst (λ (a : Option FoundDocument). IfSome a (λ (f : FoundDocument). IsLookedUp ids own contents (Some f.number))) is told)

-- the look-up left the contents as they were
pub full_over : (before mid : Contents) → mid ≡ before → (result : Result (Unit {0}) WriteFault) → IsFullExactly result mid
    → IsFullExactly result before
full_over before mid same result = subst (IsFullExactly result) same

-- ---- when none can be created

pub full_told : (contents : Contents) (result : Result (Unit {0}) WriteFault) → IsFullExactly result contents → FullOnly result contents
full_told contents (Ok done) is = tt
full_told contents (Err fault.Conflict) is = tt
full_told contents (Err fault.Absent) is = tt
full_told contents (Err fault.Full) is = is
full_told contents (Err (fault.Store why)) is = tt

pub made_told : (contents : Contents) (result : Result (Unit {0}) WriteFault) → IsFullExactly result contents
    → OnOk result (is_full_of contents ≡ false)
made_told contents (Ok done) is = is
made_told contents (Err why) is = tt

pub full_of_store : (contents : Contents) (result : Result (Unit {0}) WriteFault) → IfErr result IsOfStore → FullOnly result contents
full_of_store contents (Ok done) only = tt
full_of_store contents (Err fault.Conflict) only = tt
full_of_store contents (Err fault.Absent) only = tt
full_of_store contents (Err fault.Full) only = absurd only
full_of_store contents (Err (fault.Store why)) only = tt
