-- The number of an id and the document that was found under it; and that a store which holds a container is not damaged.
use Rattle.std.proofs.Common.{◌≡◌, ℕ, ◌<◌, true, false, cond, List, [], ◌∷◌, find, Option, Some, None, Ok, Err, refl, sym, ap}
use Rattle.std.proofs.Common.{subst, ◌∙◌, ◌⊎◌, inl, inr, ⊎_elim, arith, is_some}
use Rattle.std.specs.Prelude.{◌≢◌, if◌then◌else◌, option_map}
use Rattle.std.specs.FinMap as finite
use Rattle.std.specs.List.{AllByRecursion, Contains}
use Rattle.std.specs.Ordering.{eq_by_cmp, nat_cmp}
use Rattle.ax_area.specs.Contents.{Contents, Stored}
use Rattle.ax_container.proofs.ByNumber.{found_above, same_some}
use Rattle.ax_container.proofs.Refusing.{conflicts, exchange_absent, exchange_made, removal_absent, removal_made, upsert_exchanges}
use Rattle.ax_container.proofs.Writing.{entry_there}
use Rattle.ax_container.specs.Container.{Container, Entry, IsSound, IsStored, contains, entry_of, has_id}
use Rattle.ax_container.specs.Writes.{Absent, Conflict, creation, deleted, exchanged, inserted, removed, replaced, upserted}
use Rattle.ax_image.proofs.Shown.{text_there}
use Rattle.ax_image.proofs.Writing.{any_found}
use Rattle.ax_image.specs.Documents.{ContentsHold}
use Rattle.ax_image.specs.StandsFor.{ShowEntries}
use Rattle.ax_image_pairs.proofs.Finding.{number_by_contents}
use Rattle.ax_image_pairs.specs.Found.{HasNumber, number_in}
use Rattle.ax_image_pairs.specs.Indexed.{ContentsHoldAll}
use Rattle.ax_index.specs.ById.{IsNumberOf}
use Rattle.ax_storable.specs.StoredTexts.{IsStoredText}
use Rattle.ax_pairs.specs.Index.{IsIndex}
use Rattle.ax_pairs.specs.PairSets.{PairSet}
use Rattle.ax_store.specs.Store.{store_contents}
use Rattle.ax_store.specs.declared.fault.StoreFault.TheVariants.{Damaged}
use Rattle.ax_store.specs.declared.store.Store.{Store}
use Rattle.ax_tree.proofs.Fitting.{numbers_fit-well_formed}
use Rattle.ax_tree.proofs.OneText.{one_text}
use Rattle.ax_tree.specs.CanonicalText.{canonical_text}
use Rattle.ax_tree.specs.Document.{document_id}
use Rattle.ax_tree.specs.declared.tree.Tree.{Tree}
use Rattle.ax_write.proofs.Unspoiled.{never_spoiled}
use Rattle.ax_write.specs.Held.{HasNone, IsHeld}
use Rattle.ax_write.specs.Writes.{HoldsAll, IsFoundIn, TellsDamage}
use Rattle.ax_write.specs.declared.finding.FoundDocument.{FoundDocument}
use Rattle.ax_write.specs.declared.held.HeldDocument.{HeldDocument}

-- ---- the number of an id

-- what the index answers is the number
pub by_index : {C : Type 0} (store : Store C) (ids : List (List ℕ × ℕ)) (before : Container) (id : List ℕ) (answer found : Option ℕ)
    → answer ≡ found → HoldsAll store ids before → ((set : PairSet) → IsIndex (store_contents store).terms set → IsNumberOf id set answer)
    → found ≡ number_in id before
by_index store ids before id answer found same holds numbers =
    let set = holds.contents.pairs.set in
    let index = holds.contents.pairs.is in
    sym same ∙ number_by_contents (store_contents store) before set id answer holds.contents index (has_number id set answer (numbers set index))
  where
    has_number : (id : List ℕ) (set : PairSet) (found : Option ℕ) → IsNumberOf id set found → HasNumber set id found
    has_number id set None is = is
    has_number id set (Some number) is = is.0

-- an id that is held, and one that is not
pub number_there : (id : List ℕ) (before : Container) (number : ℕ) → Some number ≡ number_in id before
    → (entry : Entry) × (entry_of id before ≡ Some entry) × (number ≡ entry.number)
number_there id before number is = by_entry (entry_of id before) is
  where
    by_entry : (o : Option Entry) → Some number ≡ option_map (λ (entry : Entry). entry.number) o → (entry : Entry) × (o ≡ Some entry) × (number ≡ entry.number)
    by_entry None at = absurd cc
    by_entry (Some entry) at = (entry, refl, same_some number entry.number at)

pub number_absent : (id : List ℕ) (before : Container) → None ≡ number_in id before → entry_of id before ≡ None
number_absent id before is = by_entry (entry_of id before) is
  where
    by_entry : (o : Option Entry) → None ≡ option_map (λ (entry : Entry). entry.number) o → o ≡ None
    by_entry None at = refl
    by_entry (Some entry) at = absurd cc

pub id_held : (id : List ℕ) (before : Container) (entry : Entry) → entry_of id before ≡ Some entry → contains id before ≡ true
id_held id before entry is = any_found id before.entries ∙ ap is_some is

pub id_absent : (id : List ℕ) (before : Container) → entry_of id before ≡ None → contains id before ≡ false
id_absent id before none = any_found id before.entries ∙ ap is_some none

-- no number is that of an id that is not held
pub never_absent : (id : List ℕ) (before : Container) (number : ℕ) → Some number ≡ number_in id before → contains id before ≡ false → ⊥
never_absent id before number is absent =
    let there = number_there id before number is in
    let held : contains id before ≡ true = id_held id before there.0 there.1 in
    absurd cc

-- what was found, where it is answered
pub found_is : (id : List ℕ) (before : Container) (answer : Option FoundDocument) (found : FoundDocument) → answer ≡ Some found
    → IsFoundIn id before answer → IsFoundIn id before (Some found)
found_is id before answer found same is = subst (IsFoundIn id before) same is

pub none_is : (id : List ℕ) (before : Container) (answer : Option FoundDocument) → answer ≡ None → IsFoundIn id before answer
    → entry_of id before ≡ None
none_is id before answer same is = subst (IsFoundIn id before) same is

-- ---- what each write makes, by what is found

-- the id of a document, as its bytes were taken
pub own_id : (tree : Tree) (text bytes id : List ℕ) → Some text ≡ document_id tree → bytes ≡ text → document_id tree ≡ Some id → bytes ≡ id
own_id tree text bytes id own same is = same ∙ same_some text id (own ∙ is)

pub own_document : (tree : Tree) (text bytes : List ℕ) → Some text ≡ document_id tree → bytes ≡ text → document_id tree ≡ Some bytes
own_document tree text bytes own same = sym own ∙ ap (λ (i : List ℕ). Some i) (sym same)

module _ (tree : Tree) (before : Container) (own id : List ℕ) (same : own ≡ id) where
  held_same : (entry : Entry) → entry_of own before ≡ Some entry → contains id before ≡ true
  held_same entry is = ap (λ i. contains i before) (sym same) ∙ id_held own before entry is

  absent_same : entry_of own before ≡ None → contains id before ≡ false
  absent_same none = ap (λ i. contains i before) (sym same) ∙ id_absent own before none

  pub never_both : entry_of own before ≡ None → contains id before ≡ true → ⊥
  never_both none held = let absent : contains id before ≡ false = absent_same none in absurd cc

  pub conflict_is : (number : ℕ) → Some number ≡ number_in own before → inserted id tree before ≡ Err Conflict
  conflict_is number is =
      let there = number_there own before number is in
      conflicts id tree before (held_same there.0 there.1)

  pub insertion_is : entry_of own before ≡ None → creation own tree before ≡ inserted id tree before
  insertion_is none =
      ap (λ i. creation i tree before) same
      ∙ sym (ap (λ b. if b then Err Conflict else creation id tree before) (absent_same none))

  pub upsert_is : entry_of own before ≡ None → creation own tree before ≡ upserted id tree before
  upsert_is none =
      ap (λ i. creation i tree before) same
      ∙ sym (ap (λ b. if b then Ok (replaced id tree before) else creation id tree before) (absent_same none))

  pub upsert_replaces : (found : FoundDocument) → IsFoundIn own before (Some found) → Ok (replaced own tree before) ≡ upserted id tree before
  upsert_replaces found is =
      ap (λ i. Ok (replaced i tree before)) same ∙ sym (upsert_exchanges id tree before (held_same is.0 is.1))

  pub exchange_is : (found : FoundDocument) → IsFoundIn own before (Some found) → Ok (replaced own tree before) ≡ exchanged id tree before
  exchange_is found is =
      ap (λ i. Ok (replaced i tree before)) same ∙ sym (exchange_made id tree before (held_same is.0 is.1))

  pub no_exchange : entry_of own before ≡ None → exchanged id tree before ≡ Err Absent
  no_exchange none = exchange_absent id tree before (absent_same none)

pub removal_is : (before : Container) (id : List ℕ) (found : FoundDocument) → IsFoundIn id before (Some found)
    → Ok (deleted id before) ≡ removed id before
removal_is before id found is = sym (removal_made id before (id_held id before is.0 is.1))

pub no_removal : (before : Container) (id : List ℕ) → entry_of id before ≡ None → removed id before ≡ Err Absent
no_removal before id none = removal_absent id before (id_absent id before none)

-- nor is 0
pub zero_absent : (id : List ℕ) (before : Container) (number : ℕ) → IsSound before → number ≡ 0 → Some number ≡ number_in id before
    → entry_of id before ≡ None
zero_absent id before number sound zero_is is =
    let there = number_there id before number is in
    let above : 0 < there.0.number = found_above id 0 before.next_number before.entries there.0 sound.numbers there.1 in
    absurd (omega (arith, above, there.2, zero_is))

-- ---- the table of those lately found

-- a store with the same contents holds the same
pub holds_still : {C : Type 0} (old new : Store C) (ids : List (List ℕ × ℕ)) (before : Container) → store_contents new ≡ store_contents old
    → HoldsAll old ids before → HoldsAll new ids before
holds_still old new ids before same holds = record {
  contents = subst (λ (contents : Contents). ContentsHoldAll contents before) (sym same) holds.contents;
  recent = holds.recent;
}

-- an id was put into the table under its number
pub holds_put : {C : Type 0} (store : Store C) (old new : List (List ℕ × ℕ)) (before : Container) (id : List ℕ) (number : ℕ)
    → ((entry : List ℕ × ℕ) → Contains new entry → (entry ≡ (id, number)) ⊎ (Contains old entry × (entry.0 ≢ id)))
    → Some number ≡ number_in id before → HoldsAll store old before → HoldsAll store new before
holds_put store old new before id number only is holds = record {
  contents = holds.contents;
  recent = λ other found there. ⊎_elim
      (λ (same : (other, found) ≡ (id, number)). subst (λ (e : List ℕ × ℕ). number_in e.0 before ≡ Some e.1) (sym same) (sym is))
      (λ (was : Contains old (other, found) × (other ≢ id)). holds.recent other found was.0)
      (only (other, found) there);
}

-- ---- the document under the number

stored_of : (id : List ℕ) (entries : List Entry) (found : Entry) → find (has_id id) entries ≡ Some found → AllByRecursion IsStored entries
    → IsStored found
stored_of id [] found is all = absurd cc
stored_of id (e ∷ es) found is all =
    elim (has_id id e) as (λ b. cond b (Some e) (find (has_id id) es) ≡ Some found → IsStored found) [
      | true ↦ λ same. subst IsStored (same_some e found same) all.0
      | false ↦ λ later. stored_of id es found later all.1
    ] is

-- the text under the number of an entry is that of its tree
pub text_of : (contents : Contents) (before : Container) (id : List ℕ) (entry : Entry) → ContentsHold contents before
    → entry_of id before ≡ Some entry
    → option_map (λ (document : Stored). document.text) (finite.get contents.documents entry.number) ≡ Some (canonical_text entry.tree)
text_of contents before id entry hold is =
    ap (option_map (λ (document : Stored). document.text)) (finite.get-entries contents.documents entry.number)
    ∙ text_there (finite.entries contents.documents) before.entries entry.number entry hold.show.shown
    (entry_there before id entry hold.show.sound is)

-- a tree that a store can hold, of the text of an entry's tree, is that tree
one_tree : (entry : Entry) (text : List ℕ) (tree : Tree) → IsStored entry → text ≡ canonical_text entry.tree → IsStoredText text tree
    → tree ≡ entry.tree
one_tree entry text tree stored same read =
    one_text tree entry.tree (numbers_fit-well_formed tree read.storable.well_formed)
    (numbers_fit-well_formed entry.tree stored.storable.well_formed) (sym read.spelled ∙ same)

module _ (contents : Contents) (before : Container) (hold : ContentsHold contents before) (id : List ℕ) (number : ℕ)
    (is : Some number ≡ number_in id before) where
  there : (entry : Entry) × (entry_of id before ≡ Some entry) × (number ≡ entry.number)
  there = number_there id before number is

  text_under : option_map (λ (document : Stored). document.text) (finite.get contents.documents number) ≡ Some (canonical_text there.0.tree)
  text_under =
      ap (λ n. option_map (λ (document : Stored). document.text) (finite.get contents.documents n)) there.2
      ∙ text_of contents before id there.0 hold there.1

  found_by : (o : Option Stored) (held : HeldDocument)
      → option_map (λ (document : Stored). document.text) o ≡ Some (canonical_text there.0.tree) → IsHeld o (Some held)
      → held.tree ≡ there.0.tree
  found_by None held text read = absurd read
  found_by (Some stored) held text read =
      one_tree there.0 stored.text held.tree (stored_of id before.entries there.0 there.1 hold.show.sound.stored)
      (same_some stored.text (canonical_text there.0.tree) text) read.document

  none_by : (o : Option Stored) → option_map (λ (document : Stored). document.text) o ≡ Some (canonical_text there.0.tree) → IsHeld o None → ⊥
  none_by None text none = absurd cc
  none_by (Some stored) text none = none

  -- the document that is read under the number is that of the id
  pub found_under : (answer : Option HeldDocument) (held : HeldDocument) → answer ≡ Some held → IsHeld (finite.get contents.documents number) answer
      → IsFoundIn id before (Some (record { number = number; document = held }))
  found_under answer held same read =
      let stored = finite.get contents.documents number in
      (there.0, there.1, there.2, found_by stored held text_under (subst (IsHeld stored) same read))

  -- and there is one
  pub one_under : (answer : Option HeldDocument) → answer ≡ None → IsHeld (finite.get contents.documents number) answer → ⊥
  one_under answer same read =
      let stored = finite.get contents.documents number in
      none_by stored text_under (subst (IsHeld stored) same read)

-- ---- what a store that holds a container is not

-- the text of a document that is held is that of its entry
entry_under : (documents : List (ℕ × Stored)) (entries : List Entry) (number : ℕ) (stored : Stored) → ShowEntries documents entries
    → AllByRecursion IsStored entries → finite.find nat_cmp number documents ≡ Some stored → (tree : Tree) × IsStoredText stored.text tree
entry_under [] entries number stored shown all is = absurd cc
entry_under (d ∷ ds) [] number stored shown all is = absurd shown
entry_under (d ∷ ds) (e ∷ es) number stored shown all is =
    elim (eq_by_cmp nat_cmp number d.0) as
    (λ b. (if b then Some d.1 else finite.find nat_cmp number ds) ≡ Some stored → (tree : Tree) × IsStoredText stored.text tree) [
      | true ↦ λ same.
          let text : stored.text ≡ canonical_text e.tree = ap (λ (s : Stored). s.text) (sym (same_some d.1 stored same)) ∙ shown.0.text_is in
          (e.tree, record { storable = all.0.storable; spelled = text })
      | false ↦ λ later. entry_under ds es number stored shown.1 all.1 later
    ] is

never_none : (contents : Contents) (before : Container) (number : ℕ) → ContentsHold contents before
    → HasNone (finite.get contents.documents number) → ⊥
never_none contents before number hold none = by_stored (finite.get contents.documents number) refl none
  where
    by_stored : (o : Option Stored) → finite.get contents.documents number ≡ o → HasNone o → ⊥
    by_stored None at none = none
    by_stored (Some stored) at none =
        let has = entry_under (finite.entries contents.documents) before.entries number stored hold.show.shown hold.show.sound.stored
        (sym (finite.get-entries contents.documents number) ∙ at) in
        none has.0 has.1

-- no part is outside its grammar, and no text that of no document
pub undamaged : {C : Type 0} (store : Store C) (before : Container) (extent at : ℕ) → ContentsHoldAll (store_contents store) before
    → TellsDamage store (Damaged extent at) → ⊥
undamaged store before extent at hold (inl text) = never_none (store_contents store) before text.number hold.documents text.none
undamaged store before extent at hold (inr part) = never_spoiled store hold.pairs.set (Damaged extent at) hold.pairs.is part
