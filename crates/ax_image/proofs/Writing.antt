-- The changes of a write lead to what it makes of the container.
use Rattle.std.proofs.Common.{◌≡◌, ℕ, ◌+◌, ◌<◌, Bool, true, false, List, [], ◌∷◌, length}
use Rattle.std.proofs.Common.{find, Option, Some, None, Ok, is_some, refl, sym, ap, subst, ◌∙◌}
use Rattle.std.proofs.Common.{arith}
use Rattle.std.specs.Prelude.{◌&&◌, ◌||◌, not, nat_lt, nat_le, if◌then◌else◌, option_and_then}
use Rattle.std.specs.List.{list_any, filter}
use Rattle.std.specs.Ordering.{nat_cmp}
use Rattle.std.specs.Cmp.{nat_cmp_total}
use Rattle.std.specs.FinMap as finite
use Rattle.std.proofs.lemmas.Bool.{lt-ltb, leb-false}
use Rattle.ax_tree.specs.declared.tree.Tree.{Tree}
use Rattle.ax_tree.specs.CanonicalText.{canonical_text}
use Rattle.ax_container.specs.Container.{Entry, Container, has_id, contains, entry_of, most_documents, last_number, IsSound}
use Rattle.ax_container.specs.Writes.{replaced, new_entry, created, deleted, is_full}
use Rattle.ax_container.proofs.ByNumber.{AreById, by_number, deleted_by_number, other_than}
use Rattle.ax_container.proofs.Soundness.{MayBe, or_none, sound_created, sound_deleted, sound_replaced}
use Rattle.ax_area.specs.Changes.{Change}
use Rattle.ax_area.specs.Contents.{Contents, Stored, is_given, has_room, after_change, after_changes}
use Rattle.ax_image.specs.Documents.{ContentsHold, LeadsTo}
use Rattle.ax_image_grammar.specs.Table.{policy_text}
use Rattle.ax_image.specs.StandsFor.{AreUnder, ShowEntries}
use Rattle.ax_image.specs.WriteChanges.{document_change, replacing_changes, creating_changes, deleting_changes}
use Rattle.ax_image.proofs.KeptApart.{apart_with, apart_without}
use Rattle.ax_image.proofs.Shown.{as_many, documents_without, entries_without, found_page, shown_behind, shown_over, shown_without}
use Rattle.ax_image.proofs.Under.{under_behind, under_over, under_without}

both : (a b : Bool) → a ≡ true → b ≡ true → (a && b) ≡ true
both a b x y = λ i. x i && y i

pub first_or : (a b : Bool) → a ≡ true → (a || b) ≡ true
first_or a b x = ap (λ c. c || b) x

pub second_or : (a b : Bool) → b ≡ true → (a || b) ≡ true
second_or true b x = refl
second_or false b x = x

-- the document that is written: its version is its number
abbrev pub document_of : ℕ → ℕ → Tree → Stored
document_of number policy tree =
    record { policy = policy; version = number; text = canonical_text tree }

abbrev pub with_document : Contents → ℕ → ℕ → Tree → Contents
with_document contents number policy tree =
    record contents { documents = finite.insert contents.documents number (document_of number policy tree) }

pub after_document : (number policy : ℕ) (tree : Tree) (contents : Contents) → contents.versioned ≡ false
    → is_given policy contents ≡ true → has_room number contents ≡ true
    → after_change (document_change number policy tree) contents ≡ Some (with_document contents number policy tree)
after_document number policy tree contents plain given room =
    ap (λ b. if b then Some (with_document contents number policy tree) else None)
    (both (is_given policy contents) (has_room number contents && not contents.versioned) given
    (both (has_room number contents) (not contents.versioned) room (ap not plain)))

pub any_found : (id : List ℕ) (entries : List Entry) → list_any (has_id id) entries ≡ is_some (find (has_id id) entries)
any_found id [] = refl
any_found id (e ∷ es) = elim (has_id id e) as
    (λ b. (b || list_any (has_id id) es) ≡ is_some (if b then Some e else find (has_id id) es)) [ true ↦ refl | false ↦ any_found id es ]

some_of : {A : Type 0} (o found : Option A) → found ≡ o → is_some o ≡ true → (x : A) × (found ≡ Some x)
some_of None found e is = absurd (cc)
some_of (Some x) found e is = (x, e)

none_of : {A : Type 0} (o : Option A) → is_some o ≡ false → o ≡ None
none_of None is = refl
none_of (Some x) is = absurd (cc)

module _ (contents : Contents) (before : Container) (hold : ContentsHold contents before) where
  abbrev policy : ℕ
  policy = contents.policy_now

  -- the texts of the policies, by their numbers
  abbrev texts : ℕ → List ℕ
  texts = λ given. policy_text given contents

  abbrev documents : List (ℕ × Stored)
  documents = finite.entries contents.documents

  module _ (id : List ℕ) (tree : Tree) (plain : contents.versioned ≡ false) (may : MayBe id tree before.policy) where
    put_entries : (number : ℕ) → finite.entries (finite.insert contents.documents number (document_of number policy tree))
        ≡ finite.put nat_cmp number (document_of number policy tree) documents
    put_entries number = finite.entries-insert nat_cmp_total contents.documents number (document_of number policy tree)

    -- ---- a document that the container has

    pub replaced_by : (found : Entry) → entry_of id before ≡ Some found
        → LeadsTo contents (replacing_changes found.number policy tree) (replaced id tree before)
    replaced_by found is =
        let number = found.number in
        let new : Contents = with_document contents number policy tree in
        let held = ap is_some (finite.get-entries contents.documents number) ∙ found_page documents before.entries id found hold.show.shown is in
        record {
          new = new;
          lead = ap (option_and_then (after_changes [])) (after_document number policy tree contents plain hold.given (first_or _ _ held));
          hold = record {
            show = record {
              next = hold.show.next;
              shown = subst (λ shown. ShowEntries shown (replaced id tree before).entries) (sym (put_entries number))
                  (shown_over documents before.entries 0 before.next_number id tree before.policy (document_of number policy tree) refl found
                  hold.show.sound.numbers hold.show.sound.distinct hold.show.shown is);
              under = subst (λ shown. AreUnder texts shown (replaced id tree before).entries) (sym (put_entries number))
                  (under_over texts documents before.entries 0 before.next_number id tree before.policy (document_of number policy tree)
                  hold.show.policy found hold.show.sound.numbers hold.show.sound.distinct hold.show.shown hold.show.under is);
              policy = hold.show.policy;
              sound = sound_replaced id tree before may hold.show.sound;
            };
            given = hold.given;
            apart = apart_with contents new number (document_of number policy tree) refl refl refl refl hold.apart;
          };
        }

    -- ---- a document that it has not

    abbrev next : ℕ
    next = before.next_number

    abbrev with_meta : Contents
    with_meta = record contents { next_number = next + 1; policy_now = policy; next_version = next + 1; versioned = contents.versioned }

    few : is_full before ≡ false → finite.len contents.documents < most_documents
    few space =
        let parts = or_none (nat_le most_documents (length before.entries)) (nat_le last_number next) space in
        let less = leb-false most_documents (length before.entries) parts.0 in
        omega (arith, less, finite.len-entries contents.documents, as_many documents before.entries hold.show.shown)

    creates : is_full before ≡ false → after_changes (creating_changes next policy tree) contents ≡ Some (with_document with_meta next policy tree)
    creates space =
        let few_held : finite.len contents.documents < most_documents = few space in
        let room = second_or (finite.contains_key contents.documents next) (nat_lt (finite.len contents.documents) most_documents)
        (lt-ltb (finite.len contents.documents) most_documents few_held) in
        ap (λ b. option_and_then (after_changes (document_change next policy tree ∷ [])) (if b then Some with_meta else None))
        (both (is_given policy contents) (not contents.versioned) hold.given (ap not plain))
        ∙ ap (option_and_then (after_changes [])) (after_document next policy tree with_meta plain hold.given room)

    pub created_by : contains id before ≡ false → is_full before ≡ false
        → LeadsTo contents (creating_changes next policy tree) (created id tree before)
    created_by absent space = record {
      new = with_document with_meta next policy tree;
      lead = creates space;
      hold = record {
        show = record {
          next = refl;
          shown = subst (λ shown. ShowEntries shown (created id tree before).entries) (sym (put_entries next))
              (shown_behind documents before.entries 0 next (document_of next policy tree)
              (new_entry id tree before) hold.show.sound.numbers hold.show.shown
              (record { number_is = refl; text_is = refl }));
          under = subst (λ shown. AreUnder texts shown (created id tree before).entries) (sym (put_entries next))
              (under_behind texts documents before.entries 0 next (document_of next policy tree) (new_entry id tree before)
              hold.show.sound.numbers hold.show.shown hold.show.under hold.show.policy);
          policy = hold.show.policy;
          sound = sound_created id tree before absent space may hold.show.sound;
        };
        given = hold.given;
        apart = apart_with contents (with_document with_meta next policy tree) next (document_of next policy tree) refl refl refl refl hold.apart;
      };
    }

  -- ---- a document that is gone

  pub deleted_by : (id : List ℕ) (found : Entry) → entry_of id before ≡ Some found
      → LeadsTo contents (deleting_changes found.number) (deleted id before)
  deleted_by id found is =
      let number = found.number in
      let by : AreById id number before.entries =
      by_number id before.entries 0 before.next_number found hold.show.sound.numbers hold.show.sound.distinct is in
      let left : (deleted id before).entries ≡ filter (other_than number) before.entries =
      deleted_by_number id number before.entries by in
      let pages : finite.entries (finite.remove contents.documents number) ≡ documents_without number documents =
      entries_without contents.documents number in
      record {
        new = record contents { documents = finite.remove contents.documents number };
        lead = refl;
        hold = record {
          show = record {
            next = hold.show.next;
            shown = subst (λ es. ShowEntries (finite.entries (finite.remove contents.documents number)) es) (sym left)
                (subst (λ shown. ShowEntries shown (filter (other_than number) before.entries)) (sym pages)
                (shown_without number documents before.entries hold.show.shown));
            under = subst (λ es. AreUnder texts (finite.entries (finite.remove contents.documents number)) es) (sym left)
                (subst (λ shown. AreUnder texts shown (filter (other_than number) before.entries)) (sym pages)
                (under_without texts number documents before.entries hold.show.shown hold.show.under));
            policy = hold.show.policy;
            sound = sound_deleted id before hold.show.sound;
          };
          given = hold.given;
          apart = apart_without contents number hold.apart;
        };
      }
