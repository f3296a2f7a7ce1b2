-- The first document that is under another policy is shown by the first entry that is behind; and where all documents are under the
-- policy now no entry is.
use Rattle.std.proofs.Common.{◌≡◌, inl, inr, ℕ, ◌<◌, List, [], ◌∷◌, find, true, false, cond, Some, refl, sym, ap, subst, ◌∙◌, arith, ⊎_elim}
use Rattle.std.specs.Prelude.{◌≢◌, ◌||◌, not}
use Rattle.std.specs.FinMap as finite
use Rattle.std.specs.List.{list_any}
use Rattle.std.specs.Ordering.{eq_by_cmp, nat_cmp}
use Rattle.std.specs.Str.{bytes_eq}
use Rattle.std.proofs.lemmas.Bool.{cases_eq}
use Rattle.ax_area.specs.Contents.{Contents, Stored}
use Rattle.ax_container.specs.Container.{Container, Entry, IsStored, NumbersRise}
use Rattle.ax_container.specs.Reindexing.{is_behind}
use Rattle.ax_container.proofs.ByNumber.{same_some}
use Rattle.ax_container.proofs.Ids.{bytes_eq-self, same_from_eq}
use Rattle.ax_image.specs.Documents.{ContentsHold}
use Rattle.ax_image.specs.StandsFor.{AreUnder, ShowEntries}
use Rattle.ax_image_grammar.specs.Payloads.{IsTextOf}
use Rattle.ax_image_grammar.specs.Table.{IsTaken, policy_text}
use Rattle.ax_pages.proofs.LastPart.{other_number, same_number}
use Rattle.ax_policy.specs.Normal.{normal_text}
use Rattle.ax_policy.specs.declared.policy.Policy.{Policy}
use Rattle.ax_storable.specs.StoredTexts.{IsStoredText}
use Rattle.ax_tree.proofs.Fitting.{numbers_fit-well_formed}
use Rattle.ax_tree.proofs.OneText.{one_text}
use Rattle.ax_tree.specs.CanonicalText.{canonical_text}
use Rattle.ax_tree.specs.declared.tree.Tree.{Tree}
use Rattle.ax_transform.proofs.Listed.{found_in}
use Rattle.ax_transform.proofs.Lists.{In}

-- ---- documents in the order of their numbers, and the entries that they show

module _ (texts : ℕ → List ℕ) (now : ℕ) (policy : Policy) (of_now : IsTextOf (texts now) policy) where
  -- a number whose text is that of the policy now is that of the policy now
  abbrev pub IsApart : ℕ × Stored → Type 0
  IsApart d = texts d.1.policy ≡ texts now → d.1.policy ≡ now

  not_behind : (d : ℕ × Stored) (e : Entry) → IsTextOf (texts d.1.policy) e.indexed_by → d.1.policy ≡ now → is_behind policy e ≡ false
  not_behind d e under same =
      let texts_same : normal_text e.indexed_by ≡ normal_text policy = sym under.spelled ∙ ap texts same ∙ of_now.spelled in
      ap (λ t. not (bytes_eq t (normal_text policy))) texts_same ∙ ap not (bytes_eq-self (normal_text policy))

  behind : (d : ℕ × Stored) (e : Entry) → IsApart d → IsTextOf (texts d.1.policy) e.indexed_by → d.1.policy ≢ now → is_behind policy e ≡ true
  behind d e apart under other =
      elim (bytes_eq (normal_text e.indexed_by) (normal_text policy)) as
      (λ b. bytes_eq (normal_text e.indexed_by) (normal_text policy) ≡ b → not b ≡ true) [
        | true ↦ λ is.
            absurd (other (apart (under.spelled ∙ same_from_eq (normal_text e.indexed_by) (normal_text policy) is ∙ sym of_now.spelled)))
        | false ↦ λ is. refl
      ] refl

  -- the number of a document behind an entry is above its number
  above : (documents : List (ℕ × Stored)) (entries : List Entry) (before next : ℕ) (d : ℕ × Stored) → NumbersRise before entries next
      → ShowEntries documents entries → In d documents → before < d.0
  above [] entries before next d rise shown there = absurd there
  above (x ∷ documents) [] before next d rise shown there = absurd shown
  above (x ∷ documents) (e ∷ entries) before next d rise shown (inl same) =
      let at : d.0 ≡ e.number = ap (λ (y : ℕ × Stored). y.0) same ∙ shown.0.number_is in
      omega (arith, rise.0, at)
  above (x ∷ documents) (e ∷ entries) before next d rise shown (inr later) =
      let more : e.number < d.0 = above documents entries e.number next d rise.1 shown.1 later in
      omega (arith, rise.0, more)

  -- the entry that shows the first document under another policy
  pub record IsShownFirst (entries : List Entry) (d : ℕ × Stored) : Type 0 where
    pub entry : Entry
    pub found : find (is_behind policy) entries ≡ Some entry
    pub number : d.0 ≡ entry.number
    pub text : d.1.text ≡ canonical_text entry.tree
    pub under : IsTextOf (texts d.1.policy) entry.indexed_by

  pub shown_first : (documents : List (ℕ × Stored)) (entries : List Entry) (before next : ℕ) (d : ℕ × Stored) → NumbersRise before entries next
      → ShowEntries documents entries → AreUnder texts documents entries → IsApart d → In d documents → d.1.policy ≢ now
      → ((x : ℕ × Stored) → In x documents → x.0 < d.0 → x.1.policy ≡ now) → IsShownFirst entries d
  shown_first [] entries before next d rise shown under apart there other earlier = absurd there
  shown_first (x ∷ documents) [] before next d rise shown under apart there other earlier = absurd shown
  shown_first (x ∷ documents) (e ∷ entries) before next d rise shown under apart (inl same) other earlier =
      let own : IsTextOf (texts d.1.policy) e.indexed_by =
      subst (λ (y : ℕ × Stored). IsTextOf (texts y.1.policy) e.indexed_by) (sym same) under.0 in
      record {
        entry = e;
        found = ap (λ b. cond b (Some e) (find (is_behind policy) entries)) (behind d e apart own other);
        number = ap (λ (y : ℕ × Stored). y.0) same ∙ shown.0.number_is;
        text = ap (λ (y : ℕ × Stored). y.1.text) same ∙ shown.0.text_is;
        under = own;
      }
  shown_first (x ∷ documents) (e ∷ entries) before next d rise shown under apart (inr later) other earlier =
      let more : e.number < d.0 = above documents entries e.number next d rise.1 shown.1 later in
      let at : x.0 ≡ e.number = shown.0.number_is in
      let rest = shown_first documents entries e.number next d rise.1 shown.1 under.1 apart later other (λ y there. earlier y (inr there)) in
      let passed : is_behind policy e ≡ false = not_behind x e under.0 (earlier x (inl refl) (omega (arith, more, at))) in
      record {
        entry = rest.entry;
        found = ap (λ b. cond b (Some e) (find (is_behind policy) entries)) passed ∙ rest.found;
        number = rest.number;
        text = rest.text;
        under = rest.under;
      }

  -- each document under another policy is shown by an entry that is behind
  pub shown_behind : (documents : List (ℕ × Stored)) (entries : List Entry) (d : ℕ × Stored) → ShowEntries documents entries
      → AreUnder texts documents entries → IsApart d → In d documents → d.1.policy ≢ now
      → (e : Entry) × In e entries × (is_behind policy e ≡ true) × (e.number ≡ d.0)
  shown_behind [] entries d shown under apart there other = absurd there
  shown_behind (x ∷ documents) [] d shown under apart there other = absurd shown
  shown_behind (x ∷ documents) (e ∷ entries) d shown under apart (inl same) other =
      let own : IsTextOf (texts d.1.policy) e.indexed_by =
      subst (λ (y : ℕ × Stored). IsTextOf (texts y.1.policy) e.indexed_by) (sym same) under.0 in
      (e, inl refl, behind d e apart own other, sym (ap (λ (y : ℕ × Stored). y.0) same ∙ shown.0.number_is))
  shown_behind (x ∷ documents) (e ∷ entries) d shown under apart (inr later) other =
      let rest = shown_behind documents entries d shown.1 under.1 apart later other in
      (rest.0, inr rest.1, rest.2, rest.3)

  pub shown_none : (documents : List (ℕ × Stored)) (entries : List Entry) → ShowEntries documents entries → AreUnder texts documents entries
      → ((x : ℕ × Stored) → In x documents → x.1.policy ≡ now) → list_any (is_behind policy) entries ≡ false
  shown_none [] [] shown under all = refl
  shown_none [] (e ∷ entries) shown under all = absurd shown
  shown_none (x ∷ documents) [] shown under all = absurd shown
  shown_none (x ∷ documents) (e ∷ entries) shown under all =
      ap (λ b. b || list_any (is_behind policy) entries) (not_behind x e under.0 (all x (inl refl)))
      ∙ shown_none documents entries shown.1 under.1 (λ y there. all y (inr there))

-- ---- of contents

found_there : (documents : List (ℕ × Stored)) (n : ℕ) (stored : Stored) → finite.find nat_cmp n documents ≡ Some stored → In (n, stored) documents
found_there [] n stored is = absurd cc
found_there (x ∷ documents) n stored is =
    ⊎_elim
    (λ (same : n ≡ x.0).
    let here : x.1 ≡ stored =
    same_some x.1 stored
    (sym (ap (λ m. cond (eq_by_cmp nat_cmp m x.0) (Some x.1) (finite.find nat_cmp n documents)) same
    ∙ ap (λ b. cond b (Some x.1) (finite.find nat_cmp n documents)) (same_number x.0)) ∙ is) in
    inl (λ i. (same i, sym here i)))
    (λ (apart : n ≡ x.0 → ⊥).
    inr (found_there documents n stored
    (sym (ap (λ b. cond b (Some x.1) (finite.find nat_cmp n documents)) (other_number n x.0 apart)) ∙ is)))
    (cases_eq n x.0)

module _ (contents : Contents) (c : Container) (hold : ContentsHold contents c) where
  abbrev documents : List (ℕ × Stored)
  documents = finite.entries contents.documents

  abbrev texts_of : ℕ → List ℕ
  texts_of n = policy_text n contents

  held_of : (x : ℕ × Stored) → In x documents → finite.get contents.documents x.0 ≡ Some x.1
  held_of x there =
      finite.get-entries contents.documents x.0 ∙ found_in documents x (finite.entries_sorted contents.documents) there

  taken_of : (n : ℕ) (stored : Stored) → finite.get contents.documents n ≡ Some stored → IsTaken stored.policy contents
  taken_of n stored held = inr (record { number = n; document = stored; held = held; indexed_by = refl })

  -- the entry of the first document under another policy
  pub first_of : (n : ℕ) (stored : Stored) → finite.get contents.documents n ≡ Some stored → stored.policy ≢ contents.policy_now
      → ((m : ℕ) (earlier : Stored) → m < n → finite.get contents.documents m ≡ Some earlier → earlier.policy ≡ contents.policy_now)
      → IsShownFirst texts_of contents.policy_now c.policy hold.show.policy c.entries (n, stored)
  first_of n stored held other earlier =
      shown_first texts_of contents.policy_now c.policy hold.show.policy documents c.entries 0 c.next_number (n, stored)
      hold.show.sound.numbers hold.show.shown hold.show.under
      (λ same. hold.apart stored.policy contents.policy_now (taken_of n stored held) (inl refl) same)
      (found_there documents n stored (sym (finite.get-entries contents.documents n) ∙ held)) other
      (λ x there less. earlier x.0 x.1 less (held_of x there))

  -- and where there is none
  pub none_of : ((m : ℕ) (stored : Stored) → finite.get contents.documents m ≡ Some stored → stored.policy ≡ contents.policy_now)
      → list_any (is_behind c.policy) c.entries ≡ false
  none_of all =
      shown_none texts_of contents.policy_now c.policy hold.show.policy documents c.entries hold.show.shown hold.show.under
      (λ x there. all x.0 x.1 (held_of x there))

  -- the entry of any document under another policy
  pub behind_of : (n : ℕ) (stored : Stored) → finite.get contents.documents n ≡ Some stored → stored.policy ≢ contents.policy_now
      → (e : Entry) × In e c.entries × (is_behind c.policy e ≡ true) × (e.number ≡ n)
  behind_of n stored held other =
      shown_behind texts_of contents.policy_now c.policy hold.show.policy documents c.entries (n, stored) hold.show.shown hold.show.under
      (λ same. hold.apart stored.policy contents.policy_now (taken_of n stored held) (inl refl) same)
      (found_there documents n stored (sym (finite.get-entries contents.documents n) ∙ held)) other

  -- no document has number 0
  pub zero_none : (stored : Stored) → finite.get contents.documents 0 ≡ Some stored → ⊥
  zero_none stored held =
      let more : 0 < 0 =
      above texts_of contents.policy_now c.policy hold.show.policy documents c.entries 0 c.next_number (0, stored) hold.show.sound.numbers
      hold.show.shown (found_there documents 0 stored (sym (finite.get-entries contents.documents 0) ∙ held)) in
      omega (arith, more)

-- a tree that a store can hold, of the text of an entry's tree, is that tree
pub same_tree : (entry : Entry) (text : List ℕ) (tree : Tree) → IsStored entry → text ≡ canonical_text entry.tree → IsStoredText text tree
    → tree ≡ entry.tree
same_tree entry text tree stored same read =
    one_text tree entry.tree (numbers_fit-well_formed tree read.storable.well_formed)
    (numbers_fit-well_formed entry.tree stored.storable.well_formed) (sym read.spelled ∙ same)
