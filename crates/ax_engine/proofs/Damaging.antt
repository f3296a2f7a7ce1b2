-- Documents whose text is none of a document: none where all can be read, and where they stand on the
-- disk; and texts that a query meets.
use Rattle.std.proofs.Common.{◌≡◌, ◌≢◌, ℕ, Bool, List, Option, Some, None, Result, Ok, Err, OnOk, length}
use Rattle.std.proofs.Common.{◌<◌, ◌≤◌, inl, inr, refl, sym, ap, subst, ◌∙◌, arith}
use Rattle.std.specs.Prelude.{IsTrue, is_some, slice_get}
use Rattle.std.specs.FinMap as finite
use Rattle.std.specs.Option.{option_to_list}
use Rattle.std.proofs.lemmas.Bool.{cases_lt}
use Rattle.ax_answer_text.specs.Parts.{IsOfDocument}
use Rattle.ax_answer_text.specs.declared.text_fault.TextFault.{TextFault}
use Rattle.ax_answer_text.specs.declared.text_fault.TextFault.TheVariants as text_fault
use Rattle.ax_area.specs.Contents.{Contents, Stored}
use Rattle.ax_cache.specs.Pages.{CachedPages}
use Rattle.ax_disk.specs.model.Moments.{History}
use Rattle.ax_image.specs.Readable.{newest}
use Rattle.ax_image_grammar.specs.Payloads.{IsDocumentText}
use Rattle.ax_storable.specs.Storable.{IsStorable}
use Rattle.ax_storable.specs.Storable.{most_bytes}
use Rattle.ax_mean.specs.declared.query.Query.{Query}
use Rattle.ax_store.specs.Kept.{Kept}
use Rattle.ax_store.specs.ReadAhead.{IsAhead}
use Rattle.ax_store.specs.declared.fault.StoreFault.{StoreFault}
use Rattle.ax_store.specs.declared.fault.StoreFault.TheVariants as store_fault
use Rattle.ax_store.specs.declared.read_ahead.ReadAhead.{ReadAhead}
use Rattle.ax_store.specs.declared.store.Store.{Store}
use Rattle.ax_tree.specs.CanonicalText.{canonical_text}
use Rattle.ax_tree.specs.declared.tree.Tree.{Tree}
use Rattle.ax_store.specs.Listed.{IsNextAfter}
use Rattle.ax_store.specs.Store.{store_contents}
use Rattle.ax_engine.specs.Damage.{IfRows}
use Rattle.ax_engine.specs.Walks.{AreDocuments}
use Rattle.ax_engine.specs.InPages.{HasOutside, IsPlaced}
use Rattle.ax_engine.specs.StoreSays.{kept_says, text_of}
use Rattle.ax_engine.specs.Scans.{ScanFails, Scanned}
use Rattle.ax_engine.specs.declared.reply.Reply.{Reply}
use Rattle.ax_engine.specs.declared.reply.Reply.TheVariants as given
use Rattle.ax_engine.specs.declared.rows.Rows.{Rows}

-- ---- a document that is held has one part

pub one_part : (part : Option (List ℕ)) → IsTrue (is_some part) → 0 < length (option_to_list part)
one_part None is = absurd cc
one_part (Some payload) is = omega arith

pub only_place : (offset : Option ℕ) (at : ℕ) → slice_get (option_to_list offset) 0 ≡ Some at → offset ≡ Some at
only_place None at is = absurd cc
only_place (Some other) at is = is

some_is : (a b : List ℕ) → Some a ≡ Some b → a ≡ b
some_is a b e = cc

document_of : (held : Option Stored) → IsTrue (is_some held) → (document : Stored) × (held ≡ Some document)
document_of None is = absurd cc
document_of (Some document) is = (document, refl)

-- ---- the texts by which a store holds documents are those of the format

pub of_document : (text : List ℕ) → IsOfDocument text → IsDocumentText newest text
of_document text (tree, stored) = record {
  tree = tree;
  document = stored.storable.document;
  well_formed = stored.storable.well_formed;
  shallow = stored.storable.shallow;
  named = stored.storable.named;
  small = subst (λ t. length t ≤ most_bytes) (sym stored.spelled) stored.storable.small;
  fits = stored.storable.fits;
  spelled = stored.spelled;
}

of_storable : (text : List ℕ) (is : IsDocumentText newest text) → IsStorable is.tree
of_storable text is = record {
  document = is.document;
  well_formed = is.well_formed;
  shallow = is.shallow;
  named = is.named;
  small = subst (λ t. length t ≤ most_bytes) is.spelled is.small;
  fits = is.fits;
}

-- ---- the text that was read is none of a document

pub outside_here : (pages : Kept) (number at : ℕ) (text : List ℕ) (found : Bool)
    → IsTrue (finite.contains_key (kept_says pages).documents number)
    → IsAhead (finite.get (kept_says pages).documents number) found text
    → ((tree : Tree) → text ≡ canonical_text tree → IsStorable tree → ⊥)
    → finite.get pages.offsets.documents number ≡ Some at → HasOutside pages at
outside_here pages number at text found is ahead none placed =
    let some = document_of (finite.get (kept_says pages).documents number) is in
    let shown : IsAhead (Some some.0) found text = subst (λ document. IsAhead document found text) some.1 ahead in
    record {
      number = number;
      document = some.0;
      held = some.1;
      placed = placed;
      outside = λ text_is. none text_is.tree (shown.1 ∙ text_is.spelled) (of_storable some.0.text text_is);
    }

-- what the fault of a text leaves
pub text_fails : {C : Type 0} (pages : C → CachedPages) (honest : Bool) (why : TextFault) (given : StoreFault) (old store : Store C) (ahead : ReadAhead)
    (before after : History) (l m number : ℕ) (text : List ℕ) (found : Bool)
    → Scanned pages honest old store ahead before after l m → IsTrue (finite.contains_key (store_contents store).documents number)
    → (IsTrue honest → IsAhead (finite.get (store_contents store).documents number) found text)
    → ((tree : Tree) → text ≡ canonical_text tree → IsStorable tree → why ≢ text_fault.Outside)
    → (why ≡ text_fault.Memory → given ≡ store_fault.Memory) → (why ≡ text_fault.Outside → IsPlaced store number given)
    → ScanFails pages honest given old store ahead before after l m
text_fails pages honest text_fault.Memory given old store ahead before after l m number text found scanned held shows inside memory outside =
    subst (λ fault. ScanFails pages honest fault old store ahead before after l m) (sym (memory refl)) scanned
text_fails pages honest text_fault.Outside given old store ahead before after l m number text found scanned held shows inside memory outside =
    by_fault given (outside refl)
  where
    by_fault : (fault : StoreFault) → IsPlaced store number fault → ScanFails pages honest fault old store ahead before after l m
    by_fault store_fault.Disk placed = absurd placed
    by_fault (store_fault.Damaged extent at) placed = (
      scanned,
      λ h. (
        placed.0,
        outside_here store.pages number at text found held (shows h)
            (λ tree is storable. inside tree is storable refl) placed.1,
      ),
    )
    by_fault (store_fault.Newer version) placed = absurd placed
    by_fault store_fault.Memory placed = absurd placed

-- what was read ahead of a document that has this text is this text
pub text_ahead : (document : Option Stored) (found : Bool) (text meant : List ℕ) → IsAhead document found text
    → text_of document ≡ Some meant → text ≡ meant
text_ahead (Some document) found text meant ahead is = ahead.1 ∙ some_is document.text meant is
text_ahead None found text meant ahead is = absurd cc

-- ---- a text that is met

-- up to a number the texts are those of documents, where they are such that are read
abbrev pub AreDocumentsTo : ℕ → (List ℕ → Type 0) → Contents → Type 0
AreDocumentsTo last IsRead contents =
    (number : ℕ) (document : Stored) → 0 < number → number ≤ last
    → finite.get contents.documents number ≡ Some document → IsRead document.text
    → IsDocumentText newest document.text

module _ (contents : Contents) (IsRead : List ℕ → Type 0) (n : ℕ) (before : AreDocumentsTo n IsRead contents) where
  -- the next one too
  pub one_document_more : (k : ℕ) → IsNextAfter contents.documents n k
      → ((text : List ℕ) → text_of (finite.get contents.documents k) ≡ Some text
      → IsRead text → IsDocumentText newest text)
      → AreDocumentsTo k IsRead contents
  one_document_more k next here number document low high is read =
      elim (cases_lt n number) as (λ _. IsDocumentText newest document.text) [
        | inl behind ↦ elim (cases_lt number k) as (λ _. IsDocumentText newest document.text) [
          | inl less ↦
              let none : None ≡ Some document = sym (next.least number behind less) ∙ is in
              absurd cc
          | inr le ↦
              let same : number ≡ k = omega (arith, high, le) in
              here document.text (ap text_of
              (ap (finite.get contents.documents) (sym same) ∙ is)) read
        ]
        | inr le ↦ before number document low le is read
      ]

  -- none comes behind
  pub all_documents : ((b : ℕ) → n < b → finite.get contents.documents b ≡ None) → AreDocuments (λ number. Unit {0}) IsRead contents
  all_documents last number document low one is read =
      elim (cases_lt n number) as (λ _. IsDocumentText newest document.text) [
        | inl behind ↦
            let none : None ≡ Some document = sym (last number behind) ∙ is in
            absurd cc
        | inr le ↦ before number document low le is read
      ]

pub no_documents : (contents : Contents) (IsRead : List ℕ → Type 0) → AreDocumentsTo 0 IsRead contents
no_documents contents IsRead number document low high is read =
    let not : ⊥ = omega (arith, low, high) in
    absurd not

pub one_query : (a b : Query) → Some a ≡ Some b → a ≡ b
one_query a b is = cc

pub on_ok : {T E : Type 0} → (result : Result T E) (Is : Type 0) → Is → OnOk result Is
on_ok (Ok value) Is is = is
on_ok (Err error) Is is = tt

pub if_rows : (reply : Reply) (One Other : Rows → Type 0) → ((rows : Rows) → One rows → Other rows) → IfRows reply One → IfRows reply Other
if_rows given.Ok One Other to is = tt
if_rows (given.Doc text) One Other to is = tt
if_rows (given.Rows rows) One Other to is = to rows is
if_rows (given.Refused why) One Other to is = tt
