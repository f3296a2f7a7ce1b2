-- Over an image in the grammar everything that is held can be read.
use Rattle.std.proofs.Common.{◌≡◌, ℕ, List, [], ◌∷◌, Option, refl, sym, subst}
use Rattle.std.specs.Prelude.{Some, None}
use Rattle.std.specs.List.{AllByRecursion}
use Rattle.std.specs.FinMap as map
use Rattle.ax_disk.specs.model.Image.{Image}
use Rattle.ax_pair.specs.declared.pair.Pair.{Pair}
use Rattle.ax_pair.specs.Order.{Rise}
use Rattle.ax_leaf.specs.Pairs.{pairs_of}
use Rattle.ax_leaf.proofs.FromLow.{pairs_rise}
use Rattle.ax_delta.specs.Changes.{TermChange, changes_of}
use Rattle.ax_delta.specs.Merge.{AreMerged}
use Rattle.ax_delta.specs.Pass.{merged}
use Rattle.ax_delta.proofs.Ascending.{merged_is}
use Rattle.ax_pages.specs.Contents.{TermPage, term_page}
use Rattle.ax_pairs.specs.PagePairs.{AreOfBase, AreDeltas, HasPairs}
use Rattle.ax_area.specs.Contents.{Contents, Stored}
use Rattle.ax_area.specs.Kept.{HoldsOfAll}
use Rattle.ax_area.specs.Told as told
use Rattle.ax_area.proofs.KeptSo.{told_so}
use Rattle.ax_area.proofs.OneOutcome.{lead_of}
use Rattle.ax_image_grammar.specs.Payloads.{IsReadable, IsPolicyText, IsDocumentText, IsBasePayload}
use Rattle.ax_image_grammar.specs.Payloads.{IsDeltaPayload}
use Rattle.ax_image_grammar.specs.Grammar.{IsGrammatical}

-- ---- a term page

-- a base that can be read has pairs, which rise
record HasBase (base : Option (List ℕ)) : Type 0 where
  pairs : List Pair
  rise : Rise pairs
  of_base : AreOfBase base pairs

base_pairs : (base : Option (List ℕ)) → ((payload : List ℕ) → base ≡ Some payload
    → IsBasePayload payload) → HasBase base
base_pairs None readable = record { pairs = []; rise = tt; of_base = refl }
base_pairs (Some payload) readable =
    let is = readable payload refl in
    record {
      pairs = pairs_of is.postings;
      rise = pairs_rise is.postings is.is.are;
      of_base = record { low = is.low; postings = is.postings; is = is.is; have = refl };
    }

record HasDeltas (payloads : List (List ℕ)) (base : List Pair) : Type 0 where
  deltas : List (List TermChange)
  are : AreDeltas payloads deltas
  pairs : List Pair
  merged : AreMerged base deltas pairs

delta_pairs : (payloads : List (List ℕ)) (base : List Pair) → Rise base
    → AllByRecursion IsDeltaPayload payloads → HasDeltas payloads base
delta_pairs [] base rise all = record { deltas = []; are = tt; pairs = base; merged = refl }
delta_pairs (payload ∷ payloads) base rise all =
    let is = all.0 in
    let between : List Pair = merged base (changes_of is.changes) in
    let made = merged_is base between is.changes rise is.is.are refl in
    let later = delta_pairs payloads between made.rises all.1 in
    record {
      deltas = is.changes ∷ later.deltas;
      are = (is.is, later.are);
      pairs = later.pairs;
      merged = (between, made, later.merged);
    }

page_pairs : (page : TermPage) → ((payload : List ℕ) → page.base ≡ Some payload
    → IsBasePayload payload) → AllByRecursion IsDeltaPayload page.deltas → (pairs : List Pair)
    × HasPairs page pairs
page_pairs page base deltas =
    let first = base_pairs page.base base in
    let later = delta_pairs page.deltas first.pairs first.rise deltas in (
      later.pairs,
      record {
        base = first.pairs;
        of_base = first.of_base;
        deltas = later.deltas;
        are_deltas = later.are;
        merged = later.merged;
      },
    )

-- ---- all that is held

module _ (newest : ℕ) (version : ℕ) (all : List told.Told) (contents : Contents) (image : Image)
    (is : IsGrammatical newest version all contents image) where
  holds : HoldsOfAll (IsReadable newest) contents
  holds = told_so (IsReadable newest) (told.changes_of all) contents
      (lead_of newest image version all contents is.says) is.readable

  pub documents_read : (number : ℕ) (document : Stored) → map.get contents.documents number
      ≡ Some document → IsDocumentText newest document.text
  documents_read number document found =
      let written = holds.documents number document found in
      subst (λ (d : Stored). IsDocumentText newest d.text) (sym written.is) written.so

  pub policies_read : (number : ℕ) (text : List ℕ) → map.get contents.policies number ≡ Some text
      → IsPolicyText text
  policies_read = holds.policies

  pub pages_read : (page : ℕ) → (pairs : List Pair) × HasPairs (term_page page contents.terms) pairs
  pages_read page =
      page_pairs (term_page page contents.terms) (holds.bases page) (holds.deltas page)
