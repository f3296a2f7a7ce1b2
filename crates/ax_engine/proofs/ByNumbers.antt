-- Documents that are taken into an answer number by number.
use Rattle.std.proofs.Common.{◌≡◌, ℕ, ◌+◌, ◌<◌, ◌≤◌, ◌==◌, List, [], ◌∷◌, ◌++◌, length, take, drop, get_or, true, Contains, Option, Some, None, Result}
use Rattle.std.proofs.Common.{Ok, Err, OnOk, refl, sym, ap, subst, ◌∙◌, ⊎_elim, arith}
use Rattle.std.specs.FinMap as finite
use Rattle.std.proofs.lemmas.Bool.{eqb-true}
use Rattle.std.proofs.lemmas.List.{take_all, take_more, take-append-drop}
use Rattle.std.proofs.lemmas.List.Elements.{Contains-push_cases}
use Rattle.ax_answer_text.specs.TextAnswers.{Answers}
use Rattle.ax_answer_text.specs.declared.text_answer.TextAnswer.{TextAnswer}
use Rattle.ax_area.specs.Contents.{Contents, Stored}
use Rattle.ax_candidates.proofs.Shared.{contains_from_has, has_from_contains}
use Rattle.ax_container.specs.Container.{Container}
use Rattle.ax_delta.specs.Said.{has_number}
use Rattle.ax_gap.specs.Gaps.{IsRisingList}
use Rattle.ax_image.specs.Documents.{ContentsHold}
use Rattle.ax_image.specs.Readable.{newest}
use Rattle.ax_image_grammar.specs.Payloads.{IsDocumentText}
use Rattle.ax_storable.specs.Storable.{IsStorable}
use Rattle.ax_machine.specs.Querying.{numbered}
use Rattle.ax_mean.specs.declared.query.Query.{Query}
use Rattle.ax_pairs.specs.PairSets.{PairSet}
use Rattle.ax_policy.specs.Table.{Table}
use Rattle.ax_skips.proofs.ByNumber.{document_held, none_held}
use Rattle.ax_skips.proofs.Fetching.{fetched_more, fetched_none, fetched_one}
use Rattle.ax_skips.specs.Candidates.{HasCandidates}
use Rattle.ax_skips.specs.Chosen.{fetched}
use Rattle.ax_skips.specs.Planned.{IsPlannedOver}
use Rattle.ax_store.specs.declared.fault.StoreFault.{StoreFault}
use Rattle.ax_term.specs.declared.range.TermRange.{TermRange}
use Rattle.ax_tree.specs.CanonicalText.{canonical_text}
use Rattle.ax_tree.specs.declared.tree.Tree.{Tree}
use Rattle.ax_engine.specs.Candidates.{ArePlanned, CountsOneEach}
use Rattle.ax_engine.specs.Walks.{AreDocuments}
use Rattle.ax_engine.specs.declared.candidates.Candidates.TheVariants.{All}
use Rattle.ax_engine.specs.StoreSays.{text_of}

-- the texts of the documents of these numbers are those of documents, where they are such that are read
abbrev pub AreDocumentsOf : List ℕ → (List ℕ → Type 0) → Contents → Type 0
AreDocumentsOf numbers IsRead contents = AreDocuments (λ number. has_number number numbers ≡ true) IsRead contents

-- what one number more does to an answer
pub record TakesOne (contents : Contents) (query : Query) (old new : TextAnswer) (number : ℕ) : Type 0 where
  pub held : (tree : Tree) → text_of (finite.get contents.documents number) ≡ Some (canonical_text tree) → IsStorable tree
      → (entries : List (ℕ × Tree)) → Answers old query entries → Answers new query (entries ++ (number, tree) ∷ [])
  pub unheld : finite.get contents.documents number ≡ None
      → (entries : List (ℕ × Tree)) → Answers old query entries → Answers new query entries

module _ (contents : Contents) (container : Container) (hold : ContentsHold contents container) (query : Query)
    (old new : TextAnswer) (numbers : List ℕ) (number : ℕ) (takes : TakesOne contents query old new number)
    (before : Answers old query (fetched numbers container)) where
  by_held : (found : Option Stored) → finite.get contents.documents number ≡ found
      → Answers new query (fetched (numbers ++ number ∷ []) container)
  by_held None is =
      subst (Answers new query) (sym (fetched_none container numbers number (none_held contents container number hold is)))
      (takes.unheld is (fetched numbers container) before)
  by_held (Some document) is =
      let there = document_held contents container number document hold is in
      subst (Answers new query) (sym (fetched_one container numbers number there.tree there.at))
      (takes.held there.tree (ap text_of is ∙ ap (λ text. Some text) there.spelled) there.storable (fetched numbers container) before)

  pub one_taken : Answers new query (fetched (numbers ++ number ∷ []) container)
  one_taken = by_held (finite.get contents.documents number) refl

module _ (numbers : List ℕ) (i : ℕ) (low : i < length numbers) where
  abbrev here : ℕ
  here = get_or numbers i 0

  pub longer : take (i + 1) numbers ≡ take i numbers ++ get_or numbers i 0 ∷ []
  longer = take_more numbers i 0 low

  -- the text of the next one too is that of a document
  pub one_more : (contents : Contents) (IsRead : List ℕ → Type 0) → AreDocumentsOf (take i numbers) IsRead contents
      → ((text : List ℕ) → text_of (finite.get contents.documents (get_or numbers i 0)) ≡ Some text → IsRead text → IsDocumentText newest text)
      → AreDocumentsOf (take (i + 1) numbers) IsRead contents
  one_more contents IsRead before next number document low there at read =
      ⊎_elim {C = IsDocumentText newest document.text}
      (λ (old : Contains (take i numbers) number). before number document low (has_from_contains (take i numbers) number old) at read)
      (λ (new : here ≡ number). next document.text (ap (λ n. text_of (finite.get contents.documents n)) new ∙ ap text_of at) read)
      (Contains-push_cases (take i numbers) here number
      (subst (λ (list : List ℕ). Contains list number) longer (contains_from_has (take (i + 1) numbers) number there)))

-- of no number
pub none_yet : (numbers : List ℕ) (IsRead : List ℕ → Type 0) (contents : Contents) → AreDocumentsOf (take 0 numbers) IsRead contents
none_yet numbers IsRead contents number document low there at read = absurd (cc)

-- all of them
pub all_taken : (numbers : List ℕ) (i : ℕ) → length numbers ≤ i → take i numbers ≡ numbers
all_taken numbers i past = take_all i numbers past

-- those behind it are fetched behind those before
pub in_two : (container : Container) (numbers : List ℕ) (i : ℕ)
    → fetched (take i numbers) container ++ fetched (drop i numbers) container ≡ fetched numbers container
in_two container numbers i =
    sym (fetched_more container (take i numbers) (drop i numbers)) ∙ ap (λ list. fetched list container) (take-append-drop i numbers)

-- ---- all of a query's candidates

pub nil_of : (numbers : List ℕ) → true ≡ (length numbers == 0) → numbers ≡ []
nil_of [] is = refl
nil_of (number ∷ numbers) is =
    let none : length (number ∷ numbers) ≡ 0 = eqb-true (length (number ∷ numbers)) 0 (sym is) in
    absurd (omega (arith, none))

-- what the law of candidates says of an answer that took in what was fetched
abbrev pub TakenLaw : Type 0
TakenLaw =
    (answer : TextAnswer) (query : Query) (table : Table) (unions : List (List TermRange)) (container : Container) (set : PairSet)
    (numbers : List ℕ) → IsPlannedOver query table unions container set → HasCandidates unions set numbers → IsRisingList numbers
    → Answers answer query (fetched numbers container) → Answers answer query (numbered container)

-- the documents of the numbers are all that have rows
pub all_by_law : TakenLaw → (answer : TextAnswer) (query : Query) (container : Container) (numbers : List ℕ)
    → ArePlanned query container numbers → Answers answer query (fetched numbers container) → Answers answer query (numbered container)
all_by_law law answer query container numbers planned taken =
    law answer query planned.table planned.unions container planned.set numbers planned.planned planned.all planned.rising taken

pub on_ok_by : {T E : Type 0} → (result : Result T E) (One Other : Type 0) → (One → Other) → OnOk result One → OnOk result Other
on_ok_by (Ok value) One Other to is = to is
on_ok_by (Err why) One Other to is = tt

-- one step for each document
pub counts_each : (result : Result (Unit {0}) StoreFault) (contents : Contents) (old new : ℕ)
    → ((container : Container) → ContentsHold contents container → OnOk result (old + length container.entries ≤ new))
    → OnOk result (CountsOneEach All contents old new)
counts_each (Ok done) contents old new each = each
counts_each (Err why) contents old new each = tt
