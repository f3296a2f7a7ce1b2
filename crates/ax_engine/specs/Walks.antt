-- How far a query goes over the documents at which it is to look, and what it meets of their texts, whatever the store holds. A
-- query with LIMIT ends once it has enough, as OFFSET and LIMIT of Azure Cosmos DB for NoSQL; any other looks at all.
-- It is this project's own; it comes from no public document.
use Rattle.std.specs.Prelude.{◌≡◌, ◌⊎◌, ◌<◌, ◌≤◌, ℕ, List, [], ◌∷◌, true, Option, None, Some, IsSome}
use Rattle.std.specs.FinMap as finite
use Rattle.std.specs.List.Sorted.{IsStrictlyIncreasing}
use Rattle.ax_answer.specs.Gathering.{HasEnough}
use Rattle.ax_area.specs.Contents.{Contents, Stored}
use Rattle.ax_delta.specs.Said.{has_number}
use Rattle.ax_image.specs.Readable.{newest}
use Rattle.ax_image_grammar.specs.Payloads.{IsDocumentText}
use Rattle.ax_storable.specs.StoredTexts.{IsStoredText}
use Rattle.ax_mean.specs.declared.query.Query.{Query}
use Rattle.ax_tree.specs.declared.tree.Tree.{Tree}

-- of each document of these numbers the text is one that a document can have, where it is one that is read
abbrev pub AreDocuments : (ℕ → Type 0) → (List ℕ → Type 0) → Contents → Type 0
AreDocuments IsOne IsRead contents =
    (number : ℕ) (document : Stored) → 0 < number → IsOne number → finite.get contents.documents number ≡ Some document
    → IsRead document.text → IsDocumentText newest document.text

-- the document of a number, where one is held, with the tree of which its text is, and such behind it of which this is so
abbrev pub BeginsWith : Option Stored → ℕ → List (ℕ × Tree) → (List (ℕ × Tree) → Type 0) → Type 0
BeginsWith None number entries Go = Go entries
BeginsWith (Some stored) number entries Go =
    (tree : Tree) × (rest : List (ℕ × Tree)) × IsStoredText stored.text tree × (entries ≡ (number, tree) ∷ rest) × Go rest

-- the documents of these numbers, one after another, as far as they are held: each the number and the tree of which its text is
abbrev pub AreTexts : Contents → List ℕ → List (ℕ × Tree) → Type 0
AreTexts contents [] entries = entries ≡ []
AreTexts contents (number ∷ numbers) entries =
    BeginsWith (finite.get contents.documents number) number entries (AreTexts contents numbers)

-- Up to the last of these numbers, which rise, none of those at which the query is to look is left out, where a document is held.
pub record AreFirst (IsOne : ℕ → Type 0) (contents : Contents) (numbers : List ℕ) : Type 0 where
  pub rising : IsStrictlyIncreasing numbers
  pub all : (number last : ℕ) → 0 < number → number ≤ last → has_number last numbers ≡ true → IsOne number
      → IsSome (finite.get contents.documents number) → has_number number numbers ≡ true

-- The query has a limit, and looked at the first numbers alone: among them it met no text that is none of a document, where it is
-- one that is read; and no row is wanted, or their documents, where all texts are those of documents, are enough.
pub record EndsEarly (IsOne : ℕ → Type 0) (IsRead : List ℕ → Type 0) (query : Query) (contents : Contents) : Type 0 where
  pub numbers : List ℕ
  pub first : AreFirst IsOne contents numbers
  pub met : AreDocuments (λ number. has_number number numbers ≡ true) IsRead contents
  pub limited : query.limit ≡ None → ⊥
  pub enough : (query.limit ≡ Some 0) ⊎ ((entries : List (ℕ × Tree)) → AreTexts contents numbers entries → HasEnough query entries)

-- it met no such text among the documents of all of these numbers, or ended early
abbrev pub Walks : (ℕ → Type 0) → (List ℕ → Type 0) → Query → Contents → Type 0
Walks IsOne IsRead query contents = AreDocuments IsOne IsRead contents ⊎ EndsEarly IsOne IsRead query contents
