-- Which pairs a term page has: those of its base, as its deltas change them, the oldest first.
-- From the store's own file format (docs/FORMAT.md, "Term pages"). Postings that stand in pages and are
-- changed by appended deltas, without being read: Shukla et al., "Schema-Agnostic Indexing with Azure
-- DocumentDB", VLDB 2015.
use Rattle.std.specs.Prelude.{◌≡◌, ℕ, List, [], ◌∷◌, Option, Some, None}
use Rattle.ax_pair.specs.declared.pair.Pair.{Pair}
use Rattle.ax_leaf.specs.Pairs.{Posting, pairs_of}
use Rattle.ax_leaf.specs.Payload.{IsLeaf}
use Rattle.ax_delta.specs.Changes.{TermChange}
use Rattle.ax_delta.specs.Merge.{AreMerged}
use Rattle.ax_delta.specs.Payload.{IsDelta}
use Rattle.ax_pages.specs.Contents.{TermPage}

-- the payload is that of a base with these pairs
pub record IsBase (payload : List ℕ) (pairs : List Pair) : Type 0 where
  pub low : Pair
  pub postings : List Posting
  pub is : IsLeaf payload low postings
  pub have : pairs ≡ pairs_of postings

-- the pairs of a page's base; none before the first base
abbrev pub AreOfBase : Option (List ℕ) → List Pair → Type 0
AreOfBase None pairs = pairs ≡ []
AreOfBase (Some payload) pairs = IsBase payload pairs

-- each payload is that of a delta with these changes
abbrev pub AreDeltas : List (List ℕ) → List (List TermChange) → Type 0
AreDeltas [] [] = Unit {0}
AreDeltas [] (changes ∷ deltas) = ⊥
AreDeltas (payload ∷ payloads) [] = ⊥
AreDeltas (payload ∷ payloads) (changes ∷ deltas) = IsDelta payload changes × AreDeltas payloads deltas

-- the page has these pairs, in order
pub record HasPairs (page : TermPage) (pairs : List Pair) : Type 0 where
  pub base : List Pair
  pub of_base : AreOfBase page.base base
  pub deltas : List (List TermChange)
  pub are_deltas : AreDeltas page.deltas deltas
  pub merged : AreMerged base deltas pairs
