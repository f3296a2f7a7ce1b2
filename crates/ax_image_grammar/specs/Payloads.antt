-- When the payload of a change is in its grammar: what is met only where a text or a list of terms
-- is read, and what opening does not look at. From the store's own file format (docs/FORMAT.md,
-- "Parts"); no other document has it.
use Rattle.std.specs.Prelude.{◌≡◌, ◌≤◌, List, ℕ, Some, true, length, nat_lt, if◌then◌else◌}
use Rattle.ax_tree.specs.declared.tree.Tree.{Tree}
use Rattle.ax_tree.specs.CanonicalText.{canonical_text}
use Rattle.ax_tree.specs.Document.{IsDocument}
use Rattle.ax_tree.specs.Nesting.{nesting}
use Rattle.ax_tree.specs.WellFormed.{IsWellFormed}
use Rattle.ax_storable.specs.IndexLimits.{fits_within, most_term_bytes, most_terms}
use Rattle.ax_storable.specs.Storable.{deepest, most_bytes}
use Rattle.ax_storable.specs.ShortNames.{has_short_names}
use Rattle.ax_policy.specs.declared.policy.Policy.{Policy}
use Rattle.ax_policy.specs.Policies.{policy_of}
use Rattle.ax_policy.specs.Normal.{normal_text, normal_tree}
use Rattle.ax_pair.specs.declared.pair.Pair.{Pair}
use Rattle.ax_leaf.specs.Pairs.{Posting}
use Rattle.ax_leaf.specs.Payload.{IsLeaf}
use Rattle.ax_delta.specs.Changes.{TermChange}
use Rattle.ax_delta.specs.Payload.{IsDelta}
use Rattle.ax_pages.specs.declared.numbers.TheConstants.{PIECES_SINCE}
use Rattle.ax_area.specs.Changes.{Change}
use Rattle.ax_area.specs.Changes as change

-- The text is the normal text of the policy, which is one: of its own text it is read again. It is
-- a text, too: its names are UTF-8.
pub record IsTextOf (text : List ℕ) (policy : Policy) : Type 0 where
  pub well_formed : IsWellFormed (normal_tree policy)
  pub is_policy : policy_of (normal_tree policy) ≡ Some policy
  pub spelled : text ≡ normal_text policy

pub record IsPolicyText (text : List ℕ) : Type 0 where
  pub policy : Policy
  pub is : IsTextOf text policy

-- the most bytes of a document's text for a program that knows versions up to this one
abbrev pub most_text_bytes : ℕ → ℕ
most_text_bytes newest = if nat_lt newest PIECES_SINCE then most_bytes else 2097152

-- the most terms of a document for such a program, and the most bytes of them
abbrev pub most_terms_of : ℕ → ℕ
most_terms_of newest = if nat_lt newest PIECES_SINCE then most_terms else 65536

abbrev pub most_term_bytes_of : ℕ → ℕ
most_term_bytes_of newest = if nat_lt newest PIECES_SINCE then most_term_bytes else 4194304

-- The text is the canonical text of a document within the limits of a program that knows versions
-- up to this one, whatever the version of the area is.
pub record IsDocumentText (newest : ℕ) (text : List ℕ) : Type 0 where
  pub tree : Tree
  pub document : IsDocument tree
  pub well_formed : IsWellFormed tree
  pub shallow : nesting tree ≤ deepest
  pub named : has_short_names tree ≡ true
  pub small : length text ≤ most_text_bytes newest
  pub fits : fits_within (most_terms_of newest) (most_term_bytes_of newest) tree ≡ true
  pub spelled : text ≡ canonical_text tree

pub record IsBasePayload (payload : List ℕ) : Type 0 where
  pub low : Pair
  pub postings : List Posting
  pub is : IsLeaf payload low postings

pub record IsDeltaPayload (payload : List ℕ) : Type 0 where
  pub changes : List TermChange
  pub is : IsDelta payload changes

-- the payload of a change is in its grammar; of a long document the text that all its parts have
abbrev pub IsReadable : ℕ → Change → Type 0
IsReadable newest (change.Meta numbers) = Unit {0}
IsReadable newest (change.Policy number text) = IsPolicyText text
IsReadable newest (change.Document number written) = IsDocumentText newest written.text
IsReadable newest (change.Gone number) = Unit {0}
IsReadable newest (change.Base page payload) = IsBasePayload payload
IsReadable newest (change.Delta page payload) = IsDeltaPayload payload
