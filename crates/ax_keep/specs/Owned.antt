-- The pairs that a document has in the index: the term of its id, whatever the policy, and the terms that
-- it has under the policy, each with its number.
-- As in Shukla et al., "Schema-Agnostic Indexing with Azure DocumentDB", VLDB 2015; what the bytes of a term
-- are, docs/FORMAT.md says.
use Rattle.std.specs.Prelude.{◌≡◌, ◌↔◌, ◌⊎◌, ℕ, List, [], ◌∷◌, Option, Some, None}
use Rattle.ax_tree.specs.declared.tree.Tree.{Tree}
use Rattle.ax_tree.specs.Document.{document_id}
use Rattle.ax_pair.specs.declared.pair.Pair.{Pair}
use Rattle.ax_pair.specs.Order.{Rise}
use Rattle.ax_policy.specs.declared.policy.Policy.{Policy}
use Rattle.ax_term.specs.TermBytes.{term_bytes}
use Rattle.ax_term.specs.Terms.{Term}
use Rattle.ax_terms.specs.TermsOf.{HasTerm}
use Rattle.ax_keep.specs.Exchanges.{IsIn}

-- the bytes are the term of the document's id
pub record IsIdTerm (document : Tree) (bytes : List ℕ) : Type 0 where
  pub id : List ℕ
  pub own : document_id document ≡ Some id
  pub is : bytes ≡ term_bytes (Term.Id id)

-- the bytes are a term by which the index finds the document under the policy
abbrev pub HasIndexTerm : Policy → Tree → List ℕ → Type 0
HasIndexTerm policy document bytes = IsIdTerm document bytes ⊎ HasTerm policy document bytes

-- the same, where there is a document: the policy of none plays no part
abbrev pub HasTermUnder : Policy → Option Tree → List ℕ → Type 0
HasTermUnder policy None bytes = ⊥
HasTermUnder policy (Some document) bytes = HasIndexTerm policy document bytes

-- the pair is one of the document with that number, where there is a document
abbrev pub Owns : ℕ → Policy → Option Tree → Pair → Type 0
Owns number policy document pair = (pair.number ≡ number) × HasTermUnder policy document pair.term

-- What follows only clauses of private functions cite.

-- The pairs rise, and are those of the document.
pub record AreOwned (number : ℕ) (policy : Policy) (document : Option Tree) (pairs : List Pair) : Type 0 where
  pub rise : Rise pairs
  pub exact : (pair : Pair) → IsIn pairs pair ↔ Owns number policy document pair

-- terms, each with the number
abbrev pub with_number : ℕ → List (List ℕ) → List Pair
with_number number [] = []
with_number number (term ∷ terms) = record { term = term; number = number } ∷ with_number number terms
