-- The parts of the batches by which documents are written: what the store is given to commit. In the words
-- of all versions they say the changes of a write.
-- From the store's own file format (docs/FORMAT.md, "Parts"); no other document has it.
use Rattle.std.specs.Prelude.{ℕ, ◌+◌, List, [], ◌∷◌}
use Rattle.ax_frame.specs.Part.{PartValue}
use Rattle.ax_tree.specs.declared.tree.Tree.{Tree}
use Rattle.ax_tree.specs.CanonicalText.{canonical_text}
use Rattle.ax_pages.specs.Contents.{meta_bytes}
use Rattle.ax_pages.specs.declared.numbers.TheConstants.{PLAIN_META, PLAIN_DOCUMENT, GONE}

-- a document of that number, by what its part holds
abbrev pub stored_part : ℕ → List ℕ → PartValue
stored_part number payload = record { kind = PLAIN_DOCUMENT; key = number; payload = payload }

-- the document of that number, under that policy
abbrev pub document_part : ℕ → ℕ → Tree → PartValue
document_part number policy tree = stored_part number (policy ∷ canonical_text tree)

-- the next number, and the number of the policy now
abbrev pub meta_part : ℕ → ℕ → PartValue
meta_part next policy = record { kind = PLAIN_META; key = 0; payload = meta_bytes next policy }

abbrev pub replacing_parts : ℕ → ℕ → Tree → List PartValue
replacing_parts number policy tree = document_part number policy tree ∷ []

abbrev pub creating_parts : ℕ → ℕ → Tree → List PartValue
creating_parts number policy tree = meta_part (number + 1) policy ∷ document_part number policy tree ∷ []

-- what says that the document of that number is gone
abbrev pub gone_part : ℕ → PartValue
gone_part number = record { kind = GONE; key = number; payload = [] }

abbrev pub deleting_parts : ℕ → List PartValue
deleting_parts number = gone_part number ∷ []
