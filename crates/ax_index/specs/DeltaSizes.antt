-- How long terms may be, and as how many bytes changes are counted in a delta.
-- It is this project's own; it comes from no public document.
use Rattle.std.specs.Prelude.{ℕ, ◌+◌, ◌<◌, ◌≤◌, ◌⊎◌, List, [], ◌∷◌, length}
use Rattle.std.specs.List.{All}
use Rattle.ax_delta.specs.declared.change.Change.{Change}
use Rattle.ax_pair.specs.declared.pair.Pair.{Pair}

-- the most bytes of a term
abbrev pub most_term_bytes : ℕ
most_term_bytes = 4096

-- no term of the changes has more
abbrev pub HaveShortTerms : List Change → Type 0
HaveShortTerms changes = All (λ change. length change.pair.term ≤ most_term_bytes) changes

-- nor has the low pair of a page, nor one of its pairs
abbrev pub AreShort : Pair → List Pair → Type 0
AreShort low pairs = (length low.term ≤ most_term_bytes) × All (λ pair. length pair.term ≤ most_term_bytes) pairs

-- the low pair of a page, or one of its pairs, has a term of more
abbrev pub HasLongTerm : Pair → List Pair → Type 0
HasLongTerm low [] = most_term_bytes < length low.term
HasLongTerm low (pair ∷ pairs) = (most_term_bytes < length pair.term) ⊎ HasLongTerm low pairs

-- each change counts as the bytes of its term and 25 more
abbrev pub counted_bytes : List Change → ℕ
counted_bytes [] = 0
counted_bytes (change ∷ changes) = 25 + length change.pair.term + counted_bytes changes
