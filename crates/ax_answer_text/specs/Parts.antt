-- What is read of documents for a query: parts that are enough for it, or all of them.
use Rattle.std.specs.Prelude.{◌≡◌, ◌≢◌, ◌⊎◌, ℕ, List, [], map, Bool, true, Option, Some, None}
use Rattle.ax_tree.specs.CanonicalText.{canonical_text}
use Rattle.ax_tree.specs.declared.tree.Tree.{Tree}
use Rattle.ax_mean.specs.declared.query.Query.{Query}
use Rattle.ax_mean.specs.Rows.{envs_of_tree}
use Rattle.ax_excerpt.specs.declared.excerpt.Excerpt.{Excerpt}
use Rattle.ax_excerpt.specs.declared.excerpt.Excerpt.TheVariants.{Whole}
use Rattle.ax_excerpt.specs.Enough.{is_enough}
use Rattle.ax_excerpt.specs.Excerpts.{excerpt_of}
use Rattle.ax_excerpt.specs.Needs.{NeedsAll}
use Rattle.ax_excerpt.specs.Plain.{are_plain}
use Rattle.ax_excerpt_text.specs.Wholes.{IsNoMap}
use Rattle.ax_storable.specs.StoredTexts.{IsStoredText}

-- what is read of a document: what an excerpt leaves of it, and all of it without one
abbrev pub part_of : Option Excerpt → Tree → Tree
part_of None tree = tree
part_of (Some excerpt) tree = excerpt_of excerpt tree

abbrev pub parts_of : Option Excerpt → List (ℕ × Tree) → List (ℕ × Tree)
parts_of excerpt entries = map (λ entry. (entry.0, part_of excerpt entry.1)) entries

-- what is read is all that the query looks at
abbrev pub Suffices : Option Excerpt → Query → Type 0
Suffices None query = Unit {0}
Suffices (Some excerpt) query = is_enough excerpt query ≡ true

-- the names of an excerpt are written without an escape
abbrev pub is_plain : Option Excerpt → Bool
is_plain None = true
is_plain (Some excerpt) = are_plain excerpt

-- bytes of which all is read: without an excerpt, by one that asks for the whole document, and where
-- they do not begin as a map does
abbrev pub AreReadWhole : Option Excerpt → List ℕ → Type 0
AreReadWhole None text = Unit {0}
AreReadWhole (Some excerpt) text = (excerpt ≡ Whole) ⊎ IsNoMap text

-- The same bytes, told by the query: no part of a document is enough for it, or they do not begin as a
-- map does.
abbrev pub AreReadWholeFor : Query → List ℕ → Type 0
AreReadWholeFor query text = NeedsAll query ⊎ IsNoMap text

-- the text is the canonical text of a tree that has rows in the query, before they are grouped
pub record HasRows (query : Query) (text : List ℕ) : Type 0 where
  pub tree : Tree
  pub spelled : text ≡ canonical_text tree
  pub rows : envs_of_tree query tree ≢ []

-- No condition of the query passes the text over: it has none, or the text is that of a tree that has rows
-- in it.
abbrev pub IsKept : Query → List ℕ → Type 0
IsKept query text = (query.condition ≡ None) ⊎ HasRows query text

-- all of the text is read for the query, and it is not passed over
abbrev pub IsTakenWhole : Query → List ℕ → Type 0
IsTakenWhole query text = AreReadWholeFor query text × IsKept query text

-- the text is that of a document that a store can hold
abbrev pub IsOfDocument : List ℕ → Type 0
IsOfDocument text = (tree : Tree) × IsStoredText text tree
