-- Queries whose rows are documents, which are printed as they are stored: the keys of the rows are
-- found by a part of each document.
use Rattle.ax_excerpt.specs.Needs.{NeedsAll}
use Rattle.ax_excerpt.specs.ShownDocuments.{ShowsDocument, without_pick}
use Rattle.ax_mean.specs.declared.query.Query.{Query}

-- its rows are documents, and some part of a document is enough for their keys
abbrev pub IsPrinted : Query → Type 0
IsPrinted query = ShowsDocument query × (NeedsAll (without_pick query) → ⊥)
