-- The answer of a query from the rows of its documents: they are sorted, of rows that show the same
-- text the first is kept where DISTINCT is written, and OFFSET and LIMIT choose among what is left.
use Rattle.std.specs.Prelude.{ℕ, List, [], ◌∷◌, take, drop, Bool, true, false, ◌||◌, Option, Some, None, if◌then◌else◌}
use Rattle.std.specs.declared.cmp.Ordering.{Ordering}
use Rattle.std.specs.Ordering.{is_lt}
use Rattle.std.specs.List.{flat_map}
use Rattle.std.specs.Str.{bytes_eq}
use Rattle.ax_tree.specs.CanonicalText.{canonical_text}
use Rattle.ax_tree.specs.declared.tree.Tree.{Tree}
use Rattle.ax_mean.specs.declared.query.KeyedRow.{KeyedRow}
use Rattle.ax_mean.specs.declared.query.Query.{Query}
use Rattle.ax_mean.specs.Aggregates.{has_groups}
use Rattle.ax_mean.specs.RowOrder.{key_cmp}
use Rattle.ax_mean.specs.Rows.{keyed_rows}

-- an element put before the first that is not below it
abbrev pub inserted : {X : Type 0} → (X → X → Ordering) → X → List X → List X
inserted cmp x [] = x ∷ []
inserted cmp x (y ∷ ys) = if is_lt (cmp y x) then y ∷ inserted cmp x ys else x ∷ y ∷ ys

-- in order, and elements that tie as they stood
abbrev pub sorted : {X : Type 0} → (X → X → Ordering) → List X → List X
sorted cmp [] = []
sorted cmp (x ∷ xs) = inserted cmp x (sorted cmp xs)

-- the rows whose text was not seen, neither before nor in an earlier row
abbrev pub unseen : (List ℕ → Bool) → List KeyedRow → List KeyedRow
unseen seen [] = []
unseen seen (row ∷ rows) =
    if seen (canonical_text row.shown) then unseen seen rows
    else row ∷ unseen (λ text. bytes_eq (canonical_text row.shown) text || seen text) rows

abbrev pub distinct_where : Bool → List KeyedRow → List KeyedRow
distinct_where false rows = rows
distinct_where true rows = unseen (λ text. false) rows

abbrev pub limited : {X : Type 0} → Option ℕ → List X → List X
limited None rows = rows
limited (Some limit) rows = take limit rows

-- The rows of a query with groups come in the order of their groups, which is kept.
abbrev pub ordered : Query → List KeyedRow → List KeyedRow
ordered query rows = if has_groups query then rows else sorted (key_cmp query.orders) rows

abbrev pub finish : Query → List KeyedRow → List KeyedRow
finish query rows =
    limited query.limit (drop query.skip (distinct_where query.distinct (ordered query rows)))

-- the rows of all documents, each a number and a tree
abbrev pub all_rows : Query → List (ℕ × Tree) → List KeyedRow
all_rows query entries = flat_map (λ e. keyed_rows query e.0 e.1) entries

abbrev pub answer : Query → List (ℕ × Tree) → List KeyedRow
answer query entries = finish query (all_rows query entries)
