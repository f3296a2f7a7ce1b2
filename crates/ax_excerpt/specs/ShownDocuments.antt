-- Queries whose rows are documents themselves, so that a row's text is the text that is stored, and
-- the keys of their rows, which are rows that show nothing of a document.
use Rattle.std.specs.Prelude.{◌≡◌, ℕ, List, [], ◌∷◌, find, ◌==◌, Option, Some, None, false, true}
use Rattle.ax_tree.specs.declared.tree.Tree as tree
use Rattle.ax_tree.specs.declared.tree.Tree.{Tree}
use Rattle.ax_mean.specs.declared.expr.Expr as expr
use Rattle.ax_mean.specs.declared.query.FromItem.{FromItem}
use Rattle.ax_mean.specs.declared.query.KeyedRow.{KeyedRow}
use Rattle.ax_mean.specs.declared.query.Pick.{Pick}
use Rattle.ax_mean.specs.declared.query.Pick.TheVariants as pick
use Rattle.ax_mean.specs.declared.query.Query.{Query}
use Rattle.ax_mean.specs.declared.value.Value.TheVariants.{Defined}
use Rattle.ax_excerpt.specs.Enough.{is_document}

-- the same query with another pick
abbrev pub with_pick : Pick → Query → Query
with_pick picked query =
    record {
      distinct = query.distinct;
      pick = picked;
      froms = query.froms;
      condition = query.condition;
      groups = query.groups;
      orders = query.orders;
      skip = query.skip;
      limit = query.limit;
    }

-- the same query, which shows null for each row
abbrev pub without_pick : Query → Query
without_pick query = with_pick (pick.Value (expr.Literal (Defined tree.Null))) query

-- a row that shows a tree in place of what it shows
abbrev pub showing : Tree → KeyedRow → KeyedRow
showing shown row =
    record { values = row.values; number = row.number; place = row.place; shown = shown }

-- `SELECT *`, or `SELECT VALUE c` with the alias of the one source, which is the document
abbrev pub PicksAlias : List ℕ → Pick → Type 0
PicksAlias alias pick.Star = Unit {0}
PicksAlias alias (pick.Value x) = x ≡ expr.Alias alias
PicksAlias alias (pick.Named items) = ⊥

abbrev pub ShowsFrom : Pick → List FromItem → Type 0
ShowsFrom picked [] = ⊥
ShowsFrom picked (item ∷ []) =
    (is_document item.each item.steps ≡ true) × PicksAlias item.alias picked
ShowsFrom picked (item ∷ next ∷ items) = ⊥

-- each row is one document, and no row falls to DISTINCT
abbrev pub ShowsDocument : Query → Type 0
ShowsDocument query =
    (query.distinct ≡ false) × (query.groups ≡ []) × ShowsFrom query.pick query.froms

-- the tree of that number among documents, each a number and a tree; null where there is none
abbrev pub tree_at : Option (ℕ × Tree) → Tree
tree_at None = tree.Null
tree_at (Some entry) = entry.1

abbrev pub tree_numbered : ℕ → List (ℕ × Tree) → Tree
tree_numbered number entries = tree_at (find (λ (entry : ℕ × Tree). entry.0 == number) entries)
