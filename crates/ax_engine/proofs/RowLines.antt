-- The lines of rows.
use Rattle.std.proofs.Common.{◌≡◌, ℕ, ◌+◌, ◌<◌, ◌≤◌, List, ◌∷◌, ◌++◌, map, drop, length, get_or, sym, ap, ◌∙◌, append_assoc, append-nil}
use Rattle.std.proofs.lemmas.List.{drop_all, drop_more}
use Rattle.std.specs.List.{flat_map}
use Rattle.ax_mean.specs.declared.query.KeyedRow.{KeyedRow}
use Rattle.ax_machine.specs.ReplyTexts.{row_text}
use Rattle.ax_excerpt.specs.ShownDocuments.{tree_numbered}
use Rattle.ax_tree.specs.CanonicalText.{canonical_text}
use Rattle.ax_tree.specs.declared.tree.Tree.{Tree}

abbrev pub lines_of_rows : List KeyedRow → List ℕ
lines_of_rows rows = flat_map row_text (map (λ row. canonical_text row.shown) rows)

-- the lines of documents as rows, each the one of its row's number
abbrev pub lines_of_documents : List (ℕ × Tree) → List KeyedRow → List ℕ
lines_of_documents entries rows =
    flat_map row_text (map (λ row. canonical_text (tree_numbered row.number entries)) rows)

next : (rows : List KeyedRow) (i : ℕ) (row : KeyedRow) → i < length rows → row ≡ get_or rows i row
    → drop i rows ≡ row ∷ drop (i + 1) rows
next rows i row low is = drop_more rows i row low ∙ ap (λ (x : KeyedRow). x ∷ drop (i + 1) rows) (sym is)

-- a row more has its line
pub line_added : (entries : List (ℕ × Tree)) (rows : List KeyedRow) (i : ℕ) (row : KeyedRow) (lines more : List ℕ)
    → i < length rows → row ≡ get_or rows i row
    → more ≡ lines ++ row_text (canonical_text (tree_numbered row.number entries))
    → lines ++ lines_of_documents entries (drop i rows) ≡ lines_of_documents entries rows
    → more ++ lines_of_documents entries (drop (i + 1) rows) ≡ lines_of_documents entries rows
line_added entries rows i row lines more low is added whole =
    ap (λ l. l ++ lines_of_documents entries (drop (i + 1) rows)) added
    ∙ append_assoc lines (row_text (canonical_text (tree_numbered row.number entries))) (lines_of_documents entries (drop (i + 1) rows))
    ∙ ap (λ rs. lines ++ lines_of_documents entries rs) (sym (next rows i row low is))
    ∙ whole

-- no row is left
pub lines_ended : (entries : List (ℕ × Tree)) (rows : List KeyedRow) (i : ℕ) (lines : List ℕ) → length rows ≤ i
    → lines ++ lines_of_documents entries (drop i rows) ≡ lines_of_documents entries rows
    → lines ≡ lines_of_documents entries rows
lines_ended entries rows i lines end whole =
    sym (append-nil lines)
    ∙ ap (λ rs. lines ++ lines_of_documents entries rs) (sym (drop_all i rows end))
    ∙ whole
