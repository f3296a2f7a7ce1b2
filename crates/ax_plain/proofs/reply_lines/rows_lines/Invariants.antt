-- The rows so far and those that are left make the whole.
use Rattle.std.proofs.Common.{◌≡◌, ◌++◌, map, drop}
use Rattle.std.specs.List.{flat_map}
use Rattle.ax_tree.specs.CanonicalText.{canonical_text}
use Rattle.ax_machine.specs.ReplyTexts.{row_text}
use Rattle.ax_plain.proofs.reply_lines.rows_lines.Given as goal

abbrev pub invariant-loop-row : goal.invariant-loop-row
invariant-loop-row l =
    l.text.items ++ flat_map row_text
    (map (λ row. canonical_text row.shown) (drop l.row-index l.rows))
    ≡ flat_map row_text (map (λ row. canonical_text row.shown) l.rows)
