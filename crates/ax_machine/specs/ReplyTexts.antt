-- The text of a reply: lines that each end with a newline.
use Rattle.std.specs.Prelude.{ℕ, List, ◌++◌, length, decimal, codes}
use Rattle.std.specs.List.{flat_map}
use Rattle.ax_lines.specs.declared.refusal.Refusal.{Refusal}
use Rattle.ax_lines.specs.Refusals.{number_of, word_of}
use Rattle.ax_lines.specs.ScriptLines.{with_newline}
use Rattle.ax_machine.specs.Reply as reply

abbrev pub doc_text : List ℕ → List ℕ
doc_text text = with_newline (codes "doc " ++ text)

abbrev pub row_text : List ℕ → List ℕ
row_text row = with_newline (codes "row " ++ row)

-- what stands behind so many rows
abbrev pub end_text : reply.RowsEnd → ℕ → List ℕ
end_text reply.End count = with_newline (codes "end " ++ decimal count)
end_text (reply.More token) count =
    with_newline (codes "more " ++ decimal count ++ codes " " ++ token)

abbrev pub refusal_text : Refusal → List ℕ
refusal_text why = with_newline
    (codes "err " ++ decimal (number_of why) ++ codes " " ++ word_of why)

abbrev pub reply_text : reply.Reply → List ℕ
reply_text reply.Ok = with_newline (codes "ok")
reply_text (reply.Doc text) = doc_text text
reply_text (reply.Rows rows ending) = flat_map row_text rows ++ end_text ending (length rows)
reply_text (reply.Refused why) = refusal_text why
