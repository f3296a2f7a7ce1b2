-- The step of a script line: from a container and the line's bytes to a container and the reply. A
-- refused line changes nothing.
use Rattle.std.specs.Prelude.{ℕ, List, Option, Some, None, Result, Ok, Err}
use Rattle.ax_tree.specs.declared.tree.Tree.{Tree}
use Rattle.ax_tree.specs.CanonicalText.{canonical_text}
use Rattle.ax_tree.specs.Document.{document_id}
use Rattle.ax_container.specs.Container.{Container, tree_of}
use Rattle.ax_container.specs.Writes.{WriteRefusal, Conflict, Absent, Full, inserted, exchanged, removed, upserted}
use Rattle.ax_lines.specs.declared.line.Line.{Line}
use Rattle.ax_lines.specs.declared.line.Line.TheVariants as line
use Rattle.ax_lines.specs.declared.refusal.Refusal.{Refusal}
use Rattle.ax_lines.specs.declared.refusal.Refusal.TheVariants as refusal
use Rattle.ax_lines.specs.Lines.{line_of}
use Rattle.ax_machine.specs.Reply as reply
use Rattle.ax_machine.specs.Querying.{query_reply}

-- the refusal of a line whose write is refused
abbrev pub write_refusal : WriteRefusal → Refusal
write_refusal Conflict = refusal.Conflict
write_refusal Absent = refusal.Absent
write_refusal Full = refusal.Full

-- a write that was made, or that was refused and changed nothing
abbrev pub written : Container → Result Container WriteRefusal → Container × reply.Reply
written before (Ok after) = (after, reply.Ok)
written before (Err why) = (before, reply.Refused (write_refusal why))

-- a write of a tree by the id that it has as a document; no line asks for one of a tree without
abbrev pub write_by : (List ℕ → Tree → Container → Result Container WriteRefusal)
    → Option (List ℕ) → Tree → Container → Container × reply.Reply
write_by write (Some id) tree container = written container (write id tree container)
write_by write None tree container = (container, reply.Refused refusal.Id)

-- the document of a tree that was looked for
abbrev pub doc_reply : Option Tree → reply.Reply
doc_reply (Some tree) = reply.Doc (canonical_text tree)
doc_reply None = reply.Refused refusal.Absent

-- the document of that id
abbrev pub read_reply : List ℕ → Container → reply.Reply
read_reply id container = doc_reply (tree_of id container)

-- what a line does that is read, and its reply
abbrev pub served : Container → Result Line Refusal → Container × reply.Reply
served container (Ok (line.Create tree)) = write_by inserted (document_id tree) tree container
served container (Ok (line.Upsert tree)) = write_by upserted (document_id tree) tree container
served container (Ok (line.Replace tree)) = write_by exchanged (document_id tree) tree container
served container (Ok (line.Delete id)) = written container (removed id container)
served container (Ok (line.Read id)) = (container, read_reply id container)
served container (Ok (line.Query body)) = (container, query_reply body container)
served container (Err why) = (container, reply.Refused why)

abbrev pub step : Container → List ℕ → Container × reply.Reply
step container bytes = served container (line_of bytes)
