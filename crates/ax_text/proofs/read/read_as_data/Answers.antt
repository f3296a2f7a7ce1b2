-- What `serde_json` read decides what the bytes are.
use Rattle.std.proofs.Common.{◌≡◌, Some, ap, sym, ◌∙◌, true≢false}
use Rattle.std.proofs.lemmas.Result.{IfOk-weaker}
use Rattle.serde_json.specs.View.{view}
use Rattle.ax_text.specs.Reading.{Stands, reading, of_tree}
use Rattle.ax_text.specs.TreeOf.{tree_of}
use Rattle.ax_text.proofs.Readings.{reading-data, reading-refused}
use Rattle.ax_text.proofs.read.read_as_data.Goals as goal
use Rattle.ax_text.proofs.read.read_as_data.Goals.{then-is_memory, else-is_memory}

pub returns-in-Ok-clause-tree : goal.returns-in-Ok-clause-tree
returns-in-Ok-clause-tree c =
    let read : reading c.args.bytes.now ≡ of_tree (tree_of (view c.in-Ok.value)) =
    reading-data _ _ c.in-Ok.ensures.ok.0 c.in-Ok.ensures.ok.1 in
    IfOk-weaker c.tree_from.result (λ tree. tree_of (view c.in-Ok.value) ≡ Some tree)
    (λ tree. reading c.args.bytes.now ≡ Stands tree)
    (λ tree e. read ∙ ap of_tree e) c.tree_from.ensures.tree

pub returns-in-Ok-clause-number : goal.returns-in-Ok-clause-number
returns-in-Ok-clause-number c =
    let read : reading c.args.bytes.now ≡ of_tree (tree_of (view c.in-Ok.value)) =
    reading-data _ _ c.in-Ok.ensures.ok.0 c.in-Ok.ensures.ok.1 in
    λ e. read ∙ ap of_tree (c.tree_from.ensures.number e)

pub returns-after-is_memory-clause-json : goal.returns-after-is_memory-clause-json
returns-after-is_memory-clause-json c = elim c.if-is_memory.branch [
  | then-is_memory w ↦ λ e. absurd (cc)
  | else-is_memory w ↦ λ e. reading-refused c.args.bytes.now
      (c.in-Err.ensures.err
      (λ memory. true≢false (sym (c.is_memory.ensures.1 memory) ∙ w.if-is_memory.false)))
]
