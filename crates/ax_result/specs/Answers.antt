-- The answer of any query over documents, with groups or without.
use Rattle.std.specs.Prelude.{ℕ, List, if◌then◌else◌}
use Rattle.ax_tree.specs.declared.tree.Tree.{Tree}
use Rattle.ax_mean.specs.declared.query.KeyedRow.{KeyedRow}
use Rattle.ax_mean.specs.declared.query.Query.{Query}
use Rattle.ax_mean.specs.Aggregates.{has_groups}
use Rattle.ax_mean.specs.Answer.{answer}
use Rattle.ax_result.specs.Groups.{group_answer}

abbrev pub answer_of : Query → List (ℕ × Tree) → List KeyedRow
answer_of query entries =
    if has_groups query then group_answer query entries else answer query entries
