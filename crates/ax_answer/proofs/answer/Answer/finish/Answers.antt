-- The rows of what is kept are those of the answer.
use Rattle.std.proofs.Common.{◌≡◌, ℕ, List, map}
use Rattle.std.proofs.lemmas.Result.{IfOk-weaker}
use Rattle.std.specs.List.Sorted.{IsStrictlySortedBy}
use Rattle.std.specs.Ordering.{nat_cmp}
use Rattle.ax_tree.specs.declared.tree.Tree.{Tree}
use Rattle.ax_mean.specs.declared.query.Query.{Query}
use Rattle.ax_result.specs.Answers.{answer_of}
use Rattle.ax_answer.specs.Gathering.{Gathers}
use Rattle.ax_answer.proofs.Gathered.{same_query}
use Rattle.ax_answer.proofs.answer.Answer.finish.Goals as goal

pub returns : goal.returns
returns c =
    IfOk-weaker c.finish.result _
    (λ rows. (query : Query) → (entries : List (ℕ × Tree)) → Gathers c.args.self query entries
    → IsStrictlySortedBy nat_cmp (map (λ e. e.0) entries) → rows.items ≡ answer_of query entries)
    (λ rows made query entries gathers rising.
    same_query c.args.self.query.now query c.args.self.held entries rows.items gathers.0 made gathers.1
    rising)
    c.finish.ensures
