-- Documents that have no rows may be left out: the rows that are left are the same, before and after they are grouped.
use Rattle.std.proofs.Common.{◌≡◌, ℕ, List, ◌++◌, cond, refl, ap, ap₂, ◌∙◌}
use Rattle.ax_tree.specs.declared.tree.Tree.{Tree}
use Rattle.ax_mean.specs.declared.query.KeyedRow.{KeyedRow}
use Rattle.ax_mean.specs.declared.query.Query.{Query}
use Rattle.ax_mean.specs.Aggregates.{has_groups}
use Rattle.ax_mean.specs.Answer.{all_rows, finish}
use Rattle.ax_mean.specs.Meaning.{Env}
use Rattle.ax_mean.specs.Rows.{envs_of_tree, keyed_rows}
use Rattle.ax_result.specs.Answers.{answer_of}
use Rattle.ax_result.specs.Groups.{all_envs, group_rows}
use Rattle.ax_skips.specs.Skips.{Skips, nothing, kept, skipped}

pub same_rows : (query : Query) (all some : List (ℕ × Tree)) → Skips query all some → all_rows query all ≡ all_rows query some
same_rows query _ _ nothing = refl
same_rows query _ _ (kept document all some more) =
    ap (λ rows. keyed_rows query document.0 document.1 ++ rows) (same_rows query all some more)
same_rows query _ _ (skipped document all some silent more) =
    ap (λ (rows : List KeyedRow). rows ++ all_rows query all) (silent.1 document.0) ∙ same_rows query all some more

pub same_envs : (query : Query) (all some : List (ℕ × Tree)) → Skips query all some → all_envs query all ≡ all_envs query some
same_envs query _ _ nothing = refl
same_envs query _ _ (kept document all some more) =
    ap (λ envs. envs_of_tree query document.1 ++ envs) (same_envs query all some more)
same_envs query _ _ (skipped document all some silent more) =
    ap (λ (envs : List Env). envs ++ all_envs query all) silent.0 ∙ same_envs query all some more

pub same_answer : (query : Query) (all some : List (ℕ × Tree)) → Skips query all some → answer_of query all ≡ answer_of query some
same_answer query all some skips =
    ap₂ (λ (envs : List Env) (rows : List KeyedRow). cond (has_groups query) (finish query (group_rows query envs)) (finish query rows))
    (same_envs query all some skips) (same_rows query all some skips)
