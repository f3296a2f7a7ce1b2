-- A document without rows adds nothing to an answer.
use Rattle.std.proofs.Common.{◌≡◌, ℕ, List, [], ◌∷◌, ◌++◌, sym, ap, subst, ◌∙◌}
use Rattle.std.specs.List.{flat_map}
use Rattle.ax_tree.specs.declared.tree.Tree.{Tree}
use Rattle.ax_mean.specs.declared.query.KeyedRow.{KeyedRow}
use Rattle.ax_mean.specs.declared.query.Query.{Query}
use Rattle.ax_mean.specs.Answer.{all_rows}
use Rattle.ax_mean.specs.Meaning.{Env}
use Rattle.ax_mean.specs.Rows.{envs_of_tree, keyed_rows}
use Rattle.ax_rows.specs.Front.{IsFront}
use Rattle.ax_rows.specs.Least.{HoldsLeast}
use Rattle.ax_group.specs.States.{Holds}
use Rattle.ax_result.specs.Groups.{all_envs}
use Rattle.ax_answer.specs.declared.answer.Answer as answers
use Rattle.ax_answer.specs.declared.held.Held as held
use Rattle.ax_answer.specs.declared.held.Held.TheVariants.{Nothing, InGroups, Front, Least, Every}
use Rattle.ax_answer.specs.Gathering.{Gathers, GathersIn, KeepsLeast}

none_more : {X A : Type 0} (f : X → List A) (xs : List X) (x : X) → f x ≡ []
    → flat_map f (xs ++ x ∷ []) ≡ flat_map f xs
none_more f [] x none = ap (λ ys. ys ++ []) none
none_more f (y ∷ ys) x none = ap (λ zs. f y ++ zs) (none_more f ys x none)

module _ (query : Query) (entries : List (ℕ × Tree)) (number : ℕ) (tree : Tree)
    (no_envs : envs_of_tree query tree ≡ []) (no_rows : keyed_rows query number tree ≡ []) where
  abbrev more : List (ℕ × Tree)
  more = entries ++ (number, tree) ∷ []

  same_envs : all_envs query entries ≡ all_envs query more
  same_envs = sym (none_more (λ e. envs_of_tree query e.1) entries (number, tree) no_envs)

  same_rows : all_rows query entries ≡ all_rows query more
  same_rows = sym (none_more (λ e. keyed_rows query e.0 e.1) entries (number, tree) no_rows)

  gathers_in : (kept : held.Held) → GathersIn kept query entries → GathersIn kept query more
  gathers_in Nothing gathers = gathers
  gathers_in (InGroups groups) gathers = (
    gathers.0,
    gathers.1,
    subst (λ (envs : List Env). Holds groups query envs) same_envs gathers.2,
  )
  gathers_in (Front front) gathers = (
    gathers.0,
    gathers.1,
    gathers.2,
    subst (λ (rows : List KeyedRow). IsFront front query.distinct query.skip query.limit rows)
        same_rows gathers.3,
  )
  gathers_in (Least least) gathers =
      let kept : KeepsLeast least query entries = gathers.4 in (
        gathers.0,
        gathers.1,
        gathers.2,
        gathers.3,
        (
          kept.0,
          kept.1,
          subst (λ (rows : List KeyedRow). HoldsLeast least query.orders kept.0 rows) same_rows kept.2,
        ),
      )
  gathers_in (Every rows) gathers = (gathers.0, gathers.1, gathers.2, gathers.3 ∙ same_rows)

  pub nothing_added : (answer : answers.Answer) → Gathers answer query entries
      → Gathers answer query more
  nothing_added answer gathers = (gathers.0, gathers_in answer.held gathers.1)
