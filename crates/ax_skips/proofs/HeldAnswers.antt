-- An answer that took in some of the documents is one that took in all, where those that were left out have no rows.
use Rattle.std.proofs.Common.{◌≡◌, ℕ, List, [], ◌∷◌, ◌++◌, Option, Some, None, sym, subst, ◌∙◌}
use Rattle.ax_tree.specs.declared.tree.Tree.{Tree}
use Rattle.ax_mean.specs.declared.query.KeyedRow.{KeyedRow}
use Rattle.ax_mean.specs.declared.query.Query.{Query}
use Rattle.ax_mean.specs.Answer.{all_rows}
use Rattle.ax_mean.specs.Meaning.{Env}
use Rattle.ax_rows.specs.Front.{IsFront}
use Rattle.ax_rows.specs.Least.{HoldsLeast}
use Rattle.ax_group.specs.States.{Holds}
use Rattle.ax_result.specs.Groups.{all_envs}
use Rattle.ax_excerpt.specs.declared.excerpt.Excerpt.{Excerpt}
use Rattle.ax_excerpt.proofs.RowsAlike.{none_passes}
use Rattle.ax_excerpt.proofs.SameRows as part
use Rattle.ax_answer.specs.declared.held.Held as held
use Rattle.ax_answer.specs.declared.held.Held.TheVariants.{Nothing, InGroups, Front, Least, Every}
use Rattle.ax_answer.specs.Gathering.{GathersIn, KeepsLeast}
use Rattle.ax_answer_text.specs.declared.text_answer.TextAnswer.{TextAnswer}
use Rattle.ax_answer_text.specs.Parts.{Suffices, part_of, parts_of}
use Rattle.ax_answer_text.specs.TextAnswers.{Answers}
use Rattle.ax_atoms.specs.Silent.{IsSilent}
use Rattle.ax_skips.specs.Skips.{Skips, nothing, kept, skipped}
use Rattle.ax_skips.proofs.Alike.{same_envs, same_rows}

-- ---- what is read of documents

-- what is read of a document that has no rows has none
silent_part : (excerpt : Option Excerpt) (query : Query) (tree : Tree) → Suffices excerpt query → IsSilent query tree
    → IsSilent query (part_of excerpt tree)
silent_part None query tree enough silent = silent
silent_part (Some excerpt) query tree enough silent = (
  none_passes excerpt query tree enough silent.0,
  (λ number. part.same_rows excerpt query number tree enough ∙ silent.1 number),
)

skips_parts : (excerpt : Option Excerpt) (query : Query) → Suffices excerpt query → (all some : List (ℕ × Tree))
    → Skips query all some → Skips query (parts_of excerpt all) (parts_of excerpt some)
skips_parts excerpt query enough _ _ nothing = nothing
skips_parts excerpt query enough _ _ (kept document all some more) =
    kept (document.0, part_of excerpt document.1) (parts_of excerpt all) (parts_of excerpt some)
    (skips_parts excerpt query enough all some more)
skips_parts excerpt query enough _ _ (skipped document all some silent more) =
    skipped (document.0, part_of excerpt document.1) (parts_of excerpt all) (parts_of excerpt some)
    (silent_part excerpt query document.1 enough silent) (skips_parts excerpt query enough all some more)

-- ---- what is kept of rows

module _ (query : Query) (all some : List (ℕ × Tree)) (skips : Skips query all some) where
  envs : all_envs query some ≡ all_envs query all
  envs = sym (same_envs query all some skips)

  rows : all_rows query some ≡ all_rows query all
  rows = sym (same_rows query all some skips)

  pub gathers_in : (kept : held.Held) → GathersIn kept query some → GathersIn kept query all
  gathers_in Nothing gathers = gathers
  gathers_in (InGroups groups) gathers = (
    gathers.0,
    gathers.1,
    subst (λ (es : List Env). Holds groups query es) envs gathers.2,
  )
  gathers_in (Front front) gathers = (
    gathers.0,
    gathers.1,
    gathers.2,
    subst (λ (rs : List KeyedRow). IsFront front query.distinct query.skip query.limit rs) rows gathers.3,
  )
  gathers_in (Least least) gathers =
      let keeps : KeepsLeast least query some = gathers.4 in (
        gathers.0,
        gathers.1,
        gathers.2,
        gathers.3,
        (
          keeps.0,
          keeps.1,
          subst (λ (rs : List KeyedRow). HoldsLeast least query.orders keeps.0 rs) rows keeps.2,
        ),
      )
  gathers_in (Every every) gathers = (gathers.0, gathers.1, gathers.2, gathers.3 ∙ rows)

-- ---- answers

pub answers_all : (answer : TextAnswer) (query : Query) (all some : List (ℕ × Tree)) → Skips query all some
    → Answers answer query some → Answers answer query all
answers_all answer query all some skips answers = record {
  asked = answers.asked;
  gathers = (
    answers.gathers.0,
    gathers_in query (parts_of answer.excerpt all) (parts_of answer.excerpt some)
        (skips_parts answer.excerpt query answers.asked.enough all some skips) answer.answer.held answers.gathers.1,
  );
}

-- ---- silent documents behind others

pub skips_nothing : (query : Query) (documents : List (ℕ × Tree)) → Skips query documents documents
skips_nothing query [] = nothing
skips_nothing query (document ∷ documents) = kept document documents documents (skips_nothing query documents)

pub skips_behind : (query : Query) (documents : List (ℕ × Tree)) (number : ℕ) (tree : Tree) → IsSilent query tree
    → Skips query (documents ++ (number, tree) ∷ []) documents
skips_behind query [] number tree silent = skipped (number, tree) [] [] silent nothing
skips_behind query (document ∷ documents) number tree silent =
    kept document (documents ++ (number, tree) ∷ []) documents (skips_behind query documents number tree silent)

pub answers_one_more : (answer : TextAnswer) (query : Query) (documents : List (ℕ × Tree)) (number : ℕ) (tree : Tree)
    → IsSilent query tree → Answers answer query documents → Answers answer query (documents ++ (number, tree) ∷ [])
answers_one_more answer query documents number tree silent =
    answers_all answer query (documents ++ (number, tree) ∷ []) documents (skips_behind query documents number tree silent)
