-- What is read of documents has the same rows and the same answer.
use Rattle.std.proofs.Common.{◌≡◌, ℕ, List, [], ◌∷◌, ◌++◌, map, Option, Some, None, refl, ap, ap₂, ◌∙◌}
use Rattle.ax_tree.specs.declared.tree.Tree.{Tree}
use Rattle.ax_mean.specs.declared.query.KeyedRow.{KeyedRow}
use Rattle.ax_mean.specs.declared.query.Query.{Query}
use Rattle.ax_mean.specs.Answer.{all_rows}
use Rattle.ax_mean.specs.Rows.{envs_of_tree, keyed_rows}
use Rattle.ax_excerpt.specs.declared.excerpt.Excerpt.{Excerpt}
use Rattle.ax_excerpt.proofs.GroupsAlike as groups
use Rattle.ax_excerpt.proofs.RowsAlike.{none_passes}
use Rattle.ax_excerpt.proofs.SameRows as rows
use Rattle.ax_result.specs.Answers.{answer_of}
use Rattle.ax_answer_text.specs.Parts.{Suffices, part_of, parts_of}

all_of : (entries : List (ℕ × Tree)) → parts_of None entries ≡ entries
all_of [] = refl
all_of (entry ∷ entries) = ap (λ rest. entry ∷ rest) (all_of entries)

pub same_answer : (excerpt : Option Excerpt) (query : Query) (entries : List (ℕ × Tree))
    → Suffices excerpt query → answer_of query (parts_of excerpt entries) ≡ answer_of query entries
same_answer None query entries enough = ap (answer_of query) (all_of entries)
same_answer (Some excerpt) query entries enough = groups.same_answer excerpt query entries enough

same_rows : (excerpt : Option Excerpt) (query : Query) (number : ℕ) (tree : Tree)
    → Suffices excerpt query
    → keyed_rows query number (part_of excerpt tree) ≡ keyed_rows query number tree
same_rows None query number tree enough = refl
same_rows (Some excerpt) query number tree enough = rows.same_rows excerpt query number tree enough

pub all_the_same : (excerpt : Option Excerpt) (query : Query) (entries : List (ℕ × Tree))
    → Suffices excerpt query → all_rows query (parts_of excerpt entries) ≡ all_rows query entries
all_the_same excerpt query [] enough = refl
all_the_same excerpt query (entry ∷ entries) enough =
    ap₂ (λ (here : List KeyedRow) later. here ++ later)
    (same_rows excerpt query entry.0 entry.1 enough) (all_the_same excerpt query entries enough)

pub no_rows : (excerpt : Option Excerpt) (query : Query) (number : ℕ) (tree : Tree)
    → Suffices excerpt query → keyed_rows query number tree ≡ []
    → keyed_rows query number (part_of excerpt tree) ≡ []
no_rows excerpt query number tree enough none =
    same_rows excerpt query number tree enough ∙ none

pub no_envs : (excerpt : Option Excerpt) (query : Query) (tree : Tree) → Suffices excerpt query
    → envs_of_tree query tree ≡ [] → envs_of_tree query (part_of excerpt tree) ≡ []
no_envs None query tree enough none = none
no_envs (Some excerpt) query tree enough none = none_passes excerpt query tree enough none

pub and_parts : (excerpt : Option Excerpt) (entries more : List (ℕ × Tree))
    → parts_of excerpt (entries ++ more) ≡ parts_of excerpt entries ++ parts_of excerpt more
and_parts excerpt [] more = refl
and_parts excerpt (entry ∷ entries) more =
    ap (λ rest. (entry.0, part_of excerpt entry.1) ∷ rest) (and_parts excerpt entries more)

pub same_numbers : (excerpt : Option Excerpt) (entries : List (ℕ × Tree))
    → map (λ (e : ℕ × Tree). e.0) (parts_of excerpt entries) ≡ map (λ (e : ℕ × Tree). e.0) entries
same_numbers excerpt [] = refl
same_numbers excerpt (entry ∷ entries) = ap (λ rest. entry.0 ∷ rest) (same_numbers excerpt entries)
