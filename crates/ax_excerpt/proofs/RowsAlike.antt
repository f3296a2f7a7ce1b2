-- As many rows of a document pass in what an excerpt leaves of it.
use Rattle.std.proofs.Common.{◌≡◌, suc, List, [], ◌∷◌, length, cond, Bool, true, false, refl, sym, ap, ◌∙◌}
use Rattle.std.specs.List.{filter_map}
use Rattle.std.proofs.lemmas.Bool.{and_parts}
use Rattle.ax_tree.specs.declared.tree.Tree.{Tree}
use Rattle.ax_mean.specs.declared.query.FromItem.{FromItem}
use Rattle.ax_mean.specs.declared.query.Query.{Query}
use Rattle.ax_mean.specs.Meaning.{Env}
use Rattle.ax_mean.specs.Rows.{env_where, envs_of_tree, rows_of_tree}
use Rattle.ax_excerpt.specs.declared.excerpt.Excerpt.{Excerpt}
use Rattle.ax_excerpt.specs.Excerpts.{excerpt_of, keeps}
use Rattle.ax_excerpt.specs.Uses.{Uses}
use Rattle.ax_excerpt.specs.Enough.{within, sources_within, condition_within, rest_within, is_document, sources_enough, is_enough}
use Rattle.ax_excerpt.proofs.SameRows.{document_rows, part_rows}
use Rattle.ax_excerpt.proofs.EnvsAlike.{EnvsAlike, filtered_alike}

as_many : (uses : Uses) (es fs : List Env) → EnvsAlike uses es fs → length es ≡ length fs
as_many uses [] [] alike = refl
as_many uses [] (f ∷ fs) alike = absurd alike
as_many uses (e ∷ es) [] alike = absurd alike
as_many uses (e ∷ es) (f ∷ fs) alike = ap suc (as_many uses es fs alike.1)

pub none_long : {X : Type 0} (xs : List X) → length xs ≡ 0 → xs ≡ []
none_long [] h = refl
none_long (x ∷ xs) h = cc

module _ (e : Excerpt) (query : Query) (t : Tree) where
  abbrev passing : List FromItem → Tree → List Env
  passing froms tree = filter_map (env_where query.condition) (rows_of_tree froms tree)

  by_sources : (froms : List FromItem) → sources_enough e froms query ≡ true
      → length (passing froms (excerpt_of e t)) ≡ length (passing froms t)
  by_sources [] h = refl
  by_sources (item ∷ items) h = by (is_document item.each item.steps) refl
    where
      by : (b : Bool) → is_document item.each item.steps ≡ b
          → length (passing (item ∷ items) (excerpt_of e t)) ≡ length (passing (item ∷ items) t)
      by true is =
          let own : rest_within (keeps e []) (within item.alias e) items query ≡ true =
          ap (λ b. cond b (rest_within (keeps e []) (within item.alias e) items query) (keeps e item.steps))
          (sym is) ∙ h in
          let a = and_parts (sources_within (within item.alias e) items) _ own in
          let b = and_parts (condition_within (within item.alias e) query.condition) _ a.1 in
          as_many (within item.alias e) _ _
          (filtered_alike (within item.alias e) query.condition _ _ b.0
          (document_rows e item items t is a.0))
      by false is =
          let own : keeps e item.steps ≡ true =
          ap (λ b. cond b (rest_within (keeps e []) (within item.alias e) items query) (keeps e item.steps))
          (sym is) ∙ h in
          ap (λ rows. length (filter_map (env_where query.condition) rows)) (part_rows e item items t own)

  pub as_many_pass : is_enough e query ≡ true
      → length (envs_of_tree query (excerpt_of e t)) ≡ length (envs_of_tree query t)
  as_many_pass h = by_sources query.froms (and_parts (sources_enough e query.froms query) _ h).0

  pub none_passes : is_enough e query ≡ true → envs_of_tree query t ≡ []
      → envs_of_tree query (excerpt_of e t) ≡ []
  none_passes h none = none_long (envs_of_tree query (excerpt_of e t)) (as_many_pass h ∙ ap length none)
