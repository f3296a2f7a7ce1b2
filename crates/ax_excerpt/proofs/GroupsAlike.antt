-- A query has the same answer, with groups or without, over what an excerpt leaves of documents that
-- is enough for it.
use Rattle.std.proofs.Common.{◌≡◌, ℕ, List, [], ◌∷◌, ◌++◌, map, cond, Bool, true, false, refl, sym, ap, ap₂, ◌∙◌}
use Rattle.std.specs.List.{list_all, flat_map, filter_map}
use Rattle.std.proofs.lemmas.Bool.{and_parts}
use Rattle.ax_tree.specs.declared.tree.Tree.{Tree}
use Rattle.ax_mean.specs.declared.query.FromItem.{FromItem}
use Rattle.ax_mean.specs.declared.query.KeyedRow.{KeyedRow}
use Rattle.ax_mean.specs.declared.query.Query.{Query}
use Rattle.ax_mean.specs.Answer.{finish, all_rows}
use Rattle.ax_mean.specs.Meaning.{Env}
use Rattle.ax_mean.specs.Rows.{env_where, rows_of_tree}
use Rattle.ax_mean.specs.Aggregates.{has_groups}
use Rattle.ax_excerpt.specs.declared.excerpt.Excerpt.{Excerpt}
use Rattle.ax_excerpt.specs.Excerpts.{excerpt_of, keeps}
use Rattle.ax_excerpt.specs.Uses.{is_within}
use Rattle.ax_excerpt.specs.Enough.{within, sources_within, condition_within, pick_within, rest_within, is_document, sources_enough, is_enough}
use Rattle.ax_excerpt.proofs.SameRows.{document_rows, part_rows, same_tree, same_rows}
use Rattle.ax_result.specs.Answers.{answer_of}
use Rattle.ax_result.specs.Groups.{group_rows, group_answer}
use Rattle.ax_excerpt.proofs.EnvsAlike.{EnvsAlike, envs_append, filtered_alike}
use Rattle.ax_excerpt.proofs.AlikeInGroups.{all_alike, before_alike, rows_shown}

abbrev Entries : Type 0
Entries = List (ℕ × Tree)

abbrev cut : Excerpt → ℕ × Tree → ℕ × Tree
cut e p = (p.0, excerpt_of e p.1)

module _ (e : Excerpt) (query : Query) where
  whole_entries : (entries : Entries) → keeps e [] ≡ true → map (cut e) entries ≡ entries
  whole_entries [] h = refl
  whole_entries (p ∷ ps) h =
      ap₂ (λ (q : ℕ × Tree) qs. q ∷ qs) (ap (λ (t : Tree). (p.0, t)) (same_tree e p.1 h)) (whole_entries ps h)

  abbrev envs_in : List FromItem → Entries → List Env
  envs_in froms entries =
      flat_map (λ (p : ℕ × Tree). filter_map (env_where query.condition) (rows_of_tree froms p.1)) entries

  none_in : (entries : Entries) → envs_in [] (map (cut e) entries) ≡ envs_in [] entries
  none_in [] = refl
  none_in (p ∷ ps) = none_in ps

  document_envs : (item : FromItem) (items : List FromItem) (entries : Entries)
      → is_document item.each item.steps ≡ true → sources_within (within item.alias e) items ≡ true
      → condition_within (within item.alias e) query.condition ≡ true
      → EnvsAlike (within item.alias e) (envs_in (item ∷ items) (map (cut e) entries))
      (envs_in (item ∷ items) entries)
  document_envs item items [] is sources condition = tt
  document_envs item items (p ∷ ps) is sources condition =
      envs_append (within item.alias e) _ _ _ _
      (filtered_alike (within item.alias e) query.condition _ _ condition
      (document_rows e item items p.1 is sources))
      (document_envs item items ps is sources condition)

  part_envs : (item : FromItem) (items : List FromItem) (entries : Entries)
      → keeps e item.steps ≡ true
      → envs_in (item ∷ items) (map (cut e) entries) ≡ envs_in (item ∷ items) entries
  part_envs item items [] h = refl
  part_envs item items (p ∷ ps) h =
      ap₂ (λ (a : List Env) b. a ++ b)
      (ap (filter_map (env_where query.condition)) (part_rows e item items p.1 h))
      (part_envs item items ps h)

  abbrev rows_by : List FromItem → Entries → List KeyedRow
  rows_by froms entries = group_rows query (envs_in froms entries)

  by_sources : (froms : List FromItem) (entries : Entries) → keeps e [] ≡ false
      → sources_enough e froms query ≡ true → rows_by froms (map (cut e) entries) ≡ rows_by froms entries
  by_sources [] entries part h = ap (group_rows query) (none_in entries)
  by_sources (item ∷ items) entries part h = by (is_document item.each item.steps) refl
    where
      by : (b : Bool) → is_document item.each item.steps ≡ b
          → rows_by (item ∷ items) (map (cut e) entries) ≡ rows_by (item ∷ items) entries
      by true is =
          let own : rest_within (keeps e []) (within item.alias e) items query ≡ true =
          ap (λ b. cond b (rest_within (keeps e []) (within item.alias e) items query) (keeps e item.steps))
          (sym is) ∙ h in
          let a = and_parts (sources_within (within item.alias e) items) _ own in
          let b = and_parts (condition_within (within item.alias e) query.condition) _ a.1 in
          let c = and_parts (list_all (is_within (within item.alias e)) query.groups) _ b.1 in
          rows_shown (within item.alias e) query.groups c.0 query.pick _ _
          (ap (λ star. pick_within star (within item.alias e) query.pick) (sym part) ∙ c.1)
          (all_alike (within item.alias e) query.groups c.0 _ _ _ _
          (document_envs item items entries is a.0 b.0)
          (before_alike (within item.alias e) query.groups c.0 query.groups))
      by false is =
          let own : keeps e item.steps ≡ true =
          ap (λ b. cond b (rest_within (keeps e []) (within item.alias e) items query) (keeps e item.steps))
          (sym is) ∙ h in
          ap (group_rows query) (part_envs item items entries own)

  same_groups : (entries : Entries) (b : Bool) → keeps e [] ≡ b → is_enough e query ≡ true
      → group_answer query (map (cut e) entries) ≡ group_answer query entries
  same_groups entries true is h = ap (group_answer query) (whole_entries entries is)
  same_groups entries false is h =
      ap (finish query) (by_sources query.froms entries is (and_parts (sources_enough e query.froms query) _ h).0)

  all_same : (entries : Entries) → is_enough e query ≡ true
      → all_rows query (map (cut e) entries) ≡ all_rows query entries
  all_same [] h = refl
  all_same (p ∷ ps) h =
      ap₂ (λ (a : List KeyedRow) b. a ++ b) (same_rows e query p.0 p.1 h) (all_same ps h)

  pub same_answer : (entries : Entries) → is_enough e query ≡ true
      → answer_of query (map (cut e) entries) ≡ answer_of query entries
  same_answer entries h =
      ap₂ (λ (a : List KeyedRow) b. cond (has_groups query) a b)
      (same_groups entries (keeps e []) refl h) (ap (finish query) (all_same entries h))
