-- Documents that are no candidates have no rows, and so the documents of the candidates are all but some that have none.
use Rattle.std.proofs.Common.{◌≡◌, ℕ, zero, suc, List, [], ◌∷◌, map, true, false, cond, Option, Some, None}
use Rattle.std.proofs.Common.{inr, ⊎_elim, refl, sym, subst, ◌∙◌, arith}
use Rattle.std.proofs.lemmas.Bool.{false≢true, or_cases}
use Rattle.std.specs.List.{AllByRecursion, Contains, filter}
use Rattle.ax_tree.specs.declared.tree.Tree.{Tree}
use Rattle.ax_tree.specs.WellFormed.{IsWellFormed}
use Rattle.ax_mean.specs.declared.query.Query.{Query}
use Rattle.ax_pair.specs.declared.pair.Pair.{Pair}
use Rattle.ax_pairs.specs.PairSets.{PairSet}
use Rattle.ax_delta.specs.Said.{has_number}
use Rattle.ax_term.specs.Ranges.{is_in_range}
use Rattle.ax_term.specs.declared.range.TermRange.{TermRange}
use Rattle.ax_policy.specs.Table.{Table}
use Rattle.ax_policy.specs.declared.policy.Policy.{Policy}
use Rattle.ax_container.specs.Container.{Container, Entry, IsStored, entry_at}
use Rattle.ax_image_pairs.specs.Pairs.{HasTermOf}
use Rattle.ax_image_pairs.proofs.Finding.{every_there}
use Rattle.ax_index.specs.Wanted.{HasInSome}
use Rattle.ax_atoms.specs.Conjuncts.{atoms}
use Rattle.ax_atoms.specs.Silent.{IsSilent}
use Rattle.ax_atoms.specs.Spans.{is_in_some}
use Rattle.ax_terms.proofs.Sequences.{contains_first, contains_later}
use Rattle.ax_plan.specs.Taken.{IsTaken}
use Rattle.ax_plan.specs.Terms.{HasTermInEach, HasTermInUnion}
use Rattle.ax_plan.specs.Usable.{AreUnions}
use Rattle.ax_machine.specs.Querying.{numbered}
use Rattle.ax_skips.specs.Candidates.{HasCandidates, IsCandidate}
use Rattle.ax_skips.specs.Chosen.{chosen}
use Rattle.ax_skips.specs.Planned.{IsPlannedOver}
use Rattle.ax_skips.specs.Skips.{Skips, nothing, kept, skipped}
use Rattle.ax_skips.proofs.Fetching.{document, is_in}

-- ---- terms in ranges

-- a term in some of the ranges is in one of them
in_one : (ranges : List TermRange) (term : List ℕ) → is_in_some ranges term ≡ true
    → (range : TermRange) × Contains ranges range × (is_in_range range term ≡ true)
in_one [] term is = absurd (false≢true is)
in_one (range ∷ ranges) term is =
    ⊎_elim {C = (found : TermRange) × Contains (range ∷ ranges) found × (is_in_range found term ≡ true)}
    (λ (here : is_in_range range term ≡ true). (range, contains_first range ranges, here))
    (λ (more : is_in_some ranges term ≡ true).
    let found = in_one ranges term more in
    (found.0, contains_later range ranges found.0 found.1, found.2))
    (or_cases (is_in_range range term) (is_in_some ranges term) is)

-- ---- entries

pub stored_there : (es : List Entry) (e : Entry) → AllByRecursion IsStored es → Contains es e → IsStored e
stored_there [] e all (k, less, is) = absurd (omega (arith, less))
stored_there (x ∷ es) e all (zero, less, is) = subst IsStored is all.0
stored_there (x ∷ es) e all (suc k, less, is) = stored_there es e all.1 (k, omega (arith, less), is)

-- that a document that lacks a term in some union has no rows, which the plan's law says
abbrev pub PlanLaw : Type 0
PlanLaw =
    (query : Query) (table : Table) (unions : List (List TermRange)) (policy : Policy) (given : Tree)
    → AreUnions table (atoms query) unions → IsTaken table policy → IsWellFormed given
    → (HasTermInEach policy given unions → ⊥) → IsSilent query given

module _ (query : Query) (table : Table) (unions : List (List TermRange)) (container : Container) (set : PairSet)
    (over : IsPlannedOver query table unions container set) where
  -- a document with a term in the union has its number there
  number_in : (entry : Entry) → Contains container.entries entry → (ranges : List TermRange)
      → HasTermInUnion entry.indexed_by entry.tree ranges → HasInSome ranges set entry.number
  number_in entry there ranges has =
      let found = in_one ranges has.0 has.2 in
      let pair : Pair = record { term = has.0; number = entry.number } in
      (found.0, found.1, (has.0, found.2, every_there container set over.pairs over.sound entry pair there (refl, inr has.1)))

  pub silent_unless_candidate : PlanLaw → (entry : Entry) → Contains container.entries entry
      → (IsCandidate unions set entry.number → ⊥) → IsSilent query entry.tree
  silent_unless_candidate law entry there out =
      let stored : IsStored entry = stored_there container.entries entry over.sound.stored there in
      law query table unions entry.indexed_by entry.tree over.planned (over.used entry there)
      stored.storable.well_formed
      (λ terms. out (λ ranges one. number_in entry there ranges (terms ranges one)))

  -- a number with a term is that of a document
  held_at : (number : ℕ) (term : List ℕ) (o : Option Entry) → entry_at number container.entries ≡ o → HasTermOf o term
      → (entry : Entry) × (entry_at number container.entries ≡ Some entry)
  held_at number term None is has = absurd has
  held_at number term (Some entry) is has = (entry, is)

  pub held_where_in_some : (ranges : List TermRange) (number : ℕ) → HasInSome ranges set number
      → (entry : Entry) × (entry_at number container.entries ≡ Some entry)
  held_where_in_some ranges number has =
      let term : List ℕ = has.2.0 in
      held_at number term (entry_at number container.entries) refl
      ((over.pairs (record { term = term; number = number })).0 has.2.2)

-- ---- lists of documents

skips_unchosen : (query : Query) (numbers : List ℕ) (es : List Entry)
    → ((e : Entry) → Contains es e → has_number e.number numbers ≡ false → IsSilent query e.tree)
    → Skips query (map document es) (filter (is_in numbers) (map document es))
skips_unchosen query numbers [] silent = nothing
skips_unchosen query numbers (e ∷ es) silent =
    let rest : List (ℕ × Tree) = filter (is_in numbers) (map document es) in
    let more : Skips query (map document es) rest =
    skips_unchosen query numbers es (λ x there out. silent x (contains_later e es x there) out) in
    elim (has_number e.number numbers) as
    (λ b. has_number e.number numbers ≡ b → Skips query (document e ∷ map document es) (cond b (document e ∷ rest) rest)) [
      | true ↦ λ is. kept (document e) (map document es) rest more
      | false ↦ λ is. skipped (document e) (map document es) rest (silent e (contains_first e es) is) more
    ] refl

pub skips_to_candidates : (query : Query) (table : Table) (unions : List (List TermRange)) (container : Container)
    (set : PairSet) (numbers : List ℕ) → PlanLaw → IsPlannedOver query table unions container set
    → HasCandidates unions set numbers → Skips query (numbered container) (chosen numbers container)
skips_to_candidates query table unions container set numbers law over all =
    skips_unchosen query numbers container.entries (λ entry there out.
    silent_unless_candidate query table unions container set over law entry there (λ candidate.
    false≢true (sym out ∙ all entry.number candidate)))
