-- The candidates of a plan are those of the unions of the conditions that are usable in the container, where the table has
-- just the policies in use or now that the container has.
use Rattle.std.proofs.Common.{◌≡◌, zero, suc, List, true, Option, Some, refl, sym, subst, arith}
use Rattle.std.specs.Bool.{one_answer}
use Rattle.std.specs.List.{Contains}
use Rattle.ax_tree.specs.WellFormed.{IsWellFormed}
use Rattle.ax_mean.specs.declared.query.Query.{Query}
use Rattle.ax_term.specs.declared.range.TermRange.{TermRange}
use Rattle.ax_policy.specs.Normal.{normal_tree}
use Rattle.ax_policy.specs.Table.{Table}
use Rattle.ax_policy.specs.declared.policy.Policy.{Policy}
use Rattle.ax_atoms.specs.Atoms.{Atom}
use Rattle.ax_atoms.specs.Conjuncts.{atoms}
use Rattle.ax_atoms.specs.Spans.{ranges_of}
use Rattle.ax_terms.proofs.Sequences.{from_map}
use Rattle.ax_container.specs.Container.{Container, Entry, IsSound}
use Rattle.ax_table.specs.TableAgrees.{ArePolicies}
use Rattle.ax_plan.specs.Taken.{IsTaken}
use Rattle.ax_plan.specs.Usable.{AreUnions, IsUsable}
use Rattle.ax_plan.proofs.Passing.{for_each, in_each}
use Rattle.ax_skips.specs.Planned.{AreInUse}
use Rattle.ax_skips.proofs.Silence.{stored_there}
use Rattle.ax_needs.specs.Needs.{is_candidate, is_usable, policies_of, unions_of}
use Rattle.ax_needs.specs.Read.{AreRead}
use Rattle.ax_needs.proofs.Terms.{HasTermIn, candidate_told, is_candidate_where}
use Rattle.ax_needs.proofs.Unions.{of_usable, union_there}
use Rattle.ax_needs.proofs.Usable.{usable_covered, usable_told}
use Rattle.ax_needs_laws.specs.Just.{AreJustInUse}

module _ (table : Table) (container : Container) (read : ArePolicies table) (used : AreInUse table container)
    (just : AreJustInUse table container) (now : IsTaken table container.policy) where
  taken : (policy : Policy) → Contains (policies_of container) policy → IsTaken table policy
  taken policy (zero, low, is) = subst (IsTaken table) is now
  taken policy (suc k, low, is) =
      let found = from_map (λ (entry : Entry). entry.indexed_by) container.entries policy (k, omega (arith, low), is) in
      subst (IsTaken table) found.2 (used found.0 found.1)

  are_read : AreRead container
  are_read policy there =
      let own : IsTaken table policy = taken policy there in
      (normal_tree policy, read own.number policy own.stands)

  usable_is : (atom : Atom) → IsUsable table atom → is_usable container atom ≡ true
  usable_is atom all = usable_told container atom are_read (λ policy there. all policy (taken policy there))

  usable_from : (atom : Atom) → is_usable container atom ≡ true → IsUsable table atom
  usable_from atom told policy own = usable_covered container atom told policy (just policy own)

  module _ (query : Query) (unions : List (List TermRange)) (planned : AreUnions table (atoms query) unions)
      (sound : IsSound container) (entry : Entry) (there : Contains container.entries entry) where
    abbrev needed : List (List TermRange)
    needed = unions_of container (atoms query)

    well_formed : IsWellFormed entry.tree
    well_formed = (stored_there container.entries entry sound.stored there).storable.well_formed

    is_needed : is_candidate unions entry ≡ true → is_candidate needed entry ≡ true
    is_needed told =
        is_candidate_where needed entry (λ ranges one.
        let own = of_usable container (atoms query) ranges one in
        subst (HasTermIn entry.indexed_by entry.tree) (sym own.3)
        (for_each query table unions entry.indexed_by entry.tree planned
        (λ own_ranges own_one. candidate_told unions entry told own_ranges own_one)
        own.0 own.1 (usable_from own.0 own.2)))

    is_left : is_candidate needed entry ≡ true → is_candidate unions entry ≡ true
    is_left told =
        is_candidate_where unions entry
        (in_each query table unions entry.indexed_by entry.tree planned well_formed
        (λ atom one usable.
        candidate_told needed entry told (ranges_of atom)
        (union_there container (atoms query) (ranges_of atom) (atom, one, usable_is atom usable, refl))))

    pub same_candidates : is_candidate unions entry ≡ is_candidate needed entry
    same_candidates =
        one_answer (is_candidate unions entry) (is_candidate needed entry) (is_needed, is_left) (λ told. told, λ told. told)
