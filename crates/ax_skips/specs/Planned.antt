-- What a plan of a query rests on, so that it may be answered from an index: the index holds the pairs of all documents,
-- each under the policy by which it is indexed, and the plan was made by a table that has all these policies in use.
-- It is this project's own; it comes from no public document.
use Rattle.std.specs.Prelude.{◌≡◌, ◌↔◌, ◌≤◌, ℕ, List, true, Some}
use Rattle.std.specs.List.{Contains}
use Rattle.ax_mean.specs.declared.query.Query.{Query}
use Rattle.ax_pair.specs.declared.pair.Pair.{Pair}
use Rattle.ax_pairs.specs.PairSets.{PairSet}
use Rattle.ax_term.specs.declared.range.TermRange.{TermRange}
use Rattle.ax_policy.specs.Table.{Table, policy_at}
use Rattle.ax_policy.specs.declared.policy.Policy.{Policy}
use Rattle.ax_container.specs.Container.{Container, Entry, IsSound}
use Rattle.ax_image_pairs.specs.Pairs.{HasPair}
use Rattle.ax_atoms.specs.Conjuncts.{atoms}
use Rattle.ax_plan.specs.Taken.{IsTaken}
use Rattle.ax_plan.specs.Usable.{AreUnions}

-- the set has the pairs of all documents, and no others
abbrev pub HasPairsOf : Container → PairSet → Type 0
HasPairsOf container set = (pair : Pair) → (set pair ≡ true) ↔ HasPair container pair

-- no number but those from 0 to 8 has a policy
abbrev pub HasFewNumbers : Table → Type 0
HasFewNumbers table = (number : ℕ) (policy : Policy) → policy_at table number ≡ Some policy → number ≤ 8

-- whichever document it is, the policy by which it is indexed is in use or now in the table
abbrev pub AreInUse : Table → Container → Type 0
AreInUse table container = (entry : Entry) → Contains container.entries entry → IsTaken table entry.indexed_by

-- the unions are those of the query's plan over the documents of the container and the set of their pairs
pub record IsPlannedOver (query : Query) (table : Table) (unions : List (List TermRange)) (container : Container)
    (set : PairSet) : Type 0 where
  pub sound : IsSound container
  pub pairs : HasPairsOf container set
  pub used : AreInUse table container
  pub planned : AreUnions table (atoms query) unions
