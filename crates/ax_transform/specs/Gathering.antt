-- Moves that are gathered before they are committed. Only clauses of private functions cite these.
-- It is this project's own; it comes from no public document.
use Rattle.std.specs.Prelude.{◌≡◌, ◌+◌, ◌-◌, ◌<◌, ◌≤◌, ℕ, List, [], ◌∷◌, ◌++◌, Bool, true, false, IsSome}
use Rattle.std.specs.List.{AllByRecursion, Contains}
use Rattle.std.specs.Ordering.{bool_cmp, ordering_then}
use Rattle.std.specs.declared.cmp.Ordering.{Ordering}
use Rattle.ax_area.specs.Contents.{Contents}
use Rattle.ax_delta.specs.declared.change.Change.{Change as PairChange}
use Rattle.ax_pages.specs.AfterPart.{most_documents}
use Rattle.ax_pair.specs.Order.{pair_cmp}
use Rattle.ax_policy.specs.Table.{SetsCount, Table, count_at, policy_at}
use Rattle.ax_store.specs.Batch.{batch_parts}
use Rattle.ax_transform.specs.Moving.{AreNext, AreUnderNow, IsFirstBehind, IsMove, IsNoneBehind, Move}
use Rattle.ax_transform.specs.Moving.{all_changes, last_of, moved_part, moved_parts, numbers_of, policies_of}
use Rattle.ax_transform.specs.Steps.{AreEnough}
use Rattle.ax_transform.specs.declared.moves.Moves.{Moves}

-- the number behind which a walk begins: each document up to it is known to be under the policy now, but for one of number 0
abbrev pub start_of : Table → ℕ
start_of table = table.moved - 1

-- what was gathered is of these moves, each of the next document that is behind
pub record Gathers (honest : Bool) (table : Table) (contents : Contents) (start : ℕ) (moves : List Move) (found : Moves) : Type 0 where
  pub next : AreNext contents table.current start (numbers_of moves)
  pub are : AllByRecursion (IsMove honest table contents) moves
  pub parts : batch_parts found.batch ≡ moved_parts table.current moves
  pub changes : found.changes.items ≡ all_changes moves
  pub policies : found.policies.items ≡ policies_of moves

-- of one document more, that of the number
pub record AddsMove (honest : Bool) (table : Table) (contents : Contents) (number : ℕ) (old new : Moves) : Type 0 where
  pub move : Move
  pub number_is : move.number ≡ number
  pub is : IsMove honest table contents move
  pub parts : batch_parts new.batch ≡ batch_parts old.batch ++ moved_part table.current move ∷ []
  pub changes : new.changes.items ≡ old.changes.items ++ move.changes
  pub policies : new.policies.items ≡ old.policies.items ++ move.policy ∷ []
  pub last : new.last ≡ number

-- the next document that is behind was added, or there is none
abbrev pub AddsNext : Bool → Table → Contents → Bool → Moves → Moves → Type 0
AddsNext honest table contents true old new =
    (number : ℕ) × IsFirstBehind contents table.current old.last number
    × AddsMove honest table contents number old new
AddsNext honest table contents false old new =
    IsNoneBehind contents table.current old.last
    × (batch_parts new.batch ≡ batch_parts old.batch) × (new.changes.items ≡ old.changes.items)
    × (new.policies.items ≡ old.policies.items) × (old.last ≤ new.last)

-- enough were gathered, up to a number that is not below the last one; the documents between these are under the policy now
pub record GathersEnough (honest : Bool) (count : ℕ) (table : Table) (contents : Contents) (start : ℕ) (found : Moves) : Type 0 where
  pub moves : List Move
  pub gathers : Gathers honest table contents start moves found
  pub enough : AreEnough count contents table.current start (numbers_of moves)
  pub reaches : last_of start (numbers_of moves) ≤ found.last
  pub past : AreUnderNow contents table.current (last_of start (numbers_of moves)) found.last

-- ---- changes of the index, in any order

-- no pair is both added and dropped
abbrev pub AreNetted : List PairChange → Type 0
AreNetted changes =
    (one other : PairChange) → Contains changes one → Contains changes other → one.pair ≡ other.pair → one.add ≡ other.add

-- their order: by their pairs, and then what is dropped before what is added
abbrev pub change_cmp : PairChange → PairChange → Ordering
change_cmp one other = ordering_then (pair_cmp one.pair other.pair) (bool_cmp one.add other.add)

-- ---- the counts of documents that are moved

-- one document less under the policy of the number, and one more under the policy now
pub record CountsMoved (policy : ℕ) (old new : Table) : Type 0 where
  pub out : Table
  pub less : SetsCount policy (count_at old policy - 1) old out
  pub more : SetsCount old.current (count_at out old.current + 1) out new

-- so of each, from the first on
abbrev pub CountAllMoved : List ℕ → Table → Table → Type 0
CountAllMoved [] old new = new ≡ old
CountAllMoved (policy ∷ policies) old new = (mid : Table) × CountsMoved policy old mid × CountAllMoved policies mid new

-- each can be counted so
pub record MayBeMoved (policy : ℕ) (table : Table) : Type 0 where
  pub known : IsSome (policy_at table policy)
  pub used : 0 < count_at table policy
  pub room : (out : Table) → SetsCount policy (count_at table policy - 1) table out → count_at out table.current < most_documents

abbrev pub MayAllBeMoved : List ℕ → Table → Type 0
MayAllBeMoved [] table = Unit {0}
MayAllBeMoved (policy ∷ policies) table =
    MayBeMoved policy table × ((mid : Table) → CountsMoved policy table mid → MayAllBeMoved policies mid)
