-- What a step of the transformation answers over a store that holds a container with its index, what it writes, and how
-- much it fetches.
-- It is this project's own; it comes from no public document.
use Rattle.std.specs.Prelude.{◌≡◌, ◌↔◌, ◌⊎◌, ◌≤◌, ◌+◌, ℕ, List, [], ◌∷◌, Bool, length, None, Result, Ok, Err}
use Rattle.std.specs.FinMap as finite
use Rattle.std.specs.List.{AllByRecursion, Contains}
use Rattle.ax_area.specs.Contents.{Contents}
use Rattle.ax_delta.specs.declared.change.Change.{Change as PairChange}
use Rattle.ax_frame.specs.Part.{PartValue}
use Rattle.ax_policy.specs.Table.{Table, policy_at}
use Rattle.ax_store.specs.declared.fault.StoreFault.{StoreFault}
use Rattle.ax_transform.specs.Moving.{AreNext, IsMove, IsNoneBehind, Move, all_changes, last_of, moved_parts, numbers_of}
use Rattle.ax_write.specs.Small.{IsPlanned}
use Rattle.ax_write.specs.declared.fault.WriteFault.{WriteFault}
use Rattle.ax_write.specs.declared.fault.WriteFault.TheVariants as fault

-- the answer as that of a write: a step has no refusal
abbrev pub as_write : Result (Unit {0}) StoreFault → Result (Unit {0}) WriteFault
as_write (Ok done) = Ok done
as_write (Err why) = Err (fault.Store why)

-- as many documents are moved as were asked for, or all that are behind
abbrev pub AreEnough : ℕ → Contents → ℕ → ℕ → List ℕ → Type 0
AreEnough count contents now after numbers =
    (length numbers ≡ count) ⊎ ((length numbers ≤ count) × IsNoneBehind contents now (last_of after numbers))

-- no document is moved, and nothing is written; or in one batch the parts, and behind them a plan of the changes of the index
abbrev pub IsWritten : Bool → List PairChange → List PartValue → Contents → Contents → Type 0
IsWritten honest changes [] before after = after ≡ before
IsWritten honest changes (part ∷ parts) before after = IsPlanned honest changes (part ∷ parts) before after

-- The first documents that are under another policy were moved, as many as were asked for, or all where there are fewer; in
-- one batch exactly their parts were written, and behind them a plan of exactly the changes of the index of these moves. The
-- table knows of the documents below the last one that they are under the policy now; where one has number 0, which none of a
-- container has, it need not.
pub record IsSmallStep (honest : Bool) (count : ℕ) (table later : Table) (before after : Contents) : Type 0 where
  pub moves : List Move
  pub next : AreNext before table.current 0 (numbers_of moves)
  pub enough : AreEnough count before table.current 0 (numbers_of moves)
  pub marked : finite.get before.documents 0 ≡ None → last_of 0 (numbers_of moves) ≤ later.moved
  pub are : AllByRecursion (IsMove honest table before) moves
  pub changes : List PairChange
  pub same : (change : PairChange) → Contains changes change ↔ Contains (all_changes moves) change
  pub written : IsWritten honest changes (moved_parts table.current moves) before after

-- the policies and the one now are the same, and each document that was known to be under it still is
pub record KeepsPolicies (old new : Table) : Type 0 where
  pub policies : (number : ℕ) → policy_at new number ≡ policy_at old number
  pub current : new.current ≡ old.current
  pub moved : old.moved ≤ new.moved

-- ---- what is fetched

-- as many documents were fetched as there are numbers, each of the next document that is behind
pub record Fetches (contents : Contents) (now after earlier later : ℕ) : Type 0 where
  pub numbers : List ℕ
  pub next : AreNext contents now after numbers
  pub counted : later ≡ earlier + length numbers
