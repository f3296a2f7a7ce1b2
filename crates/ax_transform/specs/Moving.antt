-- The documents that a step moves to the policy now: which they are, and the parts, the changes of the index and the numbers of
-- the policies of their moves, one behind another.
-- It is this project's own; it comes from no public document.
use Rattle.std.specs.Prelude.{◌≡◌, ◌≢◌, ◌<◌, ℕ, List, [], ◌∷◌, ◌++◌, Bool, map, Option, Some, None, IsTrue}
use Rattle.std.specs.FinMap as finite
use Rattle.ax_area.specs.Contents.{Contents, Stored}
use Rattle.ax_delta.specs.declared.change.Change.{Change as PairChange}
use Rattle.ax_frame.specs.Part.{PartValue}
use Rattle.ax_policy.specs.Table.{Table}
use Rattle.ax_storable.specs.Storable.{IsStorable}
use Rattle.ax_storable.specs.StoredTexts.{IsStoredText}
use Rattle.ax_tree.specs.declared.tree.Tree.{Tree}
use Rattle.ax_write.specs.Batches.{document_part}
use Rattle.ax_write.specs.Exchanged.{IsExchanged}

-- a document that is moved: its number, that of the policy under which it was, its tree, and the changes of the index
pub record Move : Type 0 where
  pub number : ℕ
  pub policy : ℕ
  pub tree : Tree
  pub changes : List PairChange

-- ---- which documents are moved

-- the documents of the numbers above the first one and below the second are under the policy of that number
abbrev pub AreUnderNow : Contents → ℕ → ℕ → ℕ → Type 0
AreUnderNow contents now after before =
    (number : ℕ) (stored : Stored) → after < number → number < before → finite.get contents.documents number ≡ Some stored
    → stored.policy ≡ now

-- a document is held under the number, under a policy of another number
pub record IsBehind (contents : Contents) (now number : ℕ) : Type 0 where
  pub stored : Stored
  pub held : finite.get contents.documents number ≡ Some stored
  pub other : stored.policy ≢ now

-- the least number above another under which a document is behind; or there is none
pub record IsFirstBehind (contents : Contents) (now after number : ℕ) : Type 0 where
  pub above : after < number
  pub behind : IsBehind contents now number
  pub between : AreUnderNow contents now after number

abbrev pub IsNoneBehind : Contents → ℕ → ℕ → Type 0
IsNoneBehind contents now after =
    (number : ℕ) (stored : Stored) → after < number → finite.get contents.documents number ≡ Some stored → stored.policy ≡ now

abbrev pub IsNextBehind : Contents → ℕ → ℕ → Option ℕ → Type 0
IsNextBehind contents now after (Some number) = IsFirstBehind contents now after number
IsNextBehind contents now after None = IsNoneBehind contents now after

-- each number is that of the next document that is behind
abbrev pub AreNext : Contents → ℕ → ℕ → List ℕ → Type 0
AreNext contents now after [] = Unit {0}
AreNext contents now after (number ∷ numbers) = IsFirstBehind contents now after number × AreNext contents now number numbers

-- the last one of them, or another where there is none
abbrev pub last_of : ℕ → List ℕ → ℕ
last_of after [] = after
last_of after (number ∷ numbers) = last_of number numbers

-- ---- what a move is

-- The document of the number was stored under that policy, over an honest disk its text was that of the tree, and the changes
-- take its pairs under that policy out of the index and put in those under the policy now.
pub record IsMove (honest : Bool) (table : Table) (contents : Contents) (move : Move) : Type 0 where
  pub stored : Stored
  pub held : finite.get contents.documents move.number ≡ Some stored
  pub policy : move.policy ≡ stored.policy
  pub text : IsTrue honest → IsStoredText stored.text move.tree
  pub storable : IsStorable move.tree
  pub exchanged : IsExchanged table move.number move.policy (Some move.tree) table.current (Some move.tree) move.changes

-- ---- what moves come to

-- the parts: each document, under the policy of the number now
abbrev pub moved_part : ℕ → Move → PartValue
moved_part now move = document_part move.number now move.tree

abbrev pub moved_parts : ℕ → List Move → List PartValue
moved_parts now moves = map (moved_part now) moves

-- the changes of the index
abbrev pub all_changes : List Move → List PairChange
all_changes [] = []
all_changes (move ∷ moves) = move.changes ++ all_changes moves

-- the numbers of the documents
abbrev pub numbers_of : List Move → List ℕ
numbers_of moves = map (λ move. move.number) moves

-- the numbers of the policies
abbrev pub policies_of : List Move → List ℕ
policies_of moves = map (λ move. move.policy) moves
