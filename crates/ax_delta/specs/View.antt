-- How the fields of a delta, and of what a merge has still to take from one, stand for what callers
-- see.
use Rattle.std.specs.Prelude.{◌≡◌, ℕ, List, [], ◌∷◌, ◌++◌, Bool, true, false, Option, Some, None, nat_lt, if◌then◌else◌}
use Rattle.ax_gap.specs.Remaining.{RemainingGaps}
use Rattle.ax_leaf.specs.View.{numbers_left}
use Rattle.ax_delta.specs.declared.change.Change.{Change}
use Rattle.ax_delta.specs.declared.changes_left.ChangesLeft.{ChangesLeft}
use Rattle.ax_delta.specs.declared.delta.Delta.TheInside.{Inside}
use Rattle.ax_delta.specs.declared.numbers_left.NumbersLeft.TheInside as inside
use Rattle.ax_delta.specs.Changes.{TermChange, changes_with, changes_of}
use Rattle.ax_delta.specs.ChangeList.{IsChangeList, Spells}
use Rattle.ax_delta.specs.Reading.{changes_in}

abbrev pub changes_seen : Inside → List TermChange
changes_seen d = changes_in d.count [] d.list.now

-- the bytes behind the count are term changes
abbrev pub IsSeen : Inside → Type 0
IsSeen d = IsChangeList d.count d.list.now (changes_in d.count [] d.list.now)

-- the number that comes first, where there is one, and those behind it
abbrev pub numbers_from : Option ℕ → Option RemainingGaps → List ℕ
numbers_from None behind = []
numbers_from (Some n) behind = n ∷ numbers_left behind

abbrev pub numbers_seen : inside.Inside → List ℕ
numbers_seen n = numbers_from n.first n.behind

-- the changes of the term that was reached, and those of the terms behind it
abbrev pub changes_left : ChangesLeft → List Change
changes_left c = changes_with c.term.items c.added c.dropped ++ changes_of (changes_in c.count c.term.items c.rest.now)

-- the bytes behind the term that was reached are term changes, and it has a number, unless none is
-- left
pub record IsReady (c : ChangesLeft) : Type 0 where
  pub spells : Spells c.term.items c.count c.rest.now
  pub reached : c.added ≡ [] → c.dropped ≡ [] → c.count ≡ 0

-- the number that comes first, and whether it is one that is added
abbrev pub first_number : List ℕ → List ℕ → Option (Bool × ℕ)
first_number [] [] = None
first_number [] (d ∷ dropped) = Some (false, d)
first_number (n ∷ added) [] = Some (true, n)
first_number (n ∷ added) (d ∷ dropped) = if nat_lt d n then Some (false, d) else Some (true, n)
