-- How the fields of a leaf and of a cursor over pairs stand for what callers see.
use Rattle.std.specs.Prelude.{ℕ, List, [], ◌++◌, Option, Some, None}
use Rattle.ax_gap.specs.Remaining.{RemainingGaps}
use Rattle.ax_leaf.specs.Base.{Base}
use Rattle.ax_leaf.specs.Pairs.{pairs_with, pairs_of}
use Rattle.ax_leaf.specs.Reading.{postings_in}
use Rattle.ax_leaf.specs.TermList.{IsTermList, Spells}
use Rattle.ax_leaf.specs.declared.leaf.Leaf.TheInside.{Inside}
use Rattle.ax_pair.specs.declared.pair.Pair.{Pair}
use Rattle.ax_leaf.specs.declared.remaining.Remaining.{Remaining}

abbrev pub base_of : Inside → Base
base_of l = record { low = record { term = l.term.now; number = l.number }; postings = postings_in l.count [] l.list.now }

-- the bytes behind the low pair and the count are postings
abbrev pub IsBase : Inside → Type 0
IsBase l = IsTermList l.count l.list.now (postings_in l.count [] l.list.now)

-- the numbers that a cursor over a gap list has still to give, where there is one
abbrev pub numbers_left : Option RemainingGaps → List ℕ
numbers_left None = []
numbers_left (Some cursor) = cursor.numbers

-- the pairs of the posting that was reached, and those of the postings behind it
abbrev pub pairs_remaining : Remaining → List Pair
pairs_remaining r =
    pairs_with r.term.items (numbers_left r.numbers) ++ pairs_of (postings_in r.count r.term.items r.rest.now)

-- the bytes behind the posting that was reached are postings
abbrev pub IsSpelled : Remaining → Type 0
IsSpelled r = Spells r.term.items r.count r.rest.now
