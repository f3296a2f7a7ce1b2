use Rattle.std.proofs.Common.{◌-◌, List}
use Rattle.ax_leaf.specs.Pairs.{Posting}
use Rattle.ax_leaf.specs.TermList.{IsTermList}
use Rattle.ax_leaf.proofs.Searching.{IsSearch}
use Rattle.ax_leaf.proofs.finding.find_in.Given as goal

abbrev pub invariant-loop-k : goal.invariant-loop-k
invariant-loop-k l = (postings : List Posting) → IsTermList l.count l.list postings → IsSearch l.sought l.rest (l.count - l._k) l.matched postings
