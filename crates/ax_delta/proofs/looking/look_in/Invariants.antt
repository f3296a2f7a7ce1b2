use Rattle.std.proofs.Common.{◌-◌, List}
use Rattle.ax_delta.specs.Changes.{TermChange}
use Rattle.ax_delta.specs.ChangeList.{IsChangeList}
use Rattle.ax_delta.proofs.Searching.{IsSearch}
use Rattle.ax_delta.proofs.looking.look_in.Given as goal

abbrev pub invariant-loop-k : goal.invariant-loop-k
invariant-loop-k l = (changes : List TermChange) → IsChangeList l.count l.list changes → IsSearch l.sought l.rest l.number (l.count - l._k) l.matched changes
