use Rattle.std.proofs.Common.{◌∙◌, List, [], length, sym}
use Rattle.std.proofs.lemmas.Bool.{false≢true}
use Rattle.ax_delta.specs.Changes.{TermChange}
use Rattle.ax_delta.specs.ChangeList.{IsChangeList}
use Rattle.ax_delta.specs.Payload.{list_after, IsDelta}
use Rattle.ax_delta.proofs.Whole.{delta_parts, list_of, whole_delta, listed, listed_seen}
use Rattle.ax_delta.proofs.delta.check.Goals as goal
use Rattle.ax_delta.proofs.delta.check.Goals.{In_ok-count}

pub returns-in_err-count-clause-only : goal.returns-in_err-count-clause-only
returns-in_err-count-clause-only c changes is =
    absurd (c.in_err-count.ensures.only (length changes) (list_after [] changes) is.some is.count (delta_parts c.args.payload.now changes is))

behind : (c : In_ok-count) (changes : List TermChange) → IsDelta c.args.payload.now changes → IsChangeList c.in_ok-count.count c.in_ok-count.list.now changes
behind c changes is =
    let same = c.in_ok-count.ensures.only (length changes) (list_after [] changes) is.some is.count (delta_parts c.args.payload.now changes is) in
    list_of c.args.payload.now c.in_ok-count.list.now c.in_ok-count.count changes is same.0 same.1

pub returns-then-not-is_change_list-clause-only : goal.returns-then-not-is_change_list-clause-only
returns-then-not-is_change_list-clause-only c changes is =
    let list = behind (goal.at.returns-then-not-is_change_list-clause-only c).In_ok-count changes is in
    absurd (false≢true (sym c.if-not-is_change_list.true ∙ c.is_change_list.ensures.1 (changes, list)))

pub invariant_of-result : goal.invariant_of-result
invariant_of-result c = listed c.in_ok-count.count c.in_ok-count.list.now (c.is_change_list.ensures.0 c.if-not-is_change_list.false)

pub returns-clause-found : goal.returns-clause-found
returns-clause-found c =
    whole_delta c.args.payload.now c.in_ok-count.list.now c.in_ok-count.count _ c.in_ok-count.ensures.found c.in_ok-count.ensures.fits.0
    c.in_ok-count.ensures.fits.1
    (listed c.in_ok-count.count c.in_ok-count.list.now (c.is_change_list.ensures.0 c.if-not-is_change_list.false))

pub returns-clause-only : goal.returns-clause-only
returns-clause-only c changes is =
    let list = behind (goal.at.returns-clause-only c).In_ok-count changes is in
    listed_seen c.in_ok-count.count c.in_ok-count.list.now changes list
